-- Every list of tokens that ends with the end token begins with given parts of rules, or is stuck in them. By the number of
-- tokens, and where none is taken by the rank of the phrase.
use Rattle.std.proofs.Common.{◌≡◌, ◌≢◌, ◌≤◌, ◌<◌, ◌⊎◌, inl, inr, ℕ, zero, suc, Bool, true, false, nat_lt, not, ◌&&◌, ◌||◌, Option, Some, None, IfSome, List, [], ◌∷◌, length, refl, arith}
use Rattle.std.specs.List.{list_all}
use Rattle.std.proofs.lemmas.Bool.{and_parts, ltb-true}
use Rattle.vx_ast.specs.declared.token.TokenKind.TheVariants as kinds
use Rattle.vx_ast.specs.declared.token.Token.{Token}
use Rattle.vx_ast.specs.Tree.{Row}
use Rattle.vx_ast.specs.Phrases.{Phrase, Part, The, AName, ANumber, AString, A, Fits, parts_of, Derivation, Leaf, Node, NoMore, Then, Is, nothing, token, phrase, Stuck, unfit, behind, no_phrase, inside, after}
use Rattle.vx_parse.specs.Reading.{Ended}
use Rattle.vx_sources.proofs.Fits.{is_part, fits_or_not, no_end}
use Rattle.vx_sources.proofs.Rules.{rank, takes, takes_row, leads, is_fine, fine}

-- what comes of reading parts
pub data Tried (ps : List Part) (ts : List Token) : Type 0 where
  read : (d : Derivation Row) (rest : List Token) → Is ps ts d rest → Ended rest → length rest ≤ length ts → (takes_row ps ≡ true → length rest < length ts) → Tried ps ts
  stuck : (d : Derivation Row) (u : Token) (rest : List Token) → Stuck ps ts d (u ∷ rest) → Tried ps ts

-- what comes of reading a phrase
data TriedPhrase (p : Phrase) (t : Token) (ts : List Token) : Type 0 where
  whole : (inner : List Part) (d : Derivation Row) (rest : List Token) → parts_of p t.kind ≡ Some inner → Is inner (t ∷ ts) d rest → Ended rest → length rest ≤ length (t ∷ ts)
      → (takes p ≡ true → length rest < length (t ∷ ts)) → TriedPhrase p t ts
  in_part : (inner : List Part) (d : Derivation Row) (u : Token) (rest : List Token) → parts_of p t.kind ≡ Some inner → Stuck inner (t ∷ ts) d (u ∷ rest) → TriedPhrase p t ts
  none : parts_of p t.kind ≡ None → TriedPhrase p t ts

-- every phrase at tokens of a list of so many
abbrev Tries : ℕ → Type 0
Tries n = (p : Phrase) (t : Token) (ts : List Token) → is_part (A p) ≡ true → Ended (t ∷ ts) → length (t ∷ ts) ≤ n → TriedPhrase p t ts

-- every phrase below a rank
abbrev TriesBelow : (r n : ℕ) → Type 0
TriesBelow r n = (p : Phrase) (t : Token) (ts : List Token) → is_part (A p) ≡ true → Ended (t ∷ ts) → length (t ∷ ts) ≤ n → rank p < r → TriedPhrase p t ts

-- one token

ended_tail : (t : Token) (ts : List Token) → Ended (t ∷ ts) → t.kind ≢ kinds.End → Ended ts
ended_tail t [] e n = absurd (n e)
ended_tail t (u ∷ us) e n = e.1

put_token : (q : Part) (ps : List Part) (t : Token) (ts : List Token) → Fits q t.kind → Tried ps ts → Tried (q ∷ ps) (t ∷ ts)
put_token q ps t ts f (read d rest i e few less) = read (Then (Leaf t) d) rest (token f i) e (omega arith) (λ h. omega arith)
put_token q ps t ts f (stuck d u rest s) = stuck (Then (Leaf t) d) u rest (behind f s)

with_token : (q : Part) (ps : List Part) (t : Token) (ts : List Token) → ((p : Phrase) → q ≡ A p → ⊥) → is_part q ≡ true → Ended (t ∷ ts) → (Ended ts → Tried ps ts) → Fits q t.kind ⊎ (Fits q t.kind → ⊥) → Tried (q ∷ ps) (t ∷ ts)
with_token q ps t ts sign h e more (inl f) = put_token q ps t ts f (more (ended_tail t ts e (no_end q t.kind h f)))
with_token q ps t ts sign h e more (inr n) = stuck NoMore t ts (unfit sign n)

-- a phrase, and what comes behind it

either : (a b : Bool) → (a || b) ≡ true → (a ≡ true) ⊎ (b ≡ true)
either true b h = inl refl
either false b h = inr h

put_phrase : (p : Phrase) (inner ps : List Part) (t : Token) (ts mid : List Token) (d : Derivation Row) → parts_of p t.kind ≡ Some inner → Is inner (t ∷ ts) d mid → length mid ≤ length (t ∷ ts)
    → (takes p ≡ true → length mid < length (t ∷ ts)) → Tried ps mid → Tried (A p ∷ ps) (t ∷ ts)
put_phrase p inner ps t ts mid d k j fewer taken (read e rest i ended few less) = read (Then (Node p d) e) rest (phrase p inner k j i) ended (omega arith) (λ h. by (either (takes p) (takes_row ps) h))
  where
    by : (takes p ≡ true) ⊎ (takes_row ps ≡ true) → length rest < length (t ∷ ts)
    by (inl h) = let a = taken h in omega arith
    by (inr h) = let a = less h in omega arith
put_phrase p inner ps t ts mid d k j fewer taken (stuck e u rest s) = stuck (Then (Node p d) e) u rest (after p inner k j s)

with_phrase : (p : Phrase) (ps : List Part) (t : Token) (ts : List Token) → TriedPhrase p t ts
    → ((mid : List Token) → Ended mid → length mid ≤ length (t ∷ ts) → (takes p ≡ true → length mid < length (t ∷ ts)) → Tried ps mid) → Tried (A p ∷ ps) (t ∷ ts)
with_phrase p ps t ts (whole inner d mid k j e fewer taken) more = put_phrase p inner ps t ts mid d k j fewer taken (more mid e fewer taken)
with_phrase p ps t ts (in_part inner d u rest k s) more = stuck (Then (Node p d) NoMore) u rest (inside p inner k s)
with_phrase p ps t ts (none k) more = stuck NoMore t ts (no_phrase p k)

-- parts that begin with one token, and those behind it
sign_first : (n : ℕ) (q : Part) (ps : List Part) (t : Token) (ts : List Token) → ((p : Phrase) → q ≡ A p → ⊥) → (is_part q && list_all is_part ps) ≡ true → Ended (t ∷ ts) → length (t ∷ ts) ≤ suc n
    → (list_all is_part ps ≡ true → Ended ts → length ts ≤ n → Tried ps ts) → Tried (q ∷ ps) (t ∷ ts)
sign_first n q ps t ts sign h e few more =
    let both = and_parts (is_part q) (list_all is_part ps) h in
    with_token q ps t ts sign both.0 e (λ later. more both.1 later (omega arith)) (fits_or_not q t.kind both.0)

-- parts, where every phrase at so many tokens is read or stuck
all_parts : (n : ℕ) → Tries n → (ps : List Part) (ts : List Token) → list_all is_part ps ≡ true → Ended ts → length ts ≤ n → Tried ps ts
all_parts n tries [] ts h e few = read NoMore ts nothing e (omega arith) (λ z. let i : false ≡ true = z in cc)
all_parts n tries (q ∷ ps) [] h e few = absurd e
all_parts n tries (The k ∷ ps) (t ∷ ts) h e few = sign_first n (The k) ps t ts (λ p i. cc) h e (omega arith) (all_parts n tries ps ts)
all_parts n tries (AName ∷ ps) (t ∷ ts) h e few = sign_first n AName ps t ts (λ p i. cc) h e (omega arith) (all_parts n tries ps ts)
all_parts n tries (ANumber ∷ ps) (t ∷ ts) h e few = sign_first n ANumber ps t ts (λ p i. cc) h e (omega arith) (all_parts n tries ps ts)
all_parts n tries (AString ∷ ps) (t ∷ ts) h e few = sign_first n AString ps t ts (λ p i. cc) h e (omega arith) (all_parts n tries ps ts)
all_parts n tries (A p ∷ ps) (t ∷ ts) h e few =
    let both = and_parts (is_part (A p)) (list_all is_part ps) h in
    with_phrase p ps t ts (tries p t ts both.0 e few) (λ mid later fewer taken. all_parts n tries ps mid both.1 later (omega arith))

-- parts, where with one token more every phrase below a rank is read or stuck
leading : (n r : ℕ) → Tries n → TriesBelow r (suc n) → (ps : List Part) (ts : List Token) → list_all is_part ps ≡ true → leads r ps ≡ true → Ended ts → length ts ≤ suc n → Tried ps ts
leading n r tries below [] ts h l e few = read NoMore ts nothing e (omega arith) (λ z. let i : false ≡ true = z in cc)
leading n r tries below (q ∷ ps) [] h l e few = absurd e
leading n r tries below (The k ∷ ps) (t ∷ ts) h l e few = sign_first n (The k) ps t ts (λ p i. cc) h e few (all_parts n tries ps ts)
leading n r tries below (AName ∷ ps) (t ∷ ts) h l e few = sign_first n AName ps t ts (λ p i. cc) h e few (all_parts n tries ps ts)
leading n r tries below (ANumber ∷ ps) (t ∷ ts) h l e few = sign_first n ANumber ps t ts (λ p i. cc) h e few (all_parts n tries ps ts)
leading n r tries below (AString ∷ ps) (t ∷ ts) h l e few = sign_first n AString ps t ts (λ p i. cc) h e few (all_parts n tries ps ts)
leading n r tries below (A p ∷ ps) (t ∷ ts) h l e few =
    let both = and_parts (is_part (A p)) (list_all is_part ps) h in
    let low = and_parts (nat_lt (rank p) r) (takes p || leads r ps) l in
    with_phrase p ps t ts (below p t ts both.0 e few (ltb-true (rank p) r low.0)) (λ mid later fewer taken.
    elim (either (takes p) (leads r ps) low.1) [
      | inl h' ↦ let less = taken h' in all_parts n tries ps mid both.1 later (omega arith)
      | inr m ↦ leading n r tries below ps mid both.1 m later (omega arith)
    ])

-- a phrase, of which its parts are read or stuck

taken_too : (a b : Bool) → (not a || b) ≡ true → a ≡ true → b ≡ true
taken_too true b h e = h
taken_too false b h e = let i : false ≡ true = e in cc

of_parts : (p : Phrase) (inner : List Part) (t : Token) (ts : List Token) → parts_of p t.kind ≡ Some inner → (not (takes p) || takes_row inner) ≡ true → Tried inner (t ∷ ts) → TriedPhrase p t ts
of_parts p inner t ts k h (read d rest i e fewer less) = whole inner d rest k i e fewer (λ a. less (taken_too (takes p) (takes_row inner) h a))
of_parts p inner t ts k h (stuck d u rest s) = in_part inner d u rest k s

expand : (n : ℕ) (p : Phrase) → Tries n → TriesBelow (rank p) (suc n) → (t : Token) (ts : List Token) → is_part (A p) ≡ true → Ended (t ∷ ts) → length (t ∷ ts) ≤ suc n → TriedPhrase p t ts
expand n p tries below t ts h e few = by (parts_of p t.kind) refl (fine p t.kind h)
  where
    by : (o : Option (List Part)) → parts_of p t.kind ≡ o → IfSome o (λ inner. is_fine p inner ≡ true) → TriedPhrase p t ts
    by None k f = none k
    by (Some inner) k f =
        let a = and_parts (list_all is_part inner) (leads (rank p) inner && (not (takes p) || takes_row inner)) f in
        let b = and_parts (leads (rank p) inner) (not (takes p) || takes_row inner) a.1 in
        of_parts p inner t ts k b.1 (leading n (rank p) tries below inner (t ∷ ts) a.0 b.0 e few)

by_rank : (r n : ℕ) → Tries n → (p : Phrase) (t : Token) (ts : List Token) → is_part (A p) ≡ true → Ended (t ∷ ts) → length (t ∷ ts) ≤ suc n → rank p < r → TriedPhrase p t ts
by_rank zero n tries p t ts h e few low = absurd (omega arith)
by_rank (suc r) n tries p t ts h e few low = expand n p tries (λ q u us i later fewer lower. by_rank r n tries q u us i later fewer (omega arith)) t ts h e few

by_tokens : (n : ℕ) (p : Phrase) (t : Token) (ts : List Token) → is_part (A p) ≡ true → Ended (t ∷ ts) → length (t ∷ ts) ≤ n → TriedPhrase p t ts
by_tokens zero p t ts h e few = absurd (omega arith)
by_tokens (suc n) p t ts h e few = by_rank (suc (rank p)) n (by_tokens n) p t ts h e few (omega arith)

pub tried : (ps : List Part) (ts : List Token) → list_all is_part ps ≡ true → Ended ts → Tried ps ts
tried ps ts h e = all_parts (length ts) (by_tokens (length ts)) ps ts h e (omega arith)
