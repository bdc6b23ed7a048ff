-- Every source has one answer.
use Rattle.std.proofs.Common.{◌≡◌, ◌≤◌, ◌<◌, ◌⊎◌, inl, inr, ℕ, Bool, true, false, Option, Some, None, IfSome, List, [], ◌∷◌, length, refl, sym, ap, ◌∙◌, subst}
use Rattle.std.proofs.lemmas.Bool.{cases_lt}
use Rattle.vx_ast.specs.declared.fault.SourceFault.{SourceFault}
use Rattle.vx_ast.specs.declared.fault.SourceFault.TheVariants.{Bad, Limit}
use Rattle.vx_ast.specs.declared.token.Keyword.TheVariants as words
use Rattle.vx_ast.specs.declared.token.TokenKind.{TokenKind}
use Rattle.vx_ast.specs.declared.token.TokenKind.TheVariants as kinds
use Rattle.vx_ast.specs.declared.token.Token.{Token}
use Rattle.vx_ast.specs.declared.names.Fault.{Fault}
use Rattle.vx_ast.specs.Tree.{Row}
use Rattle.vx_ast.specs.Syntax as syntax
use Rattle.vx_ast.specs.Tokens.{Lexes, Refuses}
use Rattle.vx_ast.specs.Phrases as phrases
use Rattle.vx_ast.specs.Phrases.{Phrase, Part, The, AName, ANumber, AString, A, Fits, parts_of, Derivation, Is, nothing, token, phrase, Stuck, unfit, behind, no_phrase, inside, after, Begins, reached, reached_behind, reached_inside, reached_after}
use Rattle.vx_ast.specs.Derivations.{program_of, depth_of}
use Rattle.vx_ast.specs.Faults.{first_fault}
use Rattle.vx_ast.specs.Resolved.{resolved}
use Rattle.vx_ast.specs.Accepted.{Over, limit_of}
use Rattle.vx_ast.specs.Reads.{most_bytes, Parses, Misparses, unexpected, too_deep, Missuits, faulty, over, too_long, in_tokens, in_grammar, in_names}
use Rattle.vx_ast.proofs.TokenLaws.{read_or_refused}
use Rattle.vx_parse.specs.Reading.{Ended, next_kind}
use Rattle.vx_parse.proofs.Ends.{tokens_end}
use Rattle.vx_parse.proofs.Wholes.{one_program, read_or_not, one_refusal}
use Rattle.vx_sources.specs.Answers.{Answer, ComesTo, Accepted, Refused, EverySourceIsAnswered, AnsweredOnce, TokensAreParsedOrNot}
use Rattle.vx_sources.proofs.Totals.{Tried, read, stuck, tried}

-- what is read or stuck is begun

pub begun : {ps : List Part} {ts rest : List Token} {d : Derivation Row} → Is ps ts d rest → Begins ps ts d rest
begun nothing = reached
begun (token f i) = reached_behind f (begun i)
begun (phrase p inner k j i) = reached_after p inner k j (begun i)

begun_stuck : {ps : List Part} {ts rest : List Token} {d : Derivation Row} → Stuck ps ts d rest → Begins ps ts d rest
begun_stuck (unfit n u) = reached
begun_stuck (behind f s) = reached_behind f (begun_stuck s)
begun_stuck (no_phrase p n) = reached
begun_stuck (inside p inner k s) = reached_inside p inner k (begun_stuck s)
begun_stuck (after p inner k j s) = reached_after p inner k j (begun_stuck s)

-- a program ends where the end token stands

abbrev is_program : Part → Bool
is_program (A phrases.Program) = true
is_program q = false

-- the last of these parts is a program
abbrev ends_in_program : List Part → Bool
ends_in_program [] = false
ends_in_program (q ∷ []) = is_program q
ends_in_program (q ∷ r ∷ ps) = ends_in_program (r ∷ ps)

no_program : (q : Part) (k : TokenKind) → Fits q k → is_program q ≡ true → ⊥
no_program (The m) k f h = cc
no_program AName k f h = cc
no_program ANumber k f h = cc
no_program AString k f h = cc
no_program (A p) k f h = f

only_program : (p : Phrase) → is_program (A p) ≡ true → p ≡ phrases.Program
only_program phrases.Program h = refl
only_program p h = let e : false ≡ true = h in cc

program_rules : (k : TokenKind) → IfSome (parts_of phrases.Program k) (λ inner. ((k ≡ kinds.End) × (inner ≡ [])) ⊎ (ends_in_program inner ≡ true))
unfolding parts_of
program_rules kinds.End = inl (refl, refl)
program_rules (kinds.Keyword words.Int) = inr refl
program_rules (kinds.Keyword words.Void) = inr refl
program_rules t = tt

program_rule : (k : TokenKind) (inner : List Part) → parts_of phrases.Program k ≡ Some inner → ((k ≡ kinds.End) × (inner ≡ [])) ⊎ (ends_in_program inner ≡ true)
program_rule k inner e = subst (λ (o : Option (List Part)). IfSome o (λ inner. ((k ≡ kinds.End) × (inner ≡ [])) ⊎ (ends_in_program inner ≡ true))) e (program_rules k)

none_read : {ts rest : List Token} {d : Derivation Row} → Is [] ts d rest → ts ≡ rest
none_read nothing = refl

behind_token : (q : Part) (ps : List Part) (k : TokenKind) (G : Type 0) → Fits q k → ends_in_program (q ∷ ps) ≡ true → (ends_in_program ps ≡ true → G) → G
behind_token q [] k G f h more = absurd (no_program q k f h)
behind_token q (r ∷ ps) k G f h more = more h

in_program : (t : Token) (ts mid : List Token) (inner : List Part) (d : Derivation Row) → ((t.kind ≡ kinds.End) × (inner ≡ [])) ⊎ (ends_in_program inner ≡ true) → Is inner (t ∷ ts) d mid
    → (ends_in_program inner ≡ true → next_kind mid ≡ kinds.End) → next_kind mid ≡ kinds.End
in_program t ts mid inner d (inl e) i more = let same : t ∷ ts ≡ mid = none_read (subst (λ (ps : List Part). Is ps (t ∷ ts) d mid) e.1 i) in ap next_kind (sym same) ∙ e.0
in_program t ts mid inner d (inr h) i more = more h

behind_phrase : (p : Phrase) (inner ps : List Part) (t : Token) (ts mid rest : List Token) (d e : Derivation Row) → parts_of p t.kind ≡ Some inner → ends_in_program (A p ∷ ps) ≡ true → Is inner (t ∷ ts) d mid → Is ps mid e rest
    → (ends_in_program inner ≡ true → next_kind mid ≡ kinds.End) → (ends_in_program ps ≡ true → next_kind rest ≡ kinds.End) → next_kind rest ≡ kinds.End
behind_phrase p inner [] t ts mid rest d e k h j i within more =
    let is : p ≡ phrases.Program = only_program p h in
    let rule = program_rule t.kind inner (subst (λ (z : Phrase). parts_of z t.kind ≡ Some inner) is k) in
    ap next_kind (sym (none_read i)) ∙ in_program t ts mid inner d rule j within
behind_phrase p inner (r ∷ ps) t ts mid rest d e k h j i within more = more h

pub ends : {ps : List Part} {ts rest : List Token} {d : Derivation Row} → Is ps ts d rest → ends_in_program ps ≡ true → next_kind rest ≡ kinds.End
ends nothing h = let e : false ≡ true = h in cc
ends {rest} (token {part} {parts} {t} f i) h = behind_token part parts t.kind (next_kind rest ≡ kinds.End) f h (λ l. ends i l)
ends {rest} (phrase p inner {parts} {t} {ts} {mid} {d} {e} k j i) h = behind_phrase p inner parts t ts mid rest d e k h j i (λ l. ends j l) (λ l. ends i l)

-- the end token alone
record Alone (rest : List Token) : Type 0 where
  last : Token
  is : rest ≡ last ∷ []

alone : (rest : List Token) → Ended rest → next_kind rest ≡ kinds.End → Alone rest
alone [] e h = absurd e
alone (t ∷ []) e h = record { last = t; is = refl }
alone (t ∷ u ∷ ts) e h = absurd (e.0 h)

-- tokens

abbrev a_program : List Part
a_program = A phrases.Program ∷ []

abbrev Parsed : List Token → Type 0
Parsed ts = ((tree : syntax.Program) × Parses ts tree) ⊎ ((fault : SourceFault) × Misparses ts fault)

parsed : (ts rest : List Token) (d : Derivation Row) → Is a_program ts d rest → Alone rest → (200 < depth_of d) ⊎ (depth_of d ≤ 200) → Parsed ts
parsed ts rest d i a (inl h) = inr (Limit 2 201, too_deep (record { derivation = d; rest = rest; begins = begun i; deep = h }))
parsed ts rest d i a (inr h) =
    inl (program_of d a.last, record { derivation = d; last = a.last; is = subst (λ (l : List Token). Is a_program ts d l) a.is i; shallow = h; is_tree = refl })

left_off : (ts rest : List Token) (t : Token) (d : Derivation Row) → Stuck a_program ts d (t ∷ rest) → (200 < depth_of d) ⊎ (depth_of d ≤ 200) → Parsed ts
left_off ts rest t d s (inl h) = inr (Limit 2 201, too_deep (record { derivation = d; rest = t ∷ rest; begins = begun_stuck s; deep = h }))
left_off ts rest t d s (inr h) = inr (Bad 4 t.line t.column, unexpected (record { derivation = d; rest = rest; stuck = s; shallow = h }))

pub tokens_are_parsed_or_not : TokensAreParsedOrNot
tokens_are_parsed_or_not ts e = by (tried a_program ts refl e)
  where
    by : Tried a_program ts → Parsed ts
    by (read d rest i ended few less) = parsed ts rest d i (alone rest ended (ends i refl)) (cases_lt 200 (depth_of d))
    by (stuck d t rest s) = left_off ts rest t d s (cases_lt 200 (depth_of d))

-- names and limits

abbrev SuitsOrNot : syntax.Program → Type 0
SuitsOrNot tree = ((first_fault tree ≡ None) × (limit_of (resolved tree) ≡ None)) ⊎ ((fault : SourceFault) × Missuits tree fault)

suited : (tree : syntax.Program) (f : Option Fault) (o : Option Over) → first_fault tree ≡ f → limit_of (resolved tree) ≡ o → SuitsOrNot tree
suited tree (Some f) o e h = inr (Bad f.code f.place.line f.place.column, faulty f e)
suited tree None (Some o) e h = inr (Limit o.number o.count, over o e h)
suited tree None None e h = inl (e, h)

-- sources

abbrev Answered : List ℕ → Type 0
Answered bytes = (answer : Answer) × ComesTo bytes answer

answered_tree : (bytes : List ℕ) (ts : List Token) (tree : syntax.Program) → length bytes ≤ most_bytes → Lexes bytes ts → Parses ts tree → SuitsOrNot tree → Answered bytes
answered_tree bytes ts tree short l p (inl h) =
    (Accepted (resolved tree), record { short = short; tokens = ts; lexes = l; tree = tree; parses = p; faultless = h.0; within = h.1; is_program = refl })
answered_tree bytes ts tree short l p (inr (f, m)) = (Refused f, in_names short l p m)

answered_tokens : (bytes : List ℕ) (ts : List Token) → length bytes ≤ most_bytes → Lexes bytes ts → Parsed ts → Answered bytes
answered_tokens bytes ts short l (inl (tree, p)) = answered_tree bytes ts tree short l p (suited tree (first_fault tree) (limit_of (resolved tree)) refl refl)
answered_tokens bytes ts short l (inr (f, m)) = (Refused f, in_grammar short l m)

answered : (bytes : List ℕ) → length bytes ≤ most_bytes → ((ts : List Token) × Lexes bytes ts) ⊎ ((f : SourceFault) × Refuses bytes f) → Answered bytes
answered bytes short (inl (ts, l)) = answered_tokens bytes ts short l (tokens_are_parsed_or_not ts (tokens_end l))
answered bytes short (inr (f, r)) = (Refused f, in_tokens short r)

pub every_source_is_answered : EverySourceIsAnswered
every_source_is_answered bytes = by (cases_lt most_bytes (length bytes))
  where
    by : (most_bytes < length bytes) ⊎ (length bytes ≤ most_bytes) → Answered bytes
    by (inl h) = (Refused (Limit 1 1048577), too_long h)
    by (inr h) = answered bytes h (read_or_refused bytes)

pub answered_once : AnsweredOnce
answered_once bytes (Accepted p) (Accepted q) x y = ap Accepted (one_program bytes p q x y)
answered_once bytes (Accepted p) (Refused f) x y = absurd (read_or_not bytes p f x y)
answered_once bytes (Refused f) (Accepted p) x y = absurd (read_or_not bytes p f y x)
answered_once bytes (Refused f) (Refused g) x y = ap Refused (one_refusal bytes f g x y)
