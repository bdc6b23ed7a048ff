-- From each front of a program some program goes on, and a fault of the grammar stands at the first token with which none does.
use Rattle.std.proofs.Common.{◌≡◌, ◌⊎◌, inl, inr, ℕ, List, [], ◌∷◌, ◌++◌, refl, sym, ap, ◌∙◌, subst, append_assoc}
use Rattle.std.proofs.lemmas.List.{append_cancel_right}
use Rattle.vx_ast.specs.declared.fault.SourceFault.{SourceFault}
use Rattle.vx_ast.specs.declared.fault.SourceFault.TheVariants.{Bad}
use Rattle.vx_ast.specs.declared.token.TokenKind.TheVariants as kinds
use Rattle.vx_ast.specs.declared.token.Token.{Token}
use Rattle.vx_ast.specs.Tree.{Row}
use Rattle.vx_ast.specs.Syntax as syntax
use Rattle.vx_ast.specs.Phrases.{Program, Part, A, Derivation, Is, nothing, token, phrase, Begins, reached, reached_behind, reached_inside, reached_after, IsProgram, Unexpected}
use Rattle.vx_ast.specs.Derivations.{TooDeep}
use Rattle.vx_ast.specs.Reads.{Parses, Misparses, unexpected, too_deep}
use Rattle.vx_parse.proofs.Ways.{two_fronts}
use Rattle.vx_parse.proofs.Fills.{a_token, fill, fill_all}
use Rattle.vx_parse.proofs.Fronts.{Left, none_left, token_left, begun_left, after_left, front_of}
use Rattle.vx_parse.proofs.Fronts as stops
use Rattle.vx_sources.specs.Fronts.{IsFront, BegunIsFront, FrontIsBegun, FirstUnexpected, FaultIsFirst, FirstIsFault}
use Rattle.vx_sources.proofs.Sources.{begun, ends, tokens_are_parsed_or_not}

-- what begins goes on

record Reached (parts : List Part) (ts rest : List Token) : Type 0 where
  front : List Token
  is : ts ≡ front ++ rest
  more : Left parts front

reached_at : {parts : List Part} {ts rest : List Token} {d : Derivation Row} → Begins parts ts d rest → Reached parts ts rest
reached_at (reached {parts} {rest}) = record { front = []; is = refl; more = none_left parts }
reached_at (reached_behind {t} f b) = let x = reached_at b in record { front = t ∷ x.front; is = ap (λ l. t ∷ l) x.is; more = token_left t f x.more }
reached_at {rest} (reached_inside p inner {parts} {t} {ts} {d} k b) = let x = reached_at b in record { front = x.front; is = x.is; more = begun_left p inner parts t ts rest x.front k x.is x.more }
reached_at {rest} (reached_after p inner {parts} {t} {ts} {mid} {d} {e} k i b) =
    let y = front_of i in
    let x = reached_at b in
    record { front = y.front ++ x.front; is = two_fronts rest y.front x.front y.is x.is; more = after_left p inner parts t ts mid rest x.front d k y x.is x.more }

whole : (front : List Token) → Left (A Program ∷ []) front → IsFront front
whole front more =
    let end : Token = a_token kinds.End in
    let filled = fill_all more.left end [] (more.good kinds.End (refl, tt)) in
    let is = more.resume (fill more.left ++ end ∷ []) (end ∷ []) filled.derivation filled.is in
    (fill more.left ++ end ∷ [], record { derivation = is.0; ended = end; last = refl; is = is.1 })

pub begun_is_front : BegunIsFront
begun_is_front front rest d b = let x = reached_at b in subst IsFront (append_cancel_right x.front front rest (sym x.is)) (whole x.front x.more)

-- each front is begun

data Cut (ps : List Part) (ts rest other : List Token) : Type 0 where
  within : (d : Derivation Row) → Begins ps ts d other → Cut ps ts rest other
  beyond : (more : List Token) → rest ≡ more ++ other → Cut ps ts rest other

here : (ps : List Part) (ts rest other : List Token) → ts ≡ other → Cut ps ts rest other
here ps ts rest other e = subst (λ (l : List Token). Cut ps l rest other) (sym e) (within _ reached)

cut : {ps : List Part} {ts rest : List Token} {d : Derivation Row} → Is ps ts d rest → (front other : List Token) → ts ≡ front ++ other → Cut ps ts rest other
cut nothing front other e = beyond front e
cut (token {part} {parts} {t} {ts} {rest} f i) [] other e = here (part ∷ parts) (t ∷ ts) rest other e
cut (token {part} {parts} {t} {ts} {rest} f i) (u ∷ us) other e = by (cut i us other (let h = e in cc))
  where
    by : Cut parts ts rest other → Cut (part ∷ parts) (t ∷ ts) rest other
    by (within d b) = within _ (reached_behind f b)
    by (beyond more h) = beyond more h
cut (phrase p inner {parts} {t} {ts} {mid} {rest} k j i) front other e = by (cut j front other e) (λ more h. cut i more other h)
  where
    later : Cut parts mid rest other → Cut (A p ∷ parts) (t ∷ ts) rest other
    later (within d b) = within _ (reached_after p inner k j b)
    later (beyond more h) = beyond more h

    by : Cut inner (t ∷ ts) mid other → ((more : List Token) → mid ≡ more ++ other → Cut parts mid rest other) → Cut (A p ∷ parts) (t ∷ ts) rest other
    by (within d b) next = within _ (reached_inside p inner k b)
    by (beyond more h) next = later (next more h)

none_left_over : (us rest : List Token) (t : Token) → [] ≡ us ++ t ∷ rest → ⊥
none_left_over [] rest t e = cc
none_left_over (u ∷ us) rest t e = cc

to_the_end : (ts more rest : List Token) (t ended : Token) (d : Derivation Row) → Is (A Program ∷ []) ts d (ended ∷ []) → ended ∷ [] ≡ more ++ t ∷ rest → (e : Derivation Row) × Begins (A Program ∷ []) ts e (t ∷ rest)
to_the_end ts [] rest t ended d i e = (d, subst (λ (l : List Token). Begins (A Program ∷ []) ts d l) e (begun i))
to_the_end ts (u ∷ us) rest t ended d i e = let h : [] ≡ us ++ t ∷ rest = cc in absurd (none_left_over us rest t h)

pub front_is_begun : FrontIsBegun
front_is_begun front rest t p = by (cut p.is front (t ∷ rest) refl)
  where
    by : Cut (A Program ∷ []) (front ++ t ∷ rest) (p.ended ∷ []) (t ∷ rest) → (d : Derivation Row) × Begins (A Program ∷ []) (front ++ t ∷ rest) d (t ∷ rest)
    by (within d b) = (d, b)
    by (beyond more e) = to_the_end (front ++ t ∷ rest) more rest t p.ended p.derivation p.is e

-- a fault is the first such token

first_by : (ts : List Token) (line column : ℕ) (f : SourceFault) → Misparses ts f → f ≡ Bad 4 line column → (t : Token) × (FirstUnexpected ts t × ((t.line ≡ line) × (t.column ≡ column)))
first_by ts line column f (unexpected {t} l) e =
    let x = stops.unexpected ts l.rest t l.derivation l.stuck in
    let a : t.line ≡ line = cc in
    let b : t.column ≡ column = cc in
    (t, (record { front = x.0; rest = l.rest; is = x.1; unexpected = x.2 }, (a, b)))
first_by ts line column f (too_deep d) e = absurd (cc)

pub fault_is_first : FaultIsFirst
fault_is_first ts line column m = first_by ts line column (Bad 4 line column) m refl

-- one list cut at two places
data Places (xs ys : List Token) (t u : Token) : Type 0 where
  together : t ≡ u → Places xs ys t u
  sooner : (more : List Token) → ys ≡ xs ++ t ∷ more → Places xs ys t u
  later : (more : List Token) → xs ≡ ys ++ u ∷ more → Places xs ys t u

places : (xs ys : List Token) (t u : Token) (rs ss : List Token) → xs ++ t ∷ rs ≡ ys ++ u ∷ ss → Places xs ys t u
places [] [] t u rs ss e = together (let h = e in cc)
places [] (y ∷ ys) t u rs ss e = let h : t ≡ y = cc in sooner ys (ap (λ (z : Token). z ∷ ys) (sym h))
places (x ∷ xs) [] t u rs ss e = let h : x ≡ u = cc in later xs (ap (λ (z : Token). z ∷ xs) h)
places (x ∷ xs) (y ∷ ys) t u rs ss e = let h : x ≡ y = cc in let i : xs ++ t ∷ rs ≡ ys ++ u ∷ ss = cc in by h (places xs ys t u rs ss i)
  where
    by : x ≡ y → Places xs ys t u → Places (x ∷ xs) (y ∷ ys) t u
    by h (together e) = together e
    by h (sooner more e) = sooner more (ap (λ (z : Token). z ∷ ys) (sym h) ∙ ap (λ (l : List Token). x ∷ l) e)
    by h (later more e) = later more (ap (λ (z : Token). z ∷ xs) h ∙ ap (λ (l : List Token). y ∷ l) e)

-- with a token in a front of a program some program goes on
not_in_front : (front ys more : List Token) (t : Token) → Unexpected front t → IsFront ys → ys ≡ front ++ t ∷ more → ⊥
not_in_front front ys more t x f e = x.never (more ++ f.0) (subst IsProgram (ap (λ (l : List Token). l ++ f.0) e ∙ append_assoc front (t ∷ more) f.0) f.1)

same_place : (ts : List Token) (t u : Token) → FirstUnexpected ts t → FirstUnexpected ts u → t ≡ u
same_place ts t u x y = by (places x.front y.front t u x.rest y.rest (sym x.is ∙ y.is))
  where
    by : Places x.front y.front t u → t ≡ u
    by (together e) = e
    by (sooner more e) = absurd (not_in_front x.front y.front more t x.unexpected y.unexpected.before e)
    by (later more e) = absurd (not_in_front y.front x.front more u y.unexpected x.unexpected.before e)

no_program : (ts : List Token) (t : Token) (tree : syntax.Program) → FirstUnexpected ts t → Parses ts tree → ⊥
no_program ts t tree x p =
    x.unexpected.never x.rest (subst IsProgram x.is (record { derivation = p.derivation; ended = p.last; last = ends p.is refl; is = p.is }))

first_fault_by : (ts : List Token) (t : Token) (f : SourceFault) → FirstUnexpected ts t → Misparses ts f → Misparses ts (Bad 4 t.line t.column) ⊎ TooDeep ts
first_fault_by ts t f x (unexpected {t = u} l) =
    let y = stops.unexpected ts l.rest u l.derivation l.stuck in
    let e : u ≡ t = same_place ts u t (record { front = y.0; rest = l.rest; is = y.1; unexpected = y.2 }) x in
    inl (subst (λ (z : Token). Misparses ts (Bad 4 z.line z.column)) e (unexpected l))
first_fault_by ts t f x (too_deep d) = inr d

pub first_is_fault : FirstIsFault
first_is_fault ts t e x = by (tokens_are_parsed_or_not ts e)
  where
    by : ((tree : syntax.Program) × Parses ts tree) ⊎ ((fault : SourceFault) × Misparses ts fault) → Misparses ts (Bad 4 t.line t.column) ⊎ TooDeep ts
    by (inl p) = absurd (no_program ts t p.0 x p.1)
    by (inr m) = first_fault_by ts t m.0 x m.1
