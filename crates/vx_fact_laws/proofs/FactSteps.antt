-- Facts are sound inside of a function: behind operations, on the sides of splits, as claims, for operands, tests and forms.
use Rattle.std.proofs.Common.{◌≡◌, inl, inr, ℕ, true, ℤ, Option, Some, None, List, [], ◌∷◌, refl, sym, ◌∙◌, subst, arith}
use Rattle.std.specs.List.{list_all}
use Rattle.std.proofs.lemmas.Int.{ints}
use Rattle.std.specs.Prelude.{int_le}
use Rattle.vx_flow.specs.declared.graph.Operand.TheVariants.{Held}
use Rattle.vx_flow.specs.Effects.{Content, State, Setting, IsIn, is_one, effect}
use Rattle.vx_claims.specs.declared.intervals.Interval.{Interval}
use Rattle.vx_claims.specs.declared.access.Access.{Access}
use Rattle.vx_claims.specs.declared.fact.Fact.{Fact}
use Rattle.vx_claims.specs.declared.fact.Fact.TheVariants.{Between, Congruent, Equals, Never}
use Rattle.vx_claims.specs.Residues.{Agrees}
use Rattle.vx_claims.specs.Facts.{full, Within, Holds, AllHold, range_of, residue_of}
use Rattle.vx_claims.specs.Accesses.{accessed}
use Rattle.vx_claims.specs.Forming.{form, after_known}
use Rattle.vx_claims.specs.Claims.{is_inside, is_never, gives, give}
use Rattle.vx_narrow.specs.Checking.{has_numbers}
use Rattle.vx_narrow.proofs.Congruences.{implied_holds}
use Rattle.vx_narrow.proofs.Ranges.{and_one, and_two, le_holds, Fit, range_of_holds, residue_of_holds}
use Rattle.vx_narrow.proofs.Equal.{has_holds}
use Rattle.vx_narrow.proofs.Tests.{side_holds, decided_side}
use Rattle.vx_narrow.proofs.Operations.{held_is, NumbersFit, StateFit}
use Rattle.vx_narrow.proofs.Accesses.{accessed_tell, tell_holds}
use Rattle.vx_narrow.proofs.Products.{shortened_same}
use Rattle.vx_narrow.proofs.Behind.{Follows, form_follows, Known, KeepsKnown, form_known}
use Rattle.vx_fact_laws.specs.FactLaws.{HasNumbers, Describe, BehindLaw, AccessLaw, BlockLaw, SideLaw, GivenLaw, NeverLaw, RangeLaw, DecidedLaw, FormLaw, ShortenedLaw}

-- ---- states

input_fits : (ns : List ℤ) → ((n : ℤ) → IsIn n ns → Within full (Some n)) → NumbersFit ns
input_fits [] h = tt
input_fits (n ∷ ns) h = (h n (inl refl), input_fits ns (λ m i. h m (inr i)))

input_has : (ns : List ℤ) → NumbersFit ns → (n : ℤ) → IsIn n ns → Within full (Some n)
input_has [] f n i = absurd i
input_has (m ∷ ns) f n (inl e) = subst (λ z. Within full (Some z)) (sym e) f.0
input_has (m ∷ ns) f n (inr i) = input_has ns f.1 n i

state_fits : (s : State) → HasNumbers s → StateFit s
state_fits s h = record { values = h.values; rows = h.words; input = input_fits s.input h.input }

has_fitting : (s : State) → StateFit s → HasNumbers s
has_fitting s f = record { values = f.values; words = f.rows; input = input_has s.input f.input }

known_of : (setting : Setting) (fs : List Fact) (xs : List Access) (s : State) → Describe setting fs xs s → Known setting fs xs s
known_of setting fs xs s d = record { good = record { facts = d.facts; fits = state_fits s d.numbers }; tell = d.accesses }

of_known : (setting : Setting) (fs : List Fact) (xs : List Access) (s : State) → Known setting fs xs s → Describe setting fs xs s
of_known setting fs xs s k = record { facts = k.good.facts; accesses = k.tell; numbers = has_fitting s k.good.fits }

-- ---- operations

pub behind_law : BehindLaw
behind_law arrays setting apart low s t fs xs op n d e =
    let fs' : List Fact = after_known fs xs op (form fs xs op) in
    let xs' : List Access = accessed arrays xs (form fs xs op) in
    of_known setting fs' xs' t (subst (KeepsKnown setting fs' xs') e (form_known arrays setting apart low s fs xs op n (known_of setting fs xs s d)))

pub access_law : AccessLaw
access_law arrays setting apart s t xs op h e = accessed_tell arrays setting apart s t op xs h e

pub block_law : BlockLaw
block_law arrays setting apart low s t fs xs [] n d l = subst (Describe setting fs xs) l d
block_law arrays setting apart low s t fs xs (op ∷ ops) n d l =
    let fs' : List Fact = after_known fs xs op (form fs xs op) in
    let xs' : List Access = accessed arrays xs (form fs xs op) in
    block_law arrays setting apart low l.0 t fs' xs' ops (and_two (has_numbers op) (list_all has_numbers ops) n) (behind_law arrays setting apart low s l.0 fs xs op (and_one (has_numbers op) (list_all has_numbers ops) n) d l.1) l.2

pub form_law : FormLaw
form_law setting low s t fs xs op n d e = by (form_follows setting s fs xs op low n (known_of setting fs xs s d).good d.accesses)
  where
    by : Follows setting s op (form fs xs op) → effect setting s (form fs xs op) s ≡ Some t
    by (inl none) = let f : Option.None ≡ Some t = sym none ∙ e in absurd (cc)
    by (inr same) = same.0 ∙ e

pub shortened_law : ShortenedLaw
shortened_law setting s fs xs op d = shortened_same setting s fs (known_of setting fs xs s d).good op

-- ---- tests

pub side_law : SideLaw
side_law setting s fs xs p z d e = record { facts = side_holds s.values d.numbers.values fs d.facts p z (is_one z) e refl; accesses = d.accesses; numbers = d.numbers }

pub decided_law : DecidedLaw
decided_law setting s fs xs p z answer d e q = sym (decided_side s.values d.numbers.values fs d.facts p z (is_one z) answer e refl q)

-- ---- operands and claims

pub range_law : RangeLaw
range_law setting s fs xs x d =
    (subst (Within (range_of fs x)) (sym (held_is s x)) (range_of_holds s.values fs x d.numbers.values d.facts), subst (Agrees (residue_of fs x)) (sym (held_is s x)) (residue_of_holds s.values fs x d.numbers.values d.facts))

-- what lies in an interval lies in a wider one
pub inside_holds : (i j : Interval) (c : Content) → is_inside i j ≡ true → Within i c → Within j c
inside_holds i j None e h = tt
inside_holds i j (Some z) e h =
    let l = le_holds j.low i.low (and_one (int_le j.low i.low) (int_le i.high j.high) e) in
    let g = le_holds i.high j.high (and_two (int_le j.low i.low) (int_le i.high j.high) e) in
    (omega (arith, ints, l, h.0), omega (arith, ints, g, h.1))

gives_holds : (values : ℕ → Content) (fs : List Fact) (f : Fact) → Fit values → AllHold values fs → gives fs f ≡ true → Holds values f
gives_holds values fs (Between v i) fit h e = inside_holds (range_of fs (Held v)) i (values v) e (range_of_holds values fs (Held v) fit h)
gives_holds values fs (Congruent v c) fit h e = implied_holds (residue_of fs (Held v)) c (values v) e (residue_of_holds values fs (Held v) fit h)
gives_holds values fs (Equals v code a b) fit h e = has_holds values fs v code a b h e
gives_holds values fs Never fit h e = absurd (cc)

give_holds : (values : ℕ → Content) (fs claims : List Fact) → Fit values → AllHold values fs → give fs claims ≡ true → AllHold values claims
give_holds values fs [] fit h e = tt
give_holds values fs (f ∷ gs) fit h e = (gives_holds values fs f fit h (and_one (gives fs f) (give fs gs) e), give_holds values fs gs fit h (and_two (gives fs f) (give fs gs) e))

pub given_law : GivenLaw
given_law setting s fs xs claim d e q = record { facts = give_holds s.values fs claim.facts d.numbers.values d.facts e; accesses = tell_holds setting s xs claim.accesses d.accesses q; numbers = d.numbers }

holds_never : (values : ℕ → Content) (fs : List Fact) → AllHold values fs → is_never fs ≡ true → ⊥
holds_never values [] h e = absurd (cc)
holds_never values (Between v i ∷ fs) h e = holds_never values fs h.1 e
holds_never values (Congruent v c ∷ fs) h e = holds_never values fs h.1 e
holds_never values (Equals v code a b ∷ fs) h e = holds_never values fs h.1 e
holds_never values (Never ∷ fs) h e = h.0

pub never_law : NeverLaw
never_law setting s fs xs d e = holds_never s.values fs d.facts e
