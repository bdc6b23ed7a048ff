-- Arrays stand apart wherever those of different numbers stand at different spots: so do a function's to which nothing was passed.
use Rattle.std.proofs.Common.{◌≡◌, ℕ, ◌+◌, ◌-◌, ◌<◌, ◌≤◌, Bool, true, false, ◌==◌, Some, None, List, [], ◌∷◌, refl, sym, ap, subst, ◌∙◌, ⊎_elim, eq-eqb, arith}
use Rattle.std.specs.Prelude.{◌&&◌, not, if◌then◌else◌}
use Rattle.std.proofs.lemmas.Bool.{cases_lt, lt-ltb, le-ltb, false≢true}
use Rattle.vx_flow.specs.declared.graph.Array.{Array}
use Rattle.vx_flow.specs.Sound.{has_base, is_own_array}
use Rattle.vx_flow.specs.Apart.{array_in, are_apart, AreApart, StandApart}
use Rattle.vx_flow.specs.Meaning.{spot_in, spot_of}

-- no array is apart from itself: its number is one, and one that was handed over is not the function's own
pub itself_meets : (x : Array) → AreApart x x → ⊥
itself_meets x h = by (has_base x) refl h
  where
    not_own : (global given : Bool) → given ≡ true → (not global && not given) ≡ true → ⊥
    not_own true true e h = false≢true h
    not_own false true e h = false≢true h
    not_own true false e h = false≢true h
    not_own false false e h = false≢true e

    same : (not (x.named == x.named)) ≡ true → ⊥
    same h = false≢true (ap not (sym (eq-eqb x.named x.named refl)) ∙ h)

    by : (given : Bool) → has_base x ≡ given → (if given then is_own_array x else if given then is_own_array x else not (x.named == x.named)) ≡ true → ⊥
    by true e h = not_own x.global (has_base x) e h
    by false e h = same h

-- different arrays stand at different spots, where the own ones stand behind the globals
pub spots_differ : (globals base : ℕ) → globals ≤ base → (a b : ℕ) → spot_of globals base a ≡ spot_of globals base b → a ≡ b
spots_differ globals base le a b e =
    ⊎_elim
    (λ la. ⊎_elim
    (λ lb. sym (low a la) ∙ e ∙ low b lb)
    (λ gb. absurd (let q = sym (low a la) ∙ e ∙ high b gb in omega arith))
    (cases_lt b globals))
    (λ ga. ⊎_elim
    (λ lb. absurd (let q = sym (high a ga) ∙ e ∙ low b lb in omega arith))
    (λ gb. let q = sym (high a ga) ∙ e ∙ high b gb in omega arith)
    (cases_lt b globals))
    (cases_lt a globals)
  where
    low : (c : ℕ) → c < globals → spot_of globals base c ≡ c
    low c h = ap (λ z. if z then c else base + (c - globals)) (lt-ltb c globals h)

    high : (c : ℕ) → globals ≤ c → spot_of globals base c ≡ base + (c - globals)
    high c h = ap (λ z. if z then c else base + (c - globals)) (le-ltb c globals h)

-- so they stand apart, and so do all where each stands at the spot of its number
pub differ_apart : (arrays : List Array) (spot : ℕ → ℕ) → ((a b : ℕ) → spot a ≡ spot b → a ≡ b) → StandApart arrays spot
differ_apart arrays spot differ a b two e = itself_meets (array_in arrays a) (subst (λ c. AreApart (array_in arrays a) (array_in arrays c)) (sym (differ a b e)) two)

pub spots_apart : (arrays : List Array) (globals base : ℕ) → globals ≤ base → StandApart arrays (spot_of globals base)
spots_apart arrays globals base le = differ_apart arrays (spot_of globals base) (spots_differ globals base le)

pub itself_apart : (arrays : List Array) → StandApart arrays (λ a. a)
itself_apart arrays = differ_apart arrays (λ a. a) (λ a b e. e)

-- worked rows: one global, behind it two arrays that were passed at one spot, an own one between them, and one behind

passed_both : spot_in 1 (Some 0 ∷ None ∷ Some 0 ∷ []) 4 1 ≡ spot_in 1 (Some 0 ∷ None ∷ Some 0 ∷ []) 4 3
passed_both = refl

own_between : spot_in 1 (Some 0 ∷ None ∷ Some 0 ∷ []) 4 2 ≡ 4
own_between = refl

own_behind : spot_in 1 (Some 0 ∷ None ∷ Some 0 ∷ []) 4 4 ≡ 5
own_behind = refl

-- of the arrays of a function, a global, two that were handed over and an own one

abbrev global_one : Array
global_one = record { words = 4; global = true; named = 0; base = None }

abbrev first_given : Array
first_given = record { words = 0; global = false; named = 1; base = Some 7 }

abbrev second_given : Array
second_given = record { words = 0; global = false; named = 2; base = Some 8 }

abbrev own_one : Array
own_one = record { words = 4; global = false; named = 3; base = None }

given_may_be_one : are_apart first_given second_given ≡ false
given_may_be_one = refl

given_may_be_global : are_apart first_given global_one ≡ false
given_may_be_global = refl

given_is_not_own : are_apart first_given own_one ≡ true
given_is_not_own = refl

global_is_not_own : are_apart own_one global_one ≡ true
global_is_not_own = refl
