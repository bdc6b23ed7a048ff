-- A table of homes is read as a function; a write is seen at its value alone.
use Rattle.std.proofs.Common.{◌≡◌, ◌<◌, ◌≤◌, ◌+◌, ◌==◌, ◌&&◌, ◌≢◌, not, refl, sym, ◌∙◌, ap, arith, Bool, true, false, if◌then◌else◌, ℕ, zero, suc, Option, Some, None, is_some, List, [], ◌∷◌, ◌++◌, length, slice_set}
use Rattle.std.proofs.Math.Path.{fun_ext}
use Rattle.std.proofs.lemmas.Bool.{eqb-true, eq-eqb}
use Rattle.std.proofs.lemmas.List.{get_or-set_same, get_or-set_other}
use Rattle.vx_bug.specs.Clusters.{some_of, with_home, with_homes}
use Rattle.vx_bug.specs.Ledgers.{homes_in, placed}

-- a longer table

pub longer_same : (hs : List (Option ℕ)) (v : ℕ) → homes_in (hs ++ None ∷ []) v ≡ homes_in hs v
longer_same [] zero = refl
longer_same [] (suc v) = refl
longer_same (h ∷ hs) zero = refl
longer_same (h ∷ hs) (suc v) = longer_same hs v

pub longer : (hs : List (Option ℕ)) → homes_in (hs ++ None ∷ []) ≡ homes_in hs
longer hs = fun_ext (longer_same hs)

-- a write

set_at_value : (hs : List (Option ℕ)) (v c u : ℕ) → v < length hs → homes_in (slice_set hs v (Some c)) u ≡ placed c (homes_in hs) v u
set_at_value hs v c u h = by (u == v) refl
  where
    by : (b : Bool) → (u == v) ≡ b → homes_in (slice_set hs v (Some c)) u ≡ placed c (homes_in hs) v u
    by true e =
        let k : u ≡ v = eqb-true u v e in
        ap (homes_in (slice_set hs v (Some c))) k ∙ get_or-set_same hs v (Some c) None h ∙ sym (ap (λ b. if b then Some c else homes_in hs u) e)
    by false e =
        let k : u ≢ v = λ q. let f : (u == v) ≡ true = eq-eqb u v q in absurd cc in
        get_or-set_other hs v u (Some c) None k ∙ sym (ap (λ b. if b then Some c else homes_in hs u) e)

pub set_there : (hs longer : List (Option ℕ)) (v c : ℕ) → homes_in longer ≡ homes_in hs → v + 1 ≤ length longer → homes_in (slice_set longer v (Some c)) ≡ placed c (homes_in hs) v
set_there hs longer v c e h =
    let k : v < length longer = omega (arith, h) in
    fun_ext (λ u. set_at_value longer v c u k) ∙ ap (λ homes. placed c homes v) e

-- a home for a value that may have one

with_home_kept : (c v u : ℕ) (homes : ℕ → Option ℕ) (home : ℕ) → homes v ≡ Some home → homes u ≡ with_home c homes v u
with_home_kept c v u homes home e = sym (ap (λ b. if b then Some c else homes u) (ap (λ o. (u == v) && not (is_some o)) e ∙ and_false (u == v)))
  where
    and_false : (b : Bool) → (b && false) ≡ false
    and_false true = refl
    and_false false = refl

with_home_first : (c v u : ℕ) (homes : ℕ → Option ℕ) → homes v ≡ None → placed c homes v u ≡ with_home c homes v u
with_home_first c v u homes e = sym (ap (λ b. if b then Some c else homes u) (ap (λ o. (u == v) && not (is_some o)) e ∙ and_true (u == v)))
  where
    and_true : (b : Bool) → (b && true) ≡ b
    and_true true = refl
    and_true false = refl

pub kept_home : (hs : List (Option ℕ)) (c v home : ℕ) → homes_in hs v ≡ Some home → homes_in hs ≡ with_homes c (homes_in hs) (some_of (Some v))
kept_home hs c v home e = fun_ext (λ u. with_home_kept c v u (homes_in hs) home e)

pub first_home : (hs new : List (Option ℕ)) (c v : ℕ) → homes_in hs v ≡ None → homes_in new ≡ placed c (homes_in hs) v → homes_in new ≡ with_homes c (homes_in hs) (some_of (Some v))
first_home hs new c v e f = f ∙ fun_ext (λ u. with_home_first c v u (homes_in hs) e)

-- one value after the other
pub homes_append : (c : ℕ) (homes : ℕ → Option ℕ) (xs ys : List ℕ) → with_homes c homes (xs ++ ys) ≡ with_homes c (with_homes c homes xs) ys
homes_append c homes [] ys = refl
homes_append c homes (x ∷ xs) ys = homes_append c (with_home c homes x) xs ys
