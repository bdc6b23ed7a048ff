-- What a binary search in an ascending list finds.
use Rattle.std.proofs.Common.{◌≡◌, ◌⊎◌, inl, inr, ℕ, zero, suc, ◌<◌, ◌≤◌, Bool, true, false, ◌==◌, List, [], ◌∷◌, length, get_or, slice_get, Some, Ok, Err, Result, is_ok, refl, sym, ap, subst, arith}
use Rattle.std.specs.List.{list_any}
use Rattle.std.specs.List.Sorted.{IsBinarySearchResult}
use Rattle.std.specs.Ordering.{nat_cmp}
use Rattle.std.proofs.lemmas.List.Sorted.{searched}
use Rattle.vx_flow.specs.Effects.{IsIn}
use Rattle.vx_flow.specs.Rows.{Rising}
use Rattle.vx_flow.proofs.ClosingSteps.{any_in, in_along, in_any}
use Rattle.vx_flow.proofs.IndexSteps.{at_or_after}

got_there : (xs : List ℕ) (i : ℕ) → i < length xs → slice_get xs i ≡ Some (get_or xs i 0)
got_there [] i h = absurd (omega arith)
got_there (x ∷ xs) zero h = refl
got_there (x ∷ xs) (suc i) h = got_there xs i (omega arith)

place_of : (x : ℕ) (xs : List ℕ) → IsIn x xs → (k : ℕ) × (k < length xs) × (get_or xs k 0 ≡ x)
place_of x [] m = absurd m
place_of x (y ∷ xs) (inl e) = (0, omega arith, sym e)
place_of x (y ∷ xs) (inr m) = let w = place_of x xs m in let h : w.0 < length xs = w.1 in (suc w.0, omega (arith, h), w.2)

never_falls : (xs : List ℕ) → Rising xs → (i j : ℕ) → i ≤ j → j < length xs → get_or xs i 0 ≤ get_or xs j 0
never_falls xs s i j h k = elim (at_or_after i j h) [
  | inl e ↦ let q : get_or xs i 0 ≡ get_or xs j 0 = ap (λ n. get_or xs n 0) e in omega (arith, q)
  | inr l ↦ let p : i < length xs = omega (arith, l, k) in let a : i < j = omega (arith, l) in
      let q : get_or xs i 0 < get_or xs j 0 = s i j (get_or xs i 0) (get_or xs j 0) a (got_there xs i p) (got_there xs j k) in omega (arith, q)
]

none_there : (xs : List ℕ) (x : ℕ) → (IsIn x xs → ⊥) → (t : Bool) → list_any (λ u. u == x) xs ≡ t → false ≡ t
none_there xs x n true e = absurd (n (any_in x xs e))
none_there xs x n false e = refl

before_or_not : (k i : ℕ) → (k < i) ⊎ (i ≤ k)
before_or_not k zero = inr (omega arith)
before_or_not zero (suc i) = inl (omega arith)
before_or_not (suc k) (suc i) = elim (before_or_not k i) [ inl h ↦ inl (omega arith) | inr h ↦ inr (omega arith) ]

pub found_by_search : (xs : List ℕ) (x : ℕ) (r : Result ℕ ℕ) → Rising xs → IsBinarySearchResult (λ y. nat_cmp y x) xs r → is_ok r ≡ list_any (λ u. u == x) xs
found_by_search xs x (Ok i) s h =
    let w : (i < length xs) × (get_or xs i 0 ≡ x) = searched xs x (Ok i) h (never_falls xs s) in
    sym (in_any x xs (subst (λ y. IsIn y xs) w.1 (in_along xs i w.0)))
found_by_search xs x (Err i) s h =
    let w : (i ≤ length xs) × ((k : ℕ) → k < i → get_or xs k 0 < x) × ((k : ℕ) → i ≤ k → k < length xs → x < get_or xs k 0) = searched xs x (Err i) h (never_falls xs s) in
    none_there xs x (λ m.
    let p = place_of x xs m in
    elim (before_or_not p.0 i) [
      | inl l ↦ let a : get_or xs p.0 0 < x = w.1 p.0 l in let b : get_or xs p.0 0 ≡ x = p.2 in omega (arith, a, b)
      | inr l ↦ let a : x < get_or xs p.0 0 = w.2 p.0 l p.1 in let b : get_or xs p.0 0 ≡ x = p.2 in omega (arith, a, b)
    ]) (list_any (λ u. u == x) xs) refl
