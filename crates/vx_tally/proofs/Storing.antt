-- What is held: words of arrays, and the input that is left.
use Rattle.std.proofs.Common.{◌≡◌, ℕ, zero, suc, ◌+◌, ◌<◌, ℤ, true, List, [], ◌∷◌, length, drop, slice_get, Option, Some, None, refl, sym, ap, ◌∙◌, arith}
use Rattle.vx_flow.specs.Effects.{State, is_left, next_input, with_value}

-- the input that is left behind the numbers that were read

pub left_where : (xs : List ℤ) (i : ℕ) → i < length xs → is_left (drop i xs) ≡ true
left_where [] i h = absurd (omega arith)
left_where (x ∷ xs) zero h = refl
left_where (x ∷ xs) (suc i) h = left_where xs i (omega arith)

left_at : (xs : List ℤ) (i : ℕ) (n : ℤ) → slice_get xs i ≡ Some n → drop i xs ≡ n ∷ drop (i + 1) xs
left_at [] i n h = absurd (cc)
left_at (x ∷ xs) zero n h = let q : x ≡ n = cc in ap (λ y. y ∷ xs) q
left_at (x ∷ xs) (suc i) n h =
    let e : suc (i + 1) ≡ suc i + 1 = omega arith in
    left_at xs i n h ∙ ap (λ j. n ∷ drop j (x ∷ xs)) e

none_left : (xs : List ℤ) (i : ℕ) → slice_get xs i ≡ None → drop i xs ≡ []
none_left [] zero h = refl
none_left [] (suc i) h = refl
none_left (x ∷ xs) zero h = absurd (cc)
none_left (x ∷ xs) (suc i) h = none_left xs i h

pub next_at : (s : State) (v : ℕ) (xs : List ℤ) (i j : ℕ) (n : ℤ) → slice_get xs i ≡ Some n → j ≡ i + 1 → next_input s v (drop i xs) ≡ Some (with_value (record s { input = drop j xs }) v (Some n))
next_at s v xs i j n h e = ap (next_input s v) (left_at xs i n h) ∙ ap (λ k. Option.Some (with_value (record s { input = drop k xs }) v (Some n))) (sym e)

pub next_none : (s : State) (v : ℕ) (xs : List ℤ) (i : ℕ) → slice_get xs i ≡ None → next_input s v (drop i xs) ≡ None
next_none s v xs i h = ap (next_input s v) (none_left xs i h)
