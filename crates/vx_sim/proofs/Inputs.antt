-- What is left of the input.
use Rattle.std.proofs.Common.{◌≡◌, ◌<◌, ℕ, zero, suc, ◌+◌, ◌-◌, ◌≤◌, ◌^◌, min, pos, get_or, drop-cons, Bool, true, false, ℤ, List, [], ◌∷◌, length, drop, nat_lt, refl, sym, ap, arith, ◌∙◌, ltb-true, ltb-false}
use Rattle.std.proofs.lemmas.List.{drop-drop, drop_all}
use Rattle.std.proofs.lemmas.Bool.Decides.{nat_tests}
use Rattle.vx_isa.specs.Machine.{is_left, first_of}

-- a number is left where fewer are taken than there are
pub is_left_at : (n : ℕ) (xs : List ℤ) → nat_lt n (length xs) ≡ is_left (drop n xs)
is_left_at zero [] = refl
is_left_at zero (x ∷ xs) = grind (arith, nat_tests)
is_left_at (suc n) [] = grind (arith, nat_tests)
is_left_at (suc n) (x ∷ xs) = let e : nat_lt (suc n) (length (x ∷ xs)) ≡ nat_lt n (length xs) = grind (arith, nat_tests) in e ∙ is_left_at n xs

-- the numbers left once more are taken; a count that stays at its greatest value has passed the last one
pub taken_more : (n k t : ℕ) (xs : List ℤ) → t ≡ min (n + k) (2 ^ 64 - 1) → length xs < 2 ^ 64 → drop t xs ≡ drop k (drop n xs)
taken_more n k t xs e few = by (nat_lt (n + k) (2 ^ 64 - 1)) refl
  where
    by : (b : Bool) → nat_lt (n + k) (2 ^ 64 - 1) ≡ b → drop t xs ≡ drop k (drop n xs)
    by true h = let l = ltb-true (n + k) (2 ^ 64 - 1) h in let s : t ≡ n + k = omega arith in ap (λ i. drop i xs) s ∙ sym (drop-drop k n xs)
    by false h =
        let l = ltb-false (n + k) (2 ^ 64 - 1) h in
        drop_all t xs (omega arith) ∙ sym (drop-drop k n xs ∙ drop_all (n + k) xs (omega arith))

-- the number that comes next
pub first_at : (n : ℕ) (xs : List ℤ) (d : ℤ) → n < length xs → get_or xs n d ≡ first_of (drop n xs)
first_at n xs d l = sym (ap first_of (drop-cons xs n d l))

pub no_first : (n : ℕ) (xs : List ℤ) → length xs ≤ n → pos 0 ≡ first_of (drop n xs)
no_first n xs past = sym (ap first_of (drop_all n xs past))
