-- The numbers that an input's text reads as are numbers of 32 bits.
use Rattle.std.proofs.Common.{◌≡◌, ◌≤◌, ℕ, zero, suc, ◌+◌, Bool, true, false, ◌&&◌, nat_le, ℤ, pos, List, [], ◌∷◌, length, drop, Option, Some, None, Result, Ok, Err, refl, subst, arith}
use Rattle.std.specs.Prelude.{eqb, slice_index, All}
use Rattle.std.proofs.lemmas.Bool.{leb-true}
use Rattle.std.proofs.lemmas.List.Elements.{All-nil, All-cons}
use Rattle.vx_base.specs.Arithmetic.{IsNumber}
use Rattle.vx_files.specs.InputText.{is_decimal, value_of, negative, number_within, number_of, pieces, number_then, numbers_from, input_reading}

and_right : (a b : Bool) → (a && b) ≡ true → b ≡ true
and_right true b e = e
and_right false b e = absurd cc

within : (most : ℕ) (signed : ℕ → ℤ) (digits : List ℕ) (z : ℤ) → ((n : ℕ) → n ≤ most → IsNumber (signed n)) → number_within most signed digits ≡ Some z → IsNumber z
within most signed digits z fits is = by (is_decimal digits && nat_le (value_of digits) most) refl is
  where
    by : (b : Bool) → (is_decimal digits && nat_le (value_of digits) most) ≡ b → number_within most signed digits ≡ Some z → IsNumber z
    by true e h =
        let found : Some (signed (value_of digits)) ≡ Some z = rw e at h in
        let same : signed (value_of digits) ≡ z = cc in
        subst IsNumber same (fits (value_of digits) (leb-true (value_of digits) most (and_right (is_decimal digits) _ e)))
    by false e h = let none : None ≡ Some z = rw e at h in absurd cc

pos_fits : (n : ℕ) → n ≤ 2147483647 → IsNumber (pos n)
pos_fits n le = record { sfits = omega arith }

negative_fits : (n : ℕ) → n ≤ 2147483648 → IsNumber (negative n)
negative_fits zero le = pos_fits 0 (omega arith)
negative_fits (suc n) le = record { sfits = omega arith }

pub number_fits : (text : List ℕ) (z : ℤ) → number_of text ≡ Some z → IsNumber z
unfolding number_of
number_fits text z is = by (eqb (slice_index text 0) 45) refl is
  where
    by : (b : Bool) → eqb (slice_index text 0) 45 ≡ b → number_of text ≡ Some z → IsNumber z
    by true e h = within 2147483648 negative (drop 1 text) z negative_fits (rw e at h)
    by false e h = within 2147483647 pos text z pos_fits (rw e at h)

then_fits : (place : ℕ) (o : Option ℤ) (r : Result (List ℤ) ℕ) (zs : List ℤ) → ((z : ℤ) → o ≡ Some z → IsNumber z) → ((rest : List ℤ) → r ≡ Ok rest → All IsNumber rest) → number_then place o r ≡ Ok zs → All IsNumber zs
then_fits place None r zs one more is = absurd cc
then_fits place (Some z) (Err p) zs one more is = absurd cc
then_fits place (Some z) (Ok rest) zs one more is = let same : z ∷ rest ≡ zs = cc in subst (All IsNumber) same (All-cons IsNumber z rest (one z refl) (more rest refl))

from_fit : (place : ℕ) (texts : List (List ℕ)) (zs : List ℤ) → numbers_from place texts ≡ Ok zs → All IsNumber zs
from_fit place [] zs is = let same : [] ≡ zs = cc in subst (All IsNumber) same (All-nil IsNumber)
from_fit place ([] ∷ rest) zs is = from_fit (place + 1) rest zs is
from_fit place ((c ∷ cs) ∷ rest) zs is =
    then_fits place (number_of (c ∷ cs)) (numbers_from (place + length (c ∷ cs) + 1) rest) zs (number_fits (c ∷ cs)) (from_fit (place + length (c ∷ cs) + 1) rest) is

pub reading_fits : (bytes : List ℕ) (zs : List ℤ) → input_reading bytes ≡ Ok zs → All IsNumber zs
reading_fits bytes zs is = from_fit 0 (pieces bytes) zs is
