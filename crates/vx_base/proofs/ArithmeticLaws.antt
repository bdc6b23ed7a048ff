-- The laws of the arithmetic that later layers rest on.
use Rattle.std.proofs.Common.{◌≡◌, ℕ, zero, suc, ◌+◌, ◌-◌, ◌*◌, ◌/◌, ◌%◌, ◌^◌, ◌<◌, Bool, true, false, cond, IsTrue, ◌↔◌, ◌≤ℤ◌, ◌<ℤ◌, subst, ℤ, pos, negsuc, ◌+ℤ◌, ◌-ℤ◌, ◌*ℤ◌, refl, sym, ◌∙◌, ap, arith, bit_and, bit_or, bit_xor, int_div, int_rem, int_lt, lit<, int_le, not, leb, ltb, ltb-true, ltb-false, le-leb, lt-ltb}
use lib.Signed.{mag_rem, mag_shr}
use Rattle.vx_base.specs.declared.arithmetic.Code.TheVariants.{Add, Sub, And, Or, Xor, Shl, Shr, Shru, Sh2add, Max, Min, Mov, ToGeneral, ToBranch, Mpylu, Mpyhs, Div, Rem}
use Rattle.std.specs.Int.{w32, cast_unsigned}
use Rattle.std.proofs.lemmas.Int.{ints, int_wrap_fits, int_wrap-add_left, int_wrap-add_right, int_wrap-mul_left, int_wrap-add_same, quot-rem}
use Rattle.std.proofs.lemmas.Nat.{div-add-mod'}
use Rattle.vx_base.specs.Arithmetic.{opposite, IsNumber, wrap, unsigned, shift_by, unless_zero, one_if, sum_of, difference_of, product_of, quotient_of, remainder_of, shl_of, shr_of, shru_of, and_of, or_of, xor_of, sh2add_of, mpylu_of, mpyhs_of, compare_of, ProductByHalves, ValueFits, DivisionLaw, IndexCheck}
use Rattle.vx_base.specs.declared.arithmetic.Compare.TheVariants.{Eq, Ne, Lt, Le, Gt, Ge, Ltu, Geu}
use Rattle.vx_base.specs.declared.arithmetic.Compare.{Compare}
use borrow.Author.Tests.{lt-leb}
use Rattle.std.specs.Cmp.{signed_Decides}
use mathlib.Core.Bool.{true≢false}
use Rattle.vx_base.proofs.WrapLaws.{unsigned_number, wrap_fits, wrap-unsigned_product}

halves : (x y m : ℕ) → x * (y % m) + x * (y / m) * m ≡ x * y
halves x y m = let e = div-add-mod' y m in omega (arith, ap (λ n. x * n) e)

pub product_by_halves_law : ProductByHalves
unfolding sum_of product_of mpylu_of mpyhs_of
product_by_halves_law a b f g =
    let low = unsigned a * (unsigned b % 2 ^ 16) in
    let high = unsigned a * (unsigned b / 2 ^ 16) * 2 ^ 16 in
    int_wrap-add_left w32 (pos low) (wrap (pos high)) ∙ int_wrap-add_right w32 (pos low) (pos high)
    ∙ ap (λ n. wrap (pos n)) (halves (unsigned a) (unsigned b) (2 ^ 16)) ∙ wrap-unsigned_product a b

cond_fits : (t : Bool) (a b : ℤ) → IsNumber a → IsNumber b → IsNumber (cond t a b)
cond_fits true a b f g = f
cond_fits false a b f g = g

one_if_fits : (t : Bool) → IsNumber (one_if t)
one_if_fits true = record { sfits = lit< tt }
one_if_fits false = record { sfits = lit< tt }

unless_zero_fits : (b z : ℤ) → IsNumber z → IsNumber (unless_zero b z)
unless_zero_fits (pos zero) z f = record { sfits = lit< tt }
unless_zero_fits (pos (suc n)) z f = f
unless_zero_fits (negsuc n) z f = f

pub value_fits_law : ValueFits
unfolding sum_of difference_of and_of or_of xor_of shl_of shr_of shru_of sh2add_of mpylu_of mpyhs_of quotient_of remainder_of
value_fits_law Add a b f g = wrap_fits (a +ℤ b)
value_fits_law Sub a b f g = wrap_fits (a -ℤ b)
value_fits_law And a b f g = wrap_fits (pos (bit_and (unsigned a) (unsigned b)))
value_fits_law Or a b f g = wrap_fits (pos (bit_or (unsigned a) (unsigned b)))
value_fits_law Xor a b f g = wrap_fits (pos (bit_xor (unsigned a) (unsigned b)))
value_fits_law Shl a b f g = wrap_fits (a *ℤ pos (2 ^ shift_by b))
value_fits_law Shr a b f g = record { sfits = omega (arith, f.sfits, mag_shr a (2 ^ shift_by b)) }
value_fits_law Shru a b f g = wrap_fits (pos (unsigned a / 2 ^ shift_by b))
value_fits_law Sh2add a b f g = wrap_fits (pos 4 *ℤ a +ℤ b)
value_fits_law Max a b f g = cond_fits (int_lt b a) a b f g
value_fits_law Min a b f g = cond_fits (int_lt b a) b a g f
value_fits_law Mov a b f g = f
value_fits_law (ToGeneral code) a b f g = one_if_fits (compare_of code a b)
value_fits_law (ToBranch code) a b f g = one_if_fits (compare_of code a b)
value_fits_law Mpylu a b f g = wrap_fits (pos (unsigned a * (unsigned b % 2 ^ 16)))
value_fits_law Mpyhs a b f g = wrap_fits (pos (unsigned a * (unsigned b / 2 ^ 16) * 2 ^ 16))
value_fits_law Div a b f g = unless_zero_fits b (wrap (int_div a b)) (wrap_fits (int_div a b))
value_fits_law Rem a b f g = unless_zero_fits b (int_rem a b) (record { sfits = omega (arith, f.sfits, mag_rem a b) })

pub unless_zero_other : (b z : ℤ) → (b ≡ pos 0 → ⊥) → unless_zero b z ≡ z
unless_zero_other (pos zero) z n = absurd (n refl)
unless_zero_other (pos (suc m)) z n = refl
unless_zero_other (negsuc m) z n = refl

pub division_holds : DivisionLaw
unfolding sum_of product_of quotient_of remainder_of
division_holds a b f g n =
    let q = wrap (int_div a b) in
    (λ i. wrap (wrap (unless_zero_other b q n i *ℤ b) +ℤ unless_zero_other b (int_rem a b) n i))
    ∙ int_wrap-add_left w32 (q *ℤ b) (int_rem a b)
    ∙ int_wrap-add_same w32 (q *ℤ b) (int_div a b *ℤ b) (int_rem a b) (int_wrap-mul_left w32 (int_div a b) b)
    ∙ ap wrap (quot-rem a b) ∙ int_wrap_fits w32 a f

-- ---- compares

pub equal-true : (a b : ℤ) → compare_of Eq a b ≡ true → a ≡ b
equal-true a b e = (signed_Decides a b).0 e

pub equal-same : (a b : ℤ) → a ≡ b → compare_of Eq a b ≡ true
equal-same a b e = (signed_Decides a b).1 e

pub equal-false : (a b : ℤ) → compare_of Eq a b ≡ false → a ≡ b → ⊥
equal-false a b t e = absurd (true≢false (sym (equal-same a b e) ∙ t))

le-not_lt : (a b : ℤ) → int_le a b ≡ not (int_lt b a)
le-not_lt a b = by (int_lt b a) refl
  where
    by : (t : Bool) → int_lt b a ≡ t → int_le a b ≡ not t
    by true e = sym (omega (arith, ints))
    by false e = sym (omega (arith, ints))

leb-not_ltb : (a b : ℕ) → leb a b ≡ not (ltb b a)
leb-not_ltb a b = by (ltb b a) refl
  where
    by : (t : Bool) → ltb b a ≡ t → leb a b ≡ not t
    by true e = lt-leb a b (ltb-true b a e)
    by false e = le-leb a b (ltb-false b a e)

not-not : (t : Bool) → not (not t) ≡ t
not-not true = refl
not-not false = refl

pub compare_of-opposite : (code : Compare) (a b : ℤ) → compare_of (opposite code) a b ≡ not (compare_of code a b)
compare_of-opposite Eq a b = refl
compare_of-opposite Ne a b = sym (not-not (compare_of Eq a b))
compare_of-opposite Lt a b = le-not_lt b a
compare_of-opposite Le a b = sym (not-not (int_lt b a)) ∙ ap not (sym (le-not_lt a b))
compare_of-opposite Gt a b = le-not_lt a b
compare_of-opposite Ge a b = sym (not-not (int_lt a b)) ∙ ap not (sym (le-not_lt b a))
compare_of-opposite Ltu a b = leb-not_ltb (unsigned b) (unsigned a)
compare_of-opposite Geu a b = sym (not-not (ltb (unsigned a) (unsigned b))) ∙ ap not (sym (leb-not_ltb (unsigned b) (unsigned a)))

pub one_if-one : (t : Bool) → one_if t ≡ pos 1 → t ≡ true
one_if-one true e = refl
one_if-one false e = cc

pub one_if-zero : (t : Bool) → one_if t ≡ pos 0 → t ≡ false
one_if-zero true e = cc
one_if-zero false e = refl

bits_check : (index : ℤ) (size : ℕ) → IsNumber index → size < 2 ^ 31 → IsTrue (ltb (cast_unsigned w32 index) size) ↔ ((pos 0 ≤ℤ index) × (index <ℤ pos size))
bits_check (pos n) size f s = (
  λ t. let h : n < size = ltb-true n size t in (omega (arith, ints), omega (arith, ints)),
  λ h. let b : n < size = omega (arith, ints, h.1) in lt-ltb n size b,
)
bits_check (negsuc n) size f s = (
  λ t. let h : 2 ^ 32 - suc n < size = ltb-true (2 ^ 32 - suc n) size t in absurd (omega (arith, f.sfits)),
  λ h. absurd (omega (arith, ints, h.0)),
)

pub index_check_law : IndexCheck
index_check_law index size f s =
    let fits : IsNumber (pos size) = record { sfits = omega arith } in
    subst (λ b. IsTrue b ↔ ((pos 0 ≤ℤ index) × (index <ℤ pos size))) (sym (λ i. ltb (unsigned_number index f i) (unsigned_number (pos size) fits i))) (bits_check index size f s)
