-- Worked values of the arithmetic, at the edges of each operation, by computation.
use Rattle.std.proofs.Common.{◌≡◌, ℕ, ℤ, pos, neg_ℤ, true, false, refl}
use Rattle.std.specs.Int.{int_wrap}
use Rattle.vx_base.specs.declared.arithmetic.Compare.TheVariants.{Eq, Ne, Lt, Le, Gt, Ge, Ltu, Geu}
use Rattle.vx_base.specs.declared.arithmetic.Code.TheVariants.{Add, Sub, And, Or, Xor, Shl, Shr, Shru, Sh2add, Max, Min, Mov, ToGeneral, ToBranch, Mpylu, Mpyhs, Div, Rem}
use Rattle.vx_base.specs.Arithmetic.{wrap, unsigned, sum_of, difference_of, product_of, quotient_of, remainder_of, shl_of, shr_of, shru_of, and_of, or_of, xor_of, sh2add_of, mpylu_of, mpyhs_of, compare_of, value_of}

abbrev minus : ℕ → ℤ
minus n = neg_ℤ (pos n)

reductions : (wrap (pos 2147483647) ≡ pos 2147483647) × (wrap (pos 2147483648) ≡ minus 2147483648)
    × (wrap (pos 4294967301) ≡ pos 5) × (wrap (minus 2147483649) ≡ pos 2147483647) × (wrap (minus 4294967297) ≡ minus 1)
unfolding int_wrap
reductions = (refl, refl, refl, refl, refl)

readings : (unsigned (pos 7) ≡ 7) × (unsigned (minus 1) ≡ 4294967295) × (unsigned (minus 2147483648) ≡ 2147483648)
    × (unsigned (pos 4294967301) ≡ 5) × (unsigned (minus 4294967297) ≡ 4294967295)
unfolding int_wrap
readings = (refl, refl, refl, refl, refl)

sums : (value_of Add (pos 2147483647) (pos 1) ≡ minus 2147483648) × (value_of Add (minus 2147483648) (minus 1) ≡ pos 2147483647)
    × (value_of Add (pos 2) (minus 5) ≡ minus 3)
unfolding sum_of int_wrap
sums = (refl, refl, refl)

differences : (value_of Sub (minus 2147483648) (pos 1) ≡ pos 2147483647) × (value_of Sub (pos 0) (minus 2147483648) ≡ minus 2147483648)
    × (value_of Sub (pos 3) (pos 10) ≡ minus 7)
unfolding difference_of int_wrap
differences = (refl, refl, refl)

products : (product_of (pos 65536) (pos 65536) ≡ pos 0) × (product_of (pos 46341) (pos 46341) ≡ minus 2147479015)
    × (product_of (minus 2147483648) (minus 1) ≡ minus 2147483648) × (product_of (minus 3) (pos 5) ≡ minus 15)
unfolding product_of int_wrap
products = (refl, refl, refl, refl)

-- 100000 is 1 * 65536 + 34464, and 100000 * 100000 is 2 * 2 ^ 32 + 1410065408
half_products : (value_of Mpylu (pos 100000) (pos 100000) ≡ minus 848567296) × (value_of Mpyhs (pos 100000) (pos 100000) ≡ minus 2036334592)
    × (value_of Add (minus 848567296) (minus 2036334592) ≡ pos 1410065408) × (product_of (pos 100000) (pos 100000) ≡ pos 1410065408)
    × (value_of Mpylu (minus 3) (pos 5) ≡ minus 15) × (value_of Mpyhs (minus 3) (pos 5) ≡ pos 0)
    × (value_of Mpylu (pos 7) (minus 65536) ≡ pos 0) × (value_of Mpyhs (pos 7) (minus 65536) ≡ minus 458752)
unfolding sum_of product_of mpylu_of mpyhs_of int_wrap
half_products = (refl, refl, refl, refl, refl, refl, refl, refl)

quotients : (value_of Div (minus 2147483648) (minus 1) ≡ minus 2147483648) × (value_of Div (minus 7) (pos 2) ≡ minus 3)
    × (value_of Div (pos 7) (minus 2) ≡ minus 3) × (value_of Div (minus 7) (minus 2) ≡ pos 3)
    × (value_of Div (pos 5) (pos 0) ≡ pos 0) × (value_of Div (minus 5) (pos 0) ≡ pos 0)
unfolding quotient_of int_wrap
quotients = (refl, refl, refl, refl, refl, refl)

remainders : (value_of Rem (minus 2147483648) (minus 1) ≡ pos 0) × (value_of Rem (minus 7) (pos 2) ≡ minus 1)
    × (value_of Rem (pos 7) (minus 2) ≡ pos 1) × (value_of Rem (minus 7) (minus 2) ≡ minus 1)
    × (value_of Rem (pos 5) (pos 0) ≡ pos 0) × (value_of Rem (minus 5) (pos 0) ≡ pos 0)
unfolding remainder_of
remainders = (refl, refl, refl, refl, refl, refl)

left_shifts : (value_of Shl (pos 1) (pos 33) ≡ pos 2) × (value_of Shl (pos 1) (pos 31) ≡ minus 2147483648)
    × (value_of Shl (pos 3) (minus 1) ≡ minus 2147483648) × (value_of Shl (minus 1) (pos 4) ≡ minus 16)
unfolding shl_of int_wrap
left_shifts = (refl, refl, refl, refl)

right_shifts : (value_of Shr (minus 8) (pos 1) ≡ minus 4) × (value_of Shr (minus 7) (pos 1) ≡ minus 4)
    × (value_of Shr (minus 1) (pos 31) ≡ minus 1) × (value_of Shr (pos 8) (pos 33) ≡ pos 4)
unfolding shr_of int_wrap
right_shifts = (refl, refl, refl, refl)

unsigned_right_shifts : (value_of Shru (minus 1) (pos 28) ≡ pos 15) × (value_of Shru (minus 8) (pos 1) ≡ pos 2147483644)
    × (value_of Shru (minus 1) (pos 32) ≡ minus 1) × (value_of Shru (pos 8) (pos 35) ≡ pos 1)
unfolding shru_of int_wrap
unsigned_right_shifts = (refl, refl, refl, refl)

bits : (value_of And (minus 4) (pos 7) ≡ pos 4) × (value_of And (minus 1) (minus 2147483648) ≡ minus 2147483648)
    × (value_of Or (minus 8) (pos 5) ≡ minus 3) × (value_of Or (pos 1) (minus 2147483648) ≡ minus 2147483647)
    × (value_of Xor (minus 1) (pos 5) ≡ minus 6) × (value_of Xor (minus 2147483648) (minus 1) ≡ pos 2147483647)
unfolding and_of or_of xor_of int_wrap
bits = (refl, refl, refl, refl, refl, refl)

addresses : (value_of Sh2add (pos 3) (pos 100) ≡ pos 112) × (value_of Sh2add (minus 1) (pos 8) ≡ pos 4)
    × (value_of Sh2add (pos 1073741824) (pos 5) ≡ pos 5) × (value_of Sh2add (pos 536870912) (pos 0) ≡ minus 2147483648)
unfolding sh2add_of int_wrap
addresses = (refl, refl, refl, refl)

choices : (value_of Max (minus 1) (pos 0) ≡ pos 0) × (value_of Min (minus 1) (pos 0) ≡ minus 1)
    × (value_of Max (minus 2147483648) (pos 2147483647) ≡ pos 2147483647) × (value_of Min (pos 4) (pos 4) ≡ pos 4)
    × (value_of Mov (pos 7) (pos 9) ≡ pos 7)
choices = (refl, refl, refl, refl, refl)

signed_compares : (compare_of Eq (minus 1) (minus 1) ≡ true) × (compare_of Eq (minus 1) (pos 1) ≡ false)
    × (compare_of Ne (pos 2) (pos 3) ≡ true) × (compare_of Ne (pos 3) (pos 3) ≡ false)
    × (compare_of Lt (minus 1) (pos 0) ≡ true) × (compare_of Lt (pos 3) (pos 3) ≡ false)
    × (compare_of Le (pos 3) (pos 3) ≡ true) × (compare_of Gt (pos 3) (pos 3) ≡ false)
    × (compare_of Gt (pos 0) (minus 1) ≡ true) × (compare_of Ge (pos 3) (pos 3) ≡ true)
    × (compare_of Ge (minus 1) (pos 0) ≡ false)
signed_compares = (refl, refl, refl, refl, refl, refl, refl, refl, refl, refl, refl)

unsigned_compares : (compare_of Ltu (minus 1) (pos 0) ≡ false) × (compare_of Ltu (pos 0) (minus 1) ≡ true)
    × (compare_of Ltu (pos 3) (pos 3) ≡ false) × (compare_of Geu (minus 1) (pos 0) ≡ true)
    × (compare_of Geu (pos 2147483647) (minus 2147483648) ≡ false) × (compare_of Geu (pos 3) (pos 3) ≡ true)
unfolding int_wrap
unsigned_compares = (refl, refl, refl, refl, refl, refl)

compare_results : (value_of (ToGeneral Lt) (minus 1) (pos 0) ≡ pos 1) × (value_of (ToGeneral Ltu) (minus 1) (pos 0) ≡ pos 0)
    × (value_of (ToBranch Ge) (pos 5) (pos 5) ≡ pos 1) × (value_of (ToBranch Ne) (pos 5) (pos 5) ≡ pos 0)
unfolding int_wrap
compare_results = (refl, refl, refl, refl)
