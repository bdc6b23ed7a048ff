-- The arithmetic of 32-bit numbers, as C has it and as the machine's operations do it: what whole numbers give, then
-- one reduction into the range. A number is an integer from -2147483648 to 2147483647.
use Rattle.std.specs.Prelude.{◌≡◌, ℕ, zero, suc, ◌*◌, ◌/◌, ◌%◌, ◌^◌, Bool, true, false, not, ℤ, pos, negsuc, ◌+ℤ◌, ◌-ℤ◌, ◌*ℤ◌, ◌↔◌, bit_and, bit_or, bit_xor, int_div, int_rem, int_lt, int_le, nat_lt, nat_le, FitsSigned, IsTrue, ◌<◌, ◌≤ℤ◌, ◌<ℤ◌}
use Rattle.std.specs.Int.{w32, int_wrap, int_shr, int_max, int_min, cast_unsigned}
use Rattle.std.specs.Ordering.{int_eq}
use Rattle.vx_base.specs.declared.arithmetic.Compare.{Compare}
use Rattle.vx_base.specs.declared.arithmetic.Compare.TheVariants.{Eq, Ne, Lt, Le, Gt, Ge, Ltu, Geu}
use Rattle.vx_base.specs.declared.arithmetic.Code.{Code}
use Rattle.vx_base.specs.declared.arithmetic.Code.TheVariants.{Add, Sub, And, Or, Xor, Shl, Shr, Shru, Sh2add, Max, Min, Mov, ToGeneral, ToBranch, Mpylu, Mpyhs, Div, Rem}

-- it lies from -2147483648 to 2147483647
abbrev pub IsNumber : ℤ → Type 0
IsNumber z = FitsSigned w32 z

-- r is the number of 32 bits that differs from z by a multiple of 2 ^ 32
pub record IsReduced (z r : ℤ) : Type 0 where
  pub in_range : IsNumber r
  pub multiple : (k : ℤ) × (z ≡ r +ℤ k *ℤ pos (2 ^ 32))

-- that number, computed
abbrev pub wrap : ℤ → ℤ
wrap z = int_wrap w32 z

-- the same 32 bits read without sign: 2 ^ 32 is added to a number below 0
abbrev pub unsigned : ℤ → ℕ
unsigned z = cast_unsigned w32 (wrap z)

-- how far a shift goes: the low five bits of its right operand
abbrev pub shift_by : ℤ → ℕ
shift_by b = unsigned b % 32

-- 1 for true, 0 for false
abbrev pub one_if : Bool → ℤ
one_if true = pos 1
one_if false = pos 0

-- the quotient or remainder z, but 0 where the divisor is 0
abbrev pub unless_zero : ℤ → ℤ → ℤ
unless_zero (pos zero) z = pos 0
unless_zero (pos (suc n)) z = z
unless_zero (negsuc n) z = z

unfoldable pub sum_of : ℤ → ℤ → ℤ
sum_of a b = wrap (a +ℤ b)

unfoldable pub difference_of : ℤ → ℤ → ℤ
difference_of a b = wrap (a -ℤ b)

unfoldable pub product_of : ℤ → ℤ → ℤ
product_of a b = wrap (a *ℤ b)

-- rounded toward zero. The least number divided by -1 wraps to itself
unfoldable pub quotient_of : ℤ → ℤ → ℤ
quotient_of a b = unless_zero b (wrap (int_div a b))

-- with the sign of a
unfoldable pub remainder_of : ℤ → ℤ → ℤ
remainder_of a b = unless_zero b (int_rem a b)

unfoldable pub shl_of : ℤ → ℤ → ℤ
shl_of a b = wrap (a *ℤ pos (2 ^ shift_by b))

-- arithmetic: the quotient by the power of 2, rounded down
unfoldable pub shr_of : ℤ → ℤ → ℤ
shr_of a b = int_shr a (shift_by b)

-- logical: the same of the reading without sign
unfoldable pub shru_of : ℤ → ℤ → ℤ
shru_of a b = wrap (pos (unsigned a / 2 ^ shift_by b))

unfoldable pub and_of : ℤ → ℤ → ℤ
and_of a b = wrap (pos (bit_and (unsigned a) (unsigned b)))

unfoldable pub or_of : ℤ → ℤ → ℤ
or_of a b = wrap (pos (bit_or (unsigned a) (unsigned b)))

unfoldable pub xor_of : ℤ → ℤ → ℤ
xor_of a b = wrap (pos (bit_xor (unsigned a) (unsigned b)))

-- the address of word a behind byte address b
unfoldable pub sh2add_of : ℤ → ℤ → ℤ
sh2add_of a b = wrap (pos 4 *ℤ a +ℤ b)

-- a times the low half of b
unfoldable pub mpylu_of : ℤ → ℤ → ℤ
mpylu_of a b = wrap (pos (unsigned a * (unsigned b % 2 ^ 16)))

-- a times the high half of b, moved up by that half's place
unfoldable pub mpyhs_of : ℤ → ℤ → ℤ
mpyhs_of a b = wrap (pos (unsigned a * (unsigned b / 2 ^ 16) * 2 ^ 16))

-- whether two numbers compare so. The last two read them without sign
abbrev pub compare_of : Compare → ℤ → ℤ → Bool
compare_of Eq a b = int_eq a b
compare_of Ne a b = not (int_eq a b)
compare_of Lt a b = int_lt a b
compare_of Le a b = int_le a b
compare_of Gt a b = int_lt b a
compare_of Ge a b = int_le b a
compare_of Ltu a b = nat_lt (unsigned a) (unsigned b)
compare_of Geu a b = nat_le (unsigned b) (unsigned a)

-- a compare fails exactly where the opposite one holds
abbrev pub opposite : Compare → Compare
opposite Eq = Ne
opposite Ne = Eq
opposite Lt = Ge
opposite Le = Gt
opposite Gt = Le
opposite Ge = Lt
opposite Ltu = Geu
opposite Geu = Ltu

-- the result of each operation
abbrev pub value_of : Code → ℤ → ℤ → ℤ
value_of Add a b = sum_of a b
value_of Sub a b = difference_of a b
value_of And a b = and_of a b
value_of Or a b = or_of a b
value_of Xor a b = xor_of a b
value_of Shl a b = shl_of a b
value_of Shr a b = shr_of a b
value_of Shru a b = shru_of a b
value_of Sh2add a b = sh2add_of a b
value_of Max a b = int_max a b
value_of Min a b = int_min a b
value_of Mov a b = a
value_of (ToGeneral code) a b = one_if (compare_of code a b)
value_of (ToBranch code) a b = one_if (compare_of code a b)
value_of Mpylu a b = mpylu_of a b
value_of Mpyhs a b = mpyhs_of a b
value_of Div a b = quotient_of a b
value_of Rem a b = remainder_of a b

-- the laws of the arithmetic, each the clause of a public function of vx_arithmetic

-- a product is the sum of what the two half multiplications give
abbrev pub ProductByHalves : Type 0
ProductByHalves = (a b : ℤ) → IsNumber a → IsNumber b → sum_of (mpylu_of a b) (mpyhs_of a b) ≡ product_of a b

-- every result is a number of 32 bits
abbrev pub ValueFits : Type 0
ValueFits = (code : Code) (a b : ℤ) → IsNumber a → IsNumber b → IsNumber (value_of code a b)

-- a reduction gives the number of 32 bits that differs by a multiple of 2 ^ 32
abbrev pub WrapReduces : Type 0
WrapReduces = (z : ℤ) → IsReduced z (wrap z)

-- two numbers are reduced alike exactly where they differ by a multiple of 2 ^ 32
abbrev pub WrapsAlike : Type 0
WrapsAlike = (a b : ℤ) → (wrap a ≡ wrap b) ↔ ((k : ℤ) × (a ≡ b +ℤ k *ℤ pos (2 ^ 32)))

-- quotient and remainder make up the dividend
abbrev pub DivisionLaw : Type 0
DivisionLaw = (a b : ℤ) → IsNumber a → IsNumber b → (b ≡ pos 0 → ⊥) → sum_of (product_of (quotient_of a b) b) (remainder_of a b) ≡ a

-- one compare without sign with a size tells the indices from 0 below it
abbrev pub IndexCheck : Type 0
IndexCheck = (index : ℤ) (size : ℕ) → IsNumber index → size < 2 ^ 31 → IsTrue (compare_of Ltu index (pos size)) ↔ ((pos 0 ≤ℤ index) × (index <ℤ pos size))
