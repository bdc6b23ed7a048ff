-- What the wrapping operations of the code compute is what each operation is defined to give.
use Rattle.std.proofs.Common.{◌≡◌, ℕ, zero, suc, ◌+◌, ◌*◌, ◌/◌, ◌%◌, ◌^◌, ◌≤◌, ℤ, pos, negsuc, ◌+ℤ◌, ◌*ℤ◌, refl, sym, ◌∙◌, ap, arith, bit_and, bit_or, bit_xor, neg_ℤ, unsigned_abs, int_div, int_rem, lit<}
use lib.IntN.{*ℤ_comm}
use Rattle.std.specs.Int.{w32, cast_signed, cast_unsigned, int_shl, int_shr, int_wrapping_div}
use Rattle.std.proofs.lemmas.Int.{ints, to_z-of_z, of_z-to_z, int_wrap_fits, wrapping_add_onto, int_wrap-add_left, int_wrap-add_right, int_wrap-mul_left, int_wrap-mul_right, int_wrap-add_same, SFits-int_wrap, quot-rem}
use Rattle.std.proofs.Math.Nat.{div-le_self, mul_comm, mul_assoc}
use Rattle.std.proofs.lemmas.Nat.{mod_below, and_le_l, or_of_32, xor_of_32, shr_le}
use Rattle.vx_base.specs.Arithmetic.{IsNumber, wrap, unsigned, shift_by, unless_zero, quotient_of, remainder_of, shl_of, shr_of, shru_of, and_of, or_of, xor_of, sh2add_of, mpylu_of, mpyhs_of}
use Rattle.vx_base.proofs.WrapLaws.{unsigned_number, unsigned_below, wrap-pos, wrap-below, wrap-unsigned_times, wrap-bits}
use Rattle.vx_base.proofs.ArithmeticLaws.{unless_zero_other}

number_size : (a : ℤ) → IsNumber a → unsigned_abs a ≤ 2 ^ 31
number_size (pos n) f = omega (arith, f.sfits)
number_size (negsuc n) f = omega (arith, f.sfits)

abs-neg : (n : ℕ) → unsigned_abs (neg_ℤ (pos n)) ≡ n
abs-neg zero = refl
abs-neg (suc n) = refl

quotient_size : (a b : ℤ) → unsigned_abs (int_div a b) ≤ unsigned_abs a
quotient_size (pos a) (pos b) = div-le_self a b
quotient_size (pos a) (negsuc b) = omega (arith, abs-neg (a / suc b), div-le_self a (suc b))
quotient_size (negsuc a) (pos b) = omega (arith, abs-neg (suc a / b), div-le_self (suc a) b)
quotient_size (negsuc a) (negsuc b) = div-le_self (suc a) (suc b)

-- a divisor whose bits are 0 is 0
zero_from_bits : (b : ℤ) → IsNumber b → cast_unsigned w32 b ≡ 0 → b ≡ pos 0
zero_from_bits (pos n) f e = ap pos e
zero_from_bits (negsuc n) f e = absurd (omega (arith, f.sfits))

not_zero : (b : ℤ) → (cast_unsigned w32 b ≡ 0 → ⊥) → b ≡ pos 0 → ⊥
not_zero b n e = n (ap (cast_unsigned w32) e)

pub quotient_by_zero : (a b : ℤ) → IsNumber b → cast_unsigned w32 b ≡ 0 → pos 0 ≡ quotient_of a b
unfolding quotient_of
quotient_by_zero a b f e = sym (ap (λ d. unless_zero d (wrap (int_div a d))) (zero_from_bits b f e))

pub quotient_by_other : (a b : ℤ) → IsNumber a → (cast_unsigned w32 b ≡ 0 → ⊥) → int_wrapping_div w32 a b ≡ quotient_of a b
unfolding quotient_of
quotient_by_other a b f n =
    wrap-bits (int_div a b) (omega (arith, quotient_size a b, number_size a f)) ∙ sym (unless_zero_other b (wrap (int_div a b)) (not_zero b n))

pub remainder_by_zero : (a b : ℤ) → IsNumber b → cast_unsigned w32 b ≡ 0 → pos 0 ≡ remainder_of a b
unfolding remainder_of
remainder_by_zero a b f e = sym (ap (λ d. unless_zero d (int_rem a d)) (zero_from_bits b f e))

pub remainder_by_other : (a b : ℤ) → (cast_unsigned w32 b ≡ 0 → ⊥) → int_rem a b ≡ remainder_of a b
unfolding remainder_of
remainder_by_other a b n = sym (unless_zero_other b (int_rem a b) (not_zero b n))

pub shl_is : (a b : ℤ) → IsNumber a → int_shl w32 a (unsigned b % 32) ≡ shl_of a b
unfolding shl_of
shl_is a b f =
    ap (λ n. cast_signed w32 (n * 2 ^ shift_by b % 2 ^ 32)) (sym (unsigned_number a f)) ∙ sym (wrap-pos (unsigned a * 2 ^ shift_by b))
    ∙ wrap-unsigned_times a (2 ^ shift_by b)

pub shr_is : (a b : ℤ) → int_shr a (unsigned b % 32) ≡ shr_of a b
unfolding shr_of
shr_is a b = refl

pub shru_is : (a b : ℤ) → cast_signed w32 (unsigned a / 2 ^ (unsigned b % 32)) ≡ shru_of a b
unfolding shru_of
shru_is a b = sym (wrap-below (unsigned a / 2 ^ shift_by b) (omega (arith, shr_le (unsigned a) (shift_by b), unsigned_below a)))

pub and_is : (a b : ℤ) → cast_signed w32 (bit_and (unsigned a) (unsigned b)) ≡ and_of a b
unfolding and_of
and_is a b = sym (wrap-below (bit_and (unsigned a) (unsigned b)) (omega (arith, and_le_l (unsigned a) (unsigned b), unsigned_below a)))

pub or_is : (a b : ℤ) → cast_signed w32 (bit_or (unsigned a) (unsigned b)) ≡ or_of a b
unfolding or_of
or_is a b = sym (wrap-below (bit_or (unsigned a) (unsigned b)) (or_of_32 (unsigned a) (unsigned b) (unsigned_below a) (unsigned_below b)))

pub xor_is : (a b : ℤ) → cast_signed w32 (bit_xor (unsigned a) (unsigned b)) ≡ xor_of a b
unfolding xor_of
xor_is a b = sym (wrap-below (bit_xor (unsigned a) (unsigned b)) (xor_of_32 (unsigned a) (unsigned b) (unsigned_below a) (unsigned_below b)))

pub sh2add_is : (a b : ℤ) → IsNumber a → IsNumber b → cast_signed w32 ((4 * cast_unsigned w32 a % 2 ^ 32 + cast_unsigned w32 b) % 2 ^ 32) ≡ sh2add_of a b
unfolding sh2add_of
sh2add_is a b f g =
    let four : wrap (pos (4 * unsigned a)) ≡ wrap (pos 4 *ℤ a) =
    ap (λ n. wrap (pos n)) (mul_comm 4 (unsigned a)) ∙ wrap-unsigned_times a 4 ∙ ap wrap (*ℤ_comm a (pos 4)) in
    ap (λ n. cast_signed w32 ((4 * n % 2 ^ 32 + cast_unsigned w32 b) % 2 ^ 32)) (sym (unsigned_number a f))
    ∙ wrapping_add_onto w32 (4 * unsigned a % 2 ^ 32) b (mod_below (4 * unsigned a) (2 ^ 32) (lit< tt)) g
    ∙ ap (λ z. wrap (z +ℤ b)) (sym (wrap-pos (4 * unsigned a))) ∙ int_wrap-add_left w32 (pos (4 * unsigned a)) b
    ∙ int_wrap-add_same w32 (pos (4 * unsigned a)) (pos 4 *ℤ a) b four

pub mpylu_is : (a b : ℤ) → cast_signed w32 (unsigned a * (unsigned b % 65536) % 2 ^ 32) ≡ mpylu_of a b
unfolding mpylu_of
mpylu_is a b = sym (wrap-pos (unsigned a * (unsigned b % 2 ^ 16)))

pub mpyhs_is : (a b : ℤ) → cast_signed w32 (unsigned a * (unsigned b / 65536 * 65536) % 2 ^ 32) ≡ mpyhs_of a b
unfolding mpyhs_of
mpyhs_is a b =
    sym (wrap-pos (unsigned a * (unsigned b / 2 ^ 16 * 2 ^ 16))) ∙ ap (λ n. wrap (pos n)) (sym (mul_assoc (unsigned a) (unsigned b / 2 ^ 16) (2 ^ 16)))

-- what the code computes for each operation is what it is defined to be
pub ruleset machine = (to_z-of_z, quotient_by_zero, quotient_by_other, remainder_by_zero, remainder_by_other, shl_is, shr_is, shru_is, and_is, or_is, xor_is, sh2add_is, mpylu_is, mpyhs_is)
