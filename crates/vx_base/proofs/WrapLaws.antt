-- The reduction into 32 bits: what it is, what it does to sums, products and readings without sign, and which
-- numbers it takes to one.
use Rattle.std.proofs.Common.{◌≡◌, ℕ, suc, ◌+◌, ◌-◌, ◌*◌, ◌/◌, ◌%◌, ◌^◌, ◌<◌, ◌≤◌, Bool, true, false, ℤ, pos, negsuc, ◌+ℤ◌, ◌-ℤ◌, ◌*ℤ◌, refl, sym, ◌∙◌, ap, arith, neg_ℤ, unsigned_abs, ltb, lit<}
use mir.Val.{sel}
use Rattle.std.specs.Int.{w32, int_wrap, cast_signed, cast_unsigned}
use Rattle.std.proofs.lemmas.Int.{ints, to_z-of_z, of_z-to_z, wrapping_add_is, int_wrap_fits, int_wrap-add_left, int_wrap-add_right, int_wrap-mul_left, int_wrap-mul_right, int_wrap-add_same, int_wrap-sub_right, SFits-int_wrap}
use Rattle.std.proofs.Math.Nat.{mod-eq_of_lt}
use Rattle.std.proofs.lemmas.Nat.{div-add-mod', mod_below}
use Rattle.vx_base.specs.Arithmetic.{IsNumber, wrap, unsigned, shift_by, sum_of, difference_of, product_of, shl_of, sh2add_of, WrapReduces, WrapsAlike}

-- of a number of 32 bits it is the machine's reading without sign
pub unsigned_number : (a : ℤ) → IsNumber a → unsigned a ≡ cast_unsigned w32 a
unsigned_number a f = ap (cast_unsigned w32) (int_wrap_fits w32 a f)

pub bits_are : (a : ℤ) → IsNumber a → cast_unsigned w32 a ≡ unsigned a
bits_are a f = sym (unsigned_number a f)

bits_below : (a : ℤ) → IsNumber a → cast_unsigned w32 a < 2 ^ 32
bits_below (pos n) f = omega (arith, f.sfits)
bits_below (negsuc n) f = omega (arith, f.sfits)

-- a reading without sign is below 2 ^ 32
pub unsigned_below : (a : ℤ) → unsigned a < 2 ^ 32
unsigned_below a = bits_below (wrap a) (SFits-int_wrap w32 a)

-- a natural is reduced by its remainder, whose bits are read with their sign
pub wrap-pos : (n : ℕ) → wrap (pos n) ≡ cast_signed w32 (n % 2 ^ 32)
unfolding int_wrap
wrap-pos n = refl

pub wrap-below : (n : ℕ) → n < 2 ^ 32 → wrap (pos n) ≡ cast_signed w32 n
wrap-below n h = wrap-pos n ∙ ap (cast_signed w32) (mod-eq_of_lt h)

-- the reading without sign is the number itself up to multiples of 2 ^ 32
pub wrap-unsigned_any : (a : ℤ) → wrap (pos (unsigned a)) ≡ wrap a
wrap-unsigned_any a = wrap-below (unsigned a) (unsigned_below a) ∙ to_z-of_z w32 (wrap a) (SFits-int_wrap w32 a)

pub wrap-unsigned : (a : ℤ) → IsNumber a → wrap (pos (unsigned a)) ≡ a
wrap-unsigned a f = wrap-unsigned_any a ∙ int_wrap_fits w32 a f

-- a sum and a product of readings without sign
pub wrap-unsigned_times : (a : ℤ) (n : ℕ) → wrap (pos (unsigned a * n)) ≡ wrap (a *ℤ pos n)
wrap-unsigned_times a n =
    sym (int_wrap-mul_left w32 (pos (unsigned a)) (pos n)) ∙ ap (λ z. wrap (z *ℤ pos n)) (wrap-unsigned_any a) ∙ int_wrap-mul_left w32 a (pos n)

pub wrap-unsigned_product : (a b : ℤ) → wrap (pos (unsigned a * unsigned b)) ≡ wrap (a *ℤ b)
wrap-unsigned_product a b =
    wrap-unsigned_times a (unsigned b) ∙ sym (int_wrap-mul_right w32 a (pos (unsigned b))) ∙ ap (λ z. wrap (a *ℤ z)) (wrap-unsigned_any b) ∙ int_wrap-mul_right w32 a b

-- the bits of a number at most 2 ^ 31 away from 0, read with their sign
pub wrap-bits : (z : ℤ) → unsigned_abs z ≤ 2 ^ 31 → cast_signed w32 (cast_unsigned w32 z) ≡ wrap z
wrap-bits (pos n) h = sym (wrap-below n (omega arith))
wrap-bits (negsuc n) h =
    let fits : IsNumber (negsuc n) = record { sfits = omega arith } in
    to_z-of_z w32 (negsuc n) fits ∙ sym (int_wrap_fits w32 (negsuc n) fits)

pub wrap_fits : (z : ℤ) → IsNumber (wrap z)
wrap_fits z = SFits-int_wrap w32 z

-- ---- multiples of 2 ^ 32

-- a multiple of 2 ^ 32 more is reduced alike
pub wrap-add_multiple : (b k : ℤ) → wrap (b +ℤ k *ℤ pos (2 ^ 32)) ≡ wrap b
wrap-add_multiple b k =
    let none : wrap (k *ℤ pos (2 ^ 32)) ≡ pos 0 =
    sym (int_wrap-mul_right w32 k (pos (2 ^ 32))) ∙ ap (λ z. wrap (k *ℤ z)) (wrap-pos (2 ^ 32)) ∙ ap wrap (omega (arith, ints)) ∙ wrap-pos 0 in
    sym (int_wrap-add_right w32 b (k *ℤ pos (2 ^ 32))) ∙ ap (λ z. wrap (b +ℤ z)) none ∙ ap wrap (omega (arith, ints))

-- bits read with their sign are what they are without, or 2 ^ 32 less
signed_of : (n : ℕ) → n < 2 ^ 32 → (j : ℕ) × (cast_signed w32 n +ℤ pos (j * 2 ^ 32) ≡ pos n)
signed_of n h = by (ltb n (2 ^ 31)) refl
  where
    by : (t : Bool) → ltb n (2 ^ 31) ≡ t → (j : ℕ) × (sel t (pos n) (negsuc (2 ^ 32 - suc n)) +ℤ pos (j * 2 ^ 32) ≡ pos n)
    by true e = (0, omega (arith, ints))
    by false e = (1, omega (arith, ints))

-- a number is what is left of it and a multiple of 2 ^ 32
pub wrap-and_multiple : (z : ℤ) → (k : ℤ) × (z ≡ wrap z +ℤ k *ℤ pos (2 ^ 32))
unfolding int_wrap
wrap-and_multiple (pos a) =
    let s = signed_of (a % 2 ^ 32) (mod_below a (2 ^ 32) (lit< tt)) in
    (pos (s.0 + a / 2 ^ 32), omega (arith, ints, s.1, div-add-mod' a (2 ^ 32)))
wrap-and_multiple (negsuc a) =
    let below = mod_below a (2 ^ 32) (lit< tt) in
    let s = signed_of (2 ^ 32 - 1 - a % 2 ^ 32) (omega arith) in
    (pos s.0 -ℤ pos (a / 2 ^ 32 + 1), omega (arith, ints, s.1, div-add-mod' a (2 ^ 32)))

pub wraps_alike_law : WrapsAlike
wraps_alike_law a b = (
  λ e. let k = wrap-and_multiple a in let l = wrap-and_multiple b in (k.0 -ℤ l.0, omega (arith, ints, k.1, l.1, e)),
  λ h. ap wrap h.1 ∙ wrap-add_multiple b h.0,
)

pub wrap_reduces_law : WrapReduces
wrap_reduces_law z = record { in_range = wrap_fits z; multiple = wrap-and_multiple z }

-- ---- reductions on the way change nothing

pub sum_of-wrap : (a b : ℤ) → sum_of (wrap a) (wrap b) ≡ wrap (a +ℤ b)
unfolding sum_of
sum_of-wrap a b = int_wrap-add_left w32 a (wrap b) ∙ int_wrap-add_right w32 a b

pub difference_of-wrap : (a b : ℤ) → difference_of (wrap a) (wrap b) ≡ wrap (a -ℤ b)
unfolding difference_of
difference_of-wrap a b = int_wrap-add_left w32 a (neg_ℤ (wrap b)) ∙ int_wrap-sub_right w32 a b

pub product_of-wrap : (a b : ℤ) → product_of (wrap a) (wrap b) ≡ wrap (a *ℤ b)
unfolding product_of
product_of-wrap a b = int_wrap-mul_left w32 a (wrap b) ∙ int_wrap-mul_right w32 a b

pub shl_of-wrap : (a b : ℤ) → shl_of (wrap a) b ≡ wrap (a *ℤ pos (2 ^ shift_by b))
unfolding shl_of
shl_of-wrap a b = int_wrap-mul_left w32 a (pos (2 ^ shift_by b))

pub sh2add_of-wrap : (a b : ℤ) → sh2add_of (wrap a) (wrap b) ≡ wrap (pos 4 *ℤ a +ℤ b)
unfolding sh2add_of
sh2add_of-wrap a b =
    int_wrap-add_right w32 (pos 4 *ℤ wrap a) b
    ∙ int_wrap-add_same w32 (pos 4 *ℤ wrap a) (pos 4 *ℤ a) b (int_wrap-mul_right w32 (pos 4) a)

-- ---- where the whole number is in the range, it is the result

pub sum_of-exact : (a b : ℤ) → IsNumber (a +ℤ b) → sum_of a b ≡ a +ℤ b
unfolding sum_of
sum_of-exact a b f = int_wrap_fits w32 (a +ℤ b) f

pub difference_of-exact : (a b : ℤ) → IsNumber (a -ℤ b) → difference_of a b ≡ a -ℤ b
unfolding difference_of
difference_of-exact a b f = int_wrap_fits w32 (a -ℤ b) f

pub product_of-exact : (a b : ℤ) → IsNumber (a *ℤ b) → product_of a b ≡ a *ℤ b
unfolding product_of
product_of-exact a b f = int_wrap_fits w32 (a *ℤ b) f

pub shl_of-exact : (a b : ℤ) → IsNumber (a *ℤ pos (2 ^ shift_by b)) → shl_of a b ≡ a *ℤ pos (2 ^ shift_by b)
unfolding shl_of
shl_of-exact a b f = int_wrap_fits w32 (a *ℤ pos (2 ^ shift_by b)) f

pub sh2add_of-exact : (a b : ℤ) → IsNumber (pos 4 *ℤ a +ℤ b) → sh2add_of a b ≡ pos 4 *ℤ a +ℤ b
unfolding sh2add_of
sh2add_of-exact a b f = int_wrap_fits w32 (pos 4 *ℤ a +ℤ b) f

-- ---- readings without sign

pub unsigned-pos : (n : ℕ) → unsigned (pos n) ≡ n % 2 ^ 32
unsigned-pos n = ap (cast_unsigned w32) (wrap-pos n) ∙ of_z-to_z w32 (n % 2 ^ 32) (mod_below n (2 ^ 32) (lit< tt))

-- numbers that are reduced alike have the same bits
pub unsigned-wrap : (a : ℤ) → unsigned (wrap a) ≡ unsigned a
unsigned-wrap a = ap (cast_unsigned w32) (int_wrap_fits w32 (wrap a) (SFits-int_wrap w32 a))

pub unsigned-same : (a b : ℤ) → IsNumber a → IsNumber b → unsigned a ≡ unsigned b → a ≡ b
unsigned-same a b f g e = sym (wrap-unsigned a f) ∙ ap (λ n. wrap (pos n)) e ∙ wrap-unsigned b g

-- a sum of two addresses, as the machine reads it
pub unsigned-sum_of : (a b : ℤ) → IsNumber a → IsNumber b → unsigned (sum_of a b) ≡ (unsigned a + unsigned b) % 2 ^ 32
unfolding sum_of
unsigned-sum_of a b f g =
    unsigned-wrap (a +ℤ b) ∙ ap (cast_unsigned w32) (sym (wrapping_add_is w32 a b f g))
    ∙ ap (λ n. cast_unsigned w32 (cast_signed w32 (n % 2 ^ 32))) (sym (λ i. unsigned_number a f i + unsigned_number b g i))
    ∙ of_z-to_z w32 ((unsigned a + unsigned b) % 2 ^ 32) (mod_below (unsigned a + unsigned b) (2 ^ 32) (lit< tt))
