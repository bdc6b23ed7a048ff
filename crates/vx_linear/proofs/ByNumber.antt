-- Shifts and half multiplications as products, of every integer.
use Rattle.std.proofs.Common.{◌≡◌, ℕ, ◌+◌, ◌*◌, ◌/◌, ◌%◌, ◌^◌, refl, sym, ◌∙◌, ap, arith, Bool, true, false, ℤ, pos, ◌*ℤ◌}
use Rattle.std.proofs.lemmas.Bool.{false≢true}
use Rattle.std.proofs.lemmas.Int.{ints, int_wrap-add_left, int_wrap-add_right}
use Rattle.std.proofs.lemmas.Nat.{div-add-mod'}
use Rattle.std.proofs.Math.IntN.{*ℤ_comm}
use Rattle.std.specs.Int.{w32, cast_unsigned}
use Rattle.vx_base.specs.declared.arithmetic.Code.{Code}
use Rattle.vx_base.specs.declared.arithmetic.Code.TheVariants.{Shl, Mpylu, Mpyhs}
use Rattle.vx_base.specs.Arithmetic.{wrap, unsigned, shift_by, sum_of, shl_of, mpylu_of, mpyhs_of, value_of}
use Rattle.vx_base.proofs.WrapLaws.{wrap-unsigned_times, wrap-unsigned_product}
use Rattle.vx_linear.specs.Followed.{are_two}
use Rattle.vx_linear.specs.Amounts.{Like}
use Rattle.vx_linear.proofs.Reduced.{like_wrap, like_product}

-- an operation that multiplies by m multiplies by what it makes of 1
by_one : (one whole x m : ℤ) → whole ≡ wrap (x *ℤ m) → one ≡ wrap (pos 1 *ℤ m) → Like whole (one *ℤ x)
by_one one whole x m h k =
    ap wrap h ∙ like_wrap (x *ℤ m) ∙ ap wrap (turn x m)
    ∙ sym (like_product (wrap (pos 1 *ℤ m)) x (pos 1 *ℤ m) x (like_wrap (pos 1 *ℤ m)) refl) ∙ ap (λ z. wrap (z *ℤ x)) (sym k)
  where
    turn : (x m : ℤ) → x *ℤ m ≡ (pos 1 *ℤ m) *ℤ x
    turn x m = let one_m : pos 1 *ℤ m ≡ m = omega (arith, ints) in *ℤ_comm x m ∙ ap (λ z. z *ℤ x) (sym one_m)

pub shl_by_one : (x n : ℤ) → Like (value_of Shl x n) (value_of Shl (pos 1) n *ℤ x)
unfolding shl_of
shl_by_one x n = by_one (shl_of (pos 1) n) (shl_of x n) x (pos (2 ^ shift_by n)) refl refl

mpylu_is : (a b : ℤ) → mpylu_of a b ≡ wrap (a *ℤ pos (unsigned b % 2 ^ 16))
unfolding mpylu_of
mpylu_is a b = wrap-unsigned_times a (unsigned b % 2 ^ 16)

mpyhs_is : (a b : ℤ) → mpyhs_of a b ≡ wrap (a *ℤ pos (unsigned b / 2 ^ 16 * 2 ^ 16))
unfolding mpyhs_of
mpyhs_is a b = ap (λ n. wrap (pos n)) (turn (unsigned a) (unsigned b / 2 ^ 16)) ∙ wrap-unsigned_times a (unsigned b / 2 ^ 16 * 2 ^ 16)
  where
    turn : (x y : ℕ) → x * y * 2 ^ 16 ≡ x * (y * 2 ^ 16)
    turn x y = omega arith

pub mpylu_by_one : (x n : ℤ) → Like (value_of Mpylu x n) (value_of Mpylu (pos 1) n *ℤ x)
mpylu_by_one x n = by_one (mpylu_of (pos 1) n) (mpylu_of x n) x (pos (unsigned n % 2 ^ 16)) (mpylu_is x n) (mpylu_is (pos 1) n)

pub mpyhs_by_one : (x n : ℤ) → Like (value_of Mpyhs x n) (value_of Mpyhs (pos 1) n *ℤ x)
mpyhs_by_one x n = by_one (mpyhs_of (pos 1) n) (mpyhs_of x n) x (pos (unsigned n / 2 ^ 16 * 2 ^ 16)) (mpyhs_is x n) (mpyhs_is (pos 1) n)

-- ---- the two halves of one product

halves : (x y m : ℕ) → x * (y % m) + x * (y / m) * m ≡ x * y
halves x y m = let e = div-add-mod' y m in omega (arith, ap (λ n. x * n) e)

pub product_by_halves_any : (a b : ℤ) → sum_of (mpylu_of a b) (mpyhs_of a b) ≡ wrap (a *ℤ b)
unfolding sum_of mpylu_of mpyhs_of
product_by_halves_any a b =
    let low = unsigned a * (unsigned b % 2 ^ 16) in
    let high = unsigned a * (unsigned b / 2 ^ 16) * 2 ^ 16 in
    int_wrap-add_left w32 (pos low) (wrap (pos high)) ∙ int_wrap-add_right w32 (pos low) (pos high)
    ∙ ap (λ n. wrap (pos n)) (halves (unsigned a) (unsigned b) (2 ^ 16)) ∙ wrap-unsigned_product a b

-- numbers that are reduced alike have one product

mpylu_alike : (a b x y : ℤ) → Like a x → Like b y → mpylu_of a b ≡ mpylu_of x y
unfolding mpylu_of
mpylu_alike a b x y h k = (λ i. wrap (pos (cast_unsigned w32 (h i) * (cast_unsigned w32 (k i) % 2 ^ 16))))

mpyhs_alike : (a b x y : ℤ) → Like a x → Like b y → mpyhs_of a b ≡ mpyhs_of x y
unfolding mpyhs_of
mpyhs_alike a b x y h k = (λ i. wrap (pos (cast_unsigned w32 (h i) * (cast_unsigned w32 (k i) / 2 ^ 16) * 2 ^ 16)))

sum_of-swap : (a b : ℤ) → sum_of a b ≡ sum_of b a
unfolding sum_of
sum_of-swap a b = ap wrap (omega (arith, ints))

abbrev pub half_code : Bool → Code
half_code true = Mpyhs
half_code false = Mpylu

-- in either order
pub sum_of_halves : (first second : Bool) (a b x y : ℤ) → are_two first second ≡ true → Like a x → Like b y → Like (sum_of (value_of (half_code first) a b) (value_of (half_code second) x y)) (a *ℤ b)
sum_of_halves true true a b x y e h k = absurd (false≢true e)
sum_of_halves false false a b x y e h k = absurd (false≢true e)
sum_of_halves true false a b x y e h k =
    ap (λ z. wrap (sum_of (mpyhs_of a b) z)) (sym (mpylu_alike a b x y h k)) ∙ ap wrap (sum_of-swap (mpyhs_of a b) (mpylu_of a b) ∙ product_by_halves_any a b) ∙ like_wrap (a *ℤ b)
sum_of_halves false true a b x y e h k =
    ap (λ z. wrap (sum_of (mpylu_of a b) z)) (sym (mpyhs_alike a b x y h k)) ∙ ap wrap (product_by_halves_any a b) ∙ like_wrap (a *ℤ b)
