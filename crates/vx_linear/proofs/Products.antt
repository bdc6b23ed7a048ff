-- Products of integers: over sums and differences, and of three.
use Rattle.std.proofs.Common.{◌≡◌, zero, suc, sym, ◌∙◌, ap, arith, ℤ, pos, negsuc, ◌+ℤ◌, ◌-ℤ◌, ◌*ℤ◌}
use Rattle.std.proofs.lemmas.Int.{ints}
use Rattle.std.proofs.Math.IntN.{suc_ℤ-*ℤ, pred_ℤ-*ℤ, suc_ℤ-+ℤ, pred_ℤ-+ℤ, +ℤ_idl, *ℤ_comm, zero-*ℤ}

pub add_times : (a b c : ℤ) → (a +ℤ b) *ℤ c ≡ a *ℤ c +ℤ b *ℤ c
add_times (pos zero) b c = omega (arith, ints, zero-*ℤ c, ap (λ x. x *ℤ c) (+ℤ_idl b))
add_times (pos (suc m)) b c =
    let e = suc_ℤ-+ℤ (pos m) b in
    omega (arith, ints, ap (λ x. x *ℤ c) e, suc_ℤ-*ℤ (pos m +ℤ b) c, add_times (pos m) b c, suc_ℤ-*ℤ (pos m) c)
add_times (negsuc zero) b c =
    let e = pred_ℤ-+ℤ (pos zero) b in
    omega (arith, ints, ap (λ x. x *ℤ c) e, pred_ℤ-*ℤ (pos zero +ℤ b) c, ap (λ x. x *ℤ c) (+ℤ_idl b), pred_ℤ-*ℤ (pos zero) c, zero-*ℤ c)
add_times (negsuc (suc m)) b c =
    let e = pred_ℤ-+ℤ (negsuc m) b in
    omega (arith, ints, ap (λ x. x *ℤ c) e, pred_ℤ-*ℤ (negsuc m +ℤ b) c, add_times (negsuc m) b c, pred_ℤ-*ℤ (negsuc m) c)

pub subtract_times : (a b c : ℤ) → (a -ℤ b) *ℤ c ≡ a *ℤ c -ℤ b *ℤ c
subtract_times a b c =
    let e : (a -ℤ b) +ℤ b ≡ a = omega (arith, ints) in
    omega (arith, ints, sym (add_times (a -ℤ b) b c) ∙ ap (λ x. x *ℤ c) e)

zero_times : (b c : ℤ) → (pos zero *ℤ b) *ℤ c ≡ pos zero *ℤ (b *ℤ c)
zero_times b c = ap (λ x. x *ℤ c) (zero-*ℤ b) ∙ zero-*ℤ c ∙ sym (zero-*ℤ (b *ℤ c))

pub times_times : (a b c : ℤ) → (a *ℤ b) *ℤ c ≡ a *ℤ (b *ℤ c)
times_times (pos zero) b c = zero_times b c
times_times (pos (suc m)) b c =
    ap (λ x. x *ℤ c) (suc_ℤ-*ℤ (pos m) b) ∙ add_times (pos m *ℤ b) b c ∙ ap (λ x. x +ℤ b *ℤ c) (times_times (pos m) b c) ∙ sym (suc_ℤ-*ℤ (pos m) (b *ℤ c))
times_times (negsuc zero) b c =
    ap (λ x. x *ℤ c) (pred_ℤ-*ℤ (pos zero) b) ∙ subtract_times (pos zero *ℤ b) b c ∙ ap (λ x. x -ℤ b *ℤ c) (zero_times b c) ∙ sym (pred_ℤ-*ℤ (pos zero) (b *ℤ c))
times_times (negsuc (suc m)) b c =
    ap (λ x. x *ℤ c) (pred_ℤ-*ℤ (negsuc m) b) ∙ subtract_times (negsuc m *ℤ b) b c ∙ ap (λ x. x -ℤ b *ℤ c) (times_times (negsuc m) b c) ∙ sym (pred_ℤ-*ℤ (negsuc m) (b *ℤ c))

-- the middle one may change places
pub times_swap : (a b c : ℤ) → (a *ℤ b) *ℤ c ≡ (a *ℤ c) *ℤ b
times_swap a b c = times_times a b c ∙ ap (λ x. a *ℤ x) (*ℤ_comm b c) ∙ sym (times_times a c b)
