-- What a narrowing finds: a divisor of the power of 2 and of the number, and where it is less than that power, the
-- number is an odd multiple of it.
use Rattle.std.proofs.Common.{◌≡◌, ◌⊎◌, inl, inr, ℕ, zero, suc, ◌+◌, ◌*◌, ◌/◌, ◌%◌, ◌^◌, ◌<◌, ◌≤◌, refl, sym, ◌∙◌, ap, arith, pow_pos}
use Rattle.std.proofs.lemmas.Nat.{div-add-mod'}
use Rattle.std.proofs.Math.Nat.{mul-mod_left, mod-one, pow-succ'}
use Rattle.vx_linear.specs.Steps.{IsStep, Narrows, stays, halves}
use Rattle.vx_linear.proofs.Odd.{even_or_odd}

abbrev pub Multiple : ℕ → ℕ → Type 0
Multiple g n = (q : ℕ) × (n ≡ q * g)

pub divides_number : {n step g : ℕ} → Narrows n step g → Multiple g n
divides_number {n} {step} (stays e) = (n / step, omega (arith, div-add-mod' n step, e))
divides_number (halves h s e more) = divides_number more

pub divides_step : {n step g : ℕ} → Narrows n step g → Multiple g step
divides_step {n} {step} (stays e) = (1, omega arith)
divides_step {n} {step} {g} (halves h s e more) =
    let m = divides_step more in (2 * m.0, s ∙ ap (λ x. 2 * x) m.1 ∙ omega arith)

abbrev pub OddMultiple : ℕ → ℕ → Type 0
OddMultiple g n = (o : ℕ) × (n ≡ (2 * o + 1) * g)

pub same_or_odd : {n step g : ℕ} → Narrows n step g → (g ≡ step) ⊎ OddMultiple g n
same_or_odd (stays e) = inl refl
same_or_odd {n} {step} {g} (halves h s e more) = by (same_or_odd more)
  where
    on : (q : ℕ) → n ≡ q * g → g ≡ h → ((p : ℕ) × (q ≡ 2 * p)) ⊎ ((p : ℕ) × (q ≡ 2 * p + 1)) → (g ≡ step) ⊎ OddMultiple g n
    on q d k (inl (p, twice)) =
        let all : n ≡ p * step = d ∙ ap (λ x. x * g) twice ∙ omega arith ∙ ap (λ x. p * (2 * x)) k ∙ ap (λ x. p * x) (sym s) in
        absurd (e (ap (λ x. x % step) all ∙ mul-mod_left p step))
    on q d k (inr (p, odd)) = inr (p, d ∙ ap (λ x. x * g) odd)

    by : (g ≡ h) ⊎ OddMultiple g n → (g ≡ step) ⊎ OddMultiple g n
    by (inl k) = let d = divides_number more in on d.0 d.1 k (even_or_odd d.0)
    by (inr odd) = inr odd

-- a power of 2 that leaves a remainder has a half

pub record HasHalf (step : ℕ) : Type 0 where
  pub half : ℕ
  pub is : step ≡ 2 * half
  pub is_step : IsStep half

pub has_half : (step n : ℕ) → IsStep step → (n % step ≡ 0 → ⊥) → HasHalf step
has_half step n s h = by s.power s.at_most s.is
  where
    by : (k : ℕ) → k ≤ 30 → step ≡ 2 ^ k → HasHalf step
    by zero m e = absurd (h (ap (λ x. n % x) e ∙ mod-one n))
    by (suc k) m e = record { half = 2 ^ k; is = e ∙ pow-succ' 2 k; is_step = record { power = k; at_most = omega arith; is = refl } }

pub half_is : (step : ℕ) (h : HasHalf step) → step / 2 ≡ h.half
half_is step h = omega (arith, h.is)

pub step_above : (step : ℕ) → IsStep step → 0 < step
step_above step s = omega (arith, s.is, pow_pos s.power)
