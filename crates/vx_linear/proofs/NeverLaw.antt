-- Two forms whose arrays are not apart name no common word exactly where the power of 2 does not divide their constants' difference.
use Rattle.std.proofs.Common.{◌≡◌, ◌⊎◌, inl, inr, ℕ, ◌+◌, ◌*◌, ◌/◌, ◌%◌, ◌^◌, sym, ◌∙◌, ap, arith, true, false, ℤ, pos, negsuc, ◌+ℤ◌, ◌-ℤ◌, ◌*ℤ◌}
use Rattle.std.proofs.lemmas.Bool.{false≢true}
use Rattle.std.proofs.lemmas.Int.{ints}
use Rattle.std.proofs.lemmas.Nat.{div-add-mod'}
use Rattle.std.proofs.Math.IntN.{pos-*ℤ-pos, negsuc-*ℤ-pos, *ℤ_comm}
use Rattle.std.proofs.Math.Nat.{mul-mod_left}
use Rattle.vx_base.specs.Arithmetic.{unsigned, difference_of}
use Rattle.vx_flow.specs.Apart.{are_apart}
use Rattle.vx_linear.specs.declared.form.Symbol.{Symbol}
use Rattle.vx_linear.specs.declared.form.Form.{Form}
use Rattle.vx_linear.specs.Forms.{sum_at, Meet, NeverSame, is_ordered}
use Rattle.vx_linear.specs.Steps.{Steps}
use Rattle.vx_linear.proofs.Odd.{Inverse, odd_inverse}
use Rattle.vx_linear.proofs.Products.{subtract_times, times_times}
use Rattle.vx_linear.proofs.Narrowing.{Multiple}
use Rattle.vx_linear.proofs.Symbols.{only, zero_sum}
use Rattle.vx_linear.proofs.Differing.{like_difference, steps_divide, sums_differ, reached, Reached}

-- a natural that is a multiple as an integer leaves no remainder
no_remainder : (n g : ℕ) (z : ℤ) → pos n ≡ z *ℤ pos g → n % g ≡ 0
no_remainder n g (pos q) e = let h : n ≡ q * g = omega (arith, ints, e ∙ pos-*ℤ-pos q g) in ap (λ x. x % g) h ∙ mul-mod_left q g
no_remainder n g (negsuc q) e = let h : n ≡ 0 * g = omega (arith, ints, e ∙ negsuc-*ℤ-pos q g) in ap (λ x. x % g) h ∙ mul-mod_left 0 g

meets_at_multiple : (c d p q k j l g r : ℤ) (n : ℤ) → n ≡ (c -ℤ d) +ℤ l *ℤ pos (2 ^ 32) → p ≡ q +ℤ k *ℤ g → c +ℤ p ≡ (d +ℤ q) +ℤ j *ℤ pos (2 ^ 30) → pos (2 ^ 30) ≡ r *ℤ g → n ≡ ((j +ℤ l *ℤ pos 4) *ℤ r -ℤ k) *ℤ g
meets_at_multiple c d p q k j l g r n e h m w =
    omega (arith, ints, e, h, m, subtract_times ((j +ℤ l *ℤ pos 4) *ℤ r) k g, times_times (j +ℤ l *ℤ pos 4) r g, ap (λ x. (j +ℤ l *ℤ pos 4) *ℤ x) w)

made_up_without : (c d p q l : ℤ) (n k : ℕ) → pos n ≡ (c -ℤ d) +ℤ l *ℤ pos (2 ^ 32) → n ≡ k * 2 ^ 30 → p ≡ pos 0 → q ≡ pos 0 → c +ℤ p ≡ (d +ℤ q) +ℤ (pos k -ℤ l *ℤ pos 4) *ℤ pos (2 ^ 30)
made_up_without c d p q l n k e h i j = omega (arith, ints, e, ap pos h, i, j)

made_up : (c d p q l k x : ℤ) (n y : ℕ) → pos n ≡ (c -ℤ d) +ℤ l *ℤ pos (2 ^ 32) → p ≡ q +ℤ x +ℤ k *ℤ pos (2 ^ 32) → x ≡ pos 0 -ℤ pos (n + y * 2 ^ 30) → c +ℤ p ≡ (d +ℤ q) +ℤ ((k -ℤ l) *ℤ pos 4 -ℤ pos y) *ℤ pos (2 ^ 30)
made_up c d p q l k x n y e h i = omega (arith, ints, e, h, i)

module _ (a b : Form) (g : ℕ) (steps : Steps a.terms b.terms (2 ^ 30) g) where
  whole : Multiple g (2 ^ 30)
  whole = steps_divide steps

  whole_word : Multiple g (2 ^ 32)
  whole_word = (4 * whole.0, omega (arith, ap (λ x. 4 * x) whole.1))

  abbrev pub apart : ℕ
  apart = unsigned (difference_of a.constant b.constant)

  pub never_by : (apart % g ≡ 0 → ⊥) → NeverSame a b
  never_by no_multiple = inr (λ s m.
      let l = like_difference a.constant b.constant in
      let k = sums_differ steps whole_word s in
      no_multiple (no_remainder apart g ((m.multiple +ℤ l.0 *ℤ pos 4) *ℤ pos whole.0 -ℤ k.0)
      (meets_at_multiple a.constant b.constant (sum_at s a.terms) (sum_at s b.terms) k.0 m.multiple l.0 (pos g) (pos whole.0) (pos apart) l.1 k.1 m.equal (ap pos whole.1 ∙ sym (pos-*ℤ-pos whole.0 g)))))

  -- no symbol is needed where the power of 2 is 2 ^ 30
  meet_without : g ≡ 2 ^ 30 → apart % g ≡ 0 → Meet (λ x. pos 0) a b
  meet_without e h =
      let l = like_difference a.constant b.constant in
      let q : apart ≡ (apart / g) * 2 ^ 30 = omega (arith, div-add-mod' apart g, h, ap (λ x. (apart / g) * x) e) in
      record {
        multiple = pos (apart / g) -ℤ l.0 *ℤ pos 4;
        equal = made_up_without a.constant b.constant (sum_at (λ x. pos 0) a.terms) (sum_at (λ x. pos 0) b.terms) l.0 apart (apart / g) l.1 q (zero_sum a.terms) (zero_sum b.terms);
      }

  -- else one symbol makes up for the difference
  meet_by : (r : Reached a.terms b.terms g) → apart % g ≡ 0 → (s : Symbol → ℤ) × Meet s a b
  meet_by r h = on (odd_inverse r.odd 30)
    where
      l : (k : ℤ) × (pos apart ≡ (a.constant -ℤ b.constant) +ℤ k *ℤ pos (2 ^ 32))
      l = like_difference a.constant b.constant

      q : ℕ
      q = apart / g

      on : Inverse (2 * r.odd + 1) 30 → (s : Symbol → ℤ) × Meet s a b
      on i =
          let m = pos 0 -ℤ pos (q * i.inverse) in
          let e = r.gives m in
          let parts : apart ≡ q * g = omega (arith, div-add-mod' apart g, h) in
          let big : ((2 * r.odd + 1) * g) * (q * i.inverse) ≡ apart + (q * g * i.rest) * 2 ^ 30 =
          omega (arith, parts, ap (λ x. q * g * x) i.is) in
          let product : pos ((2 * r.odd + 1) * g) *ℤ m ≡ pos 0 -ℤ pos (apart + (q * g * i.rest) * 2 ^ 30) =
          omega (arith, ints, *ℤ_comm (pos ((2 * r.odd + 1) * g)) m, subtract_times (pos 0) (pos (q * i.inverse)) (pos ((2 * r.odd + 1) * g)), pos-*ℤ-pos (q * i.inverse) ((2 * r.odd + 1) * g), big) in (
            only r.symbol e.0,
            record {
              multiple = (e.1 -ℤ l.0) *ℤ pos 4 -ℤ pos (q * g * i.rest);
              equal = made_up a.constant b.constant (sum_at (only r.symbol e.0) a.terms) (sum_at (only r.symbol e.0) b.terms) l.0 e.1 (pos ((2 * r.odd + 1) * g) *ℤ m) apart (q * g * i.rest) l.1 e.2 product;
            },
          )

  pub not_never_by : is_ordered a.terms ≡ true → is_ordered b.terms ≡ true → are_apart a.array b.array ≡ false → apart % g ≡ 0 → NeverSame a b → ⊥
  not_never_by oa ob meet h (inl two) = false≢true (sym meet ∙ two)
  not_never_by oa ob meet h (inr never) = by (reached steps oa ob)
    where
      by : (g ≡ 2 ^ 30) ⊎ Reached a.terms b.terms g → ⊥
      by (inl e) = never (λ x. pos 0) (meet_without e h)
      by (inr r) = let m = meet_by r h in never m.0 m.1
