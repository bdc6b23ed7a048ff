-- Numbers that are equal up to multiples of 2 ^ 32: sums, products, and sums of terms.
use Rattle.std.proofs.Common.{◌≡◌, refl, sym, ◌∙◌, ap, arith, Bool, true, false, if◌then◌else◌, List, [], ◌∷◌, ℤ, pos, negsuc, ◌+ℤ◌, ◌-ℤ◌, ◌*ℤ◌}
use Rattle.std.proofs.lemmas.Int.{ints, int_wrap_fits, int_wrap-add_left, int_wrap-add_right, int_wrap-mul_left, int_wrap-mul_right}
use Rattle.std.proofs.Math.IntN.{zero-*ℤ, *ℤ_comm}
use Rattle.std.specs.Int.{w32}
use Rattle.std.specs.Ordering.{int_eq}
use Rattle.vx_base.specs.Arithmetic.{wrap, sum_of, product_of}
use Rattle.vx_base.proofs.WrapLaws.{wrap_fits}
use Rattle.vx_linear.specs.declared.form.Symbol.{Symbol}
use Rattle.vx_linear.specs.declared.form.Term.{Term}
use Rattle.vx_linear.specs.declared.linear.Linear.{Linear}
use Rattle.vx_linear.specs.Amounts.{amount, Like, AmountLaw}
use Rattle.vx_linear.specs.Forms.{sum_at, is_before, is_same}
use Rattle.vx_linear.specs.Linear.{constant, symbol, unless_zero, with_term, with_terms, scaled, plus, times, minus, same}
use Rattle.vx_linear.proofs.Products.{add_times, times_times}
use Rattle.vx_linear.proofs.Symbols.{same_is, first-true, second-true}
use Rattle.vx_linear.proofs.Equal.{int_is, terms_are}

pub like_wrap : (a : ℤ) → Like (wrap a) a
like_wrap a = int_wrap_fits w32 (wrap a) (wrap_fits a)

pub like_sum : (a b x y : ℤ) → Like a x → Like b y → Like (a +ℤ b) (x +ℤ y)
like_sum a b x y h k =
    sym (int_wrap-add_left w32 a b) ∙ ap (λ z. wrap (z +ℤ b)) h ∙ int_wrap-add_left w32 x b
    ∙ sym (int_wrap-add_right w32 x b) ∙ ap (λ z. wrap (x +ℤ z)) k ∙ int_wrap-add_right w32 x y

pub like_product : (a b x y : ℤ) → Like a x → Like b y → Like (a *ℤ b) (x *ℤ y)
like_product a b x y h k =
    sym (int_wrap-mul_left w32 a b) ∙ ap (λ z. wrap (z *ℤ b)) h ∙ int_wrap-mul_left w32 x b
    ∙ sym (int_wrap-mul_right w32 x b) ∙ ap (λ z. wrap (x *ℤ z)) k ∙ int_wrap-mul_right w32 x y

-- ---- what a sum of terms comes to, for numbers of the symbols

module _ (s : Symbol → ℤ) where
  sum_unless_zero : (t : Term) (ts : List Term) → sum_at s (unless_zero t ts) ≡ t.factor *ℤ s t.symbol +ℤ sum_at s ts
  sum_unless_zero t ts = by (int_eq t.factor (pos 0)) refl
    where
      by : (b : Bool) → int_eq t.factor (pos 0) ≡ b → sum_at s (if b then ts else t ∷ ts) ≡ t.factor *ℤ s t.symbol +ℤ sum_at s ts
      by true e = omega (arith, ints, ap (λ z. z *ℤ s t.symbol) (int_is t.factor (pos 0) e), zero-*ℤ (s t.symbol))
      by false e = refl

  -- two terms of one symbol
  one_of_two : (f g x p : ℤ) → Like (wrap (f +ℤ g) *ℤ x +ℤ p) (f *ℤ x +ℤ (g *ℤ x +ℤ p))
  one_of_two f g x p =
      like_sum (wrap (f +ℤ g) *ℤ x) p ((f +ℤ g) *ℤ x) p (like_product (wrap (f +ℤ g)) x (f +ℤ g) x (like_wrap (f +ℤ g)) refl) refl
      ∙ ap wrap (omega (arith, ints, add_times f g x))

  sum_with_term : (t : Term) (us : List Term) → Like (sum_at s (with_term t us)) (t.factor *ℤ s t.symbol +ℤ sum_at s us)
  unfolding sum_of
  sum_with_term t [] = ap wrap (sum_unless_zero t [])
  sum_with_term t (u ∷ us) = by (is_before t.symbol u.symbol) (is_same t.symbol u.symbol) refl (sum_with_term t us)
    where
      both : Term
      both = record { symbol = u.symbol; factor = sum_of t.factor u.factor }

      by : (before same : Bool) → is_same t.symbol u.symbol ≡ same → Like (sum_at s (with_term t us)) (t.factor *ℤ s t.symbol +ℤ sum_at s us) →
          Like (sum_at s (if before then unless_zero t (u ∷ us) else (if same then unless_zero (record { symbol = u.symbol; factor = sum_of t.factor u.factor }) us else u ∷ with_term t us))) (t.factor *ℤ s t.symbol +ℤ sum_at s (u ∷ us))
      by true same e more = ap wrap (sum_unless_zero t (u ∷ us))
      by false true e more =
          ap wrap (sum_unless_zero (record { symbol = u.symbol; factor = sum_of t.factor u.factor }) us)
          ∙ one_of_two t.factor u.factor (s u.symbol) (sum_at s us)
          ∙ ap (λ x. wrap (t.factor *ℤ s x +ℤ (u.factor *ℤ s u.symbol +ℤ sum_at s us))) (sym (same_is t.symbol u.symbol e))
      by false false e more =
          like_sum (u.factor *ℤ s u.symbol) (sum_at s (with_term t us)) (u.factor *ℤ s u.symbol) (t.factor *ℤ s t.symbol +ℤ sum_at s us) refl more
          ∙ ap wrap (swap (u.factor *ℤ s u.symbol) (t.factor *ℤ s t.symbol) (sum_at s us))
        where
          swap : (a b c : ℤ) → a +ℤ (b +ℤ c) ≡ b +ℤ (a +ℤ c)
          swap a b c = omega (arith, ints)

  sum_with_terms : (ts us : List Term) → Like (sum_at s (with_terms ts us)) (sum_at s ts +ℤ sum_at s us)
  sum_with_terms [] us = ap wrap (none (sum_at s us))
    where
      none : (a : ℤ) → a ≡ pos 0 +ℤ a
      none a = omega (arith, ints)
  sum_with_terms (t ∷ ts) us =
      sum_with_terms ts (with_term t us)
      ∙ like_sum (sum_at s ts) (sum_at s (with_term t us)) (sum_at s ts) (t.factor *ℤ s t.symbol +ℤ sum_at s us) refl (sum_with_term t us)
      ∙ ap wrap (swap (sum_at s ts) (t.factor *ℤ s t.symbol) (sum_at s us))
    where
      swap : (a b c : ℤ) → a +ℤ (b +ℤ c) ≡ (b +ℤ a) +ℤ c
      swap a b c = omega (arith, ints)

  sum_scaled : (n : ℤ) (ts : List Term) → Like (sum_at s (scaled n ts)) (n *ℤ sum_at s ts)
  unfolding product_of
  sum_scaled n [] = ap wrap (omega (arith, ints))
  sum_scaled n (t ∷ ts) =
      ap wrap (sum_unless_zero (record { symbol = t.symbol; factor = product_of n t.factor }) (scaled n ts))
      ∙ like_sum (wrap (n *ℤ t.factor) *ℤ s t.symbol) (sum_at s (scaled n ts)) ((n *ℤ t.factor) *ℤ s t.symbol) (n *ℤ sum_at s ts)
      (like_product (wrap (n *ℤ t.factor)) (s t.symbol) (n *ℤ t.factor) (s t.symbol) (like_wrap (n *ℤ t.factor)) refl) (sum_scaled n ts)
      ∙ ap wrap (times_sum n t.factor (s t.symbol) (sum_at s ts))
    where
      times_sum : (n f x p : ℤ) → (n *ℤ f) *ℤ x +ℤ n *ℤ p ≡ n *ℤ (f *ℤ x +ℤ p)
      times_sum n f x p = omega (arith, ints, times_times n f x, *ℤ_comm n (f *ℤ x +ℤ p), add_times (f *ℤ x) p n, *ℤ_comm (f *ℤ x) n, *ℤ_comm p n)

  pub amount_plus : (a b : Linear) → Like (amount s (plus a b)) (amount s a +ℤ amount s b)
  unfolding sum_of
  amount_plus a b =
      like_sum (wrap (a.constant +ℤ b.constant)) (sum_at s (with_terms a.terms b.terms)) (a.constant +ℤ b.constant) (sum_at s a.terms +ℤ sum_at s b.terms) (like_wrap (a.constant +ℤ b.constant)) (sum_with_terms a.terms b.terms)
      ∙ ap wrap (swap a.constant b.constant (sum_at s a.terms) (sum_at s b.terms))
    where
      swap : (a b c d : ℤ) → (a +ℤ b) +ℤ (c +ℤ d) ≡ (a +ℤ c) +ℤ (b +ℤ d)
      swap a b c d = omega (arith, ints)

  pub amount_times : (n : ℤ) (a : Linear) → Like (amount s (times n a)) (n *ℤ amount s a)
  unfolding product_of
  amount_times n a =
      like_sum (wrap (n *ℤ a.constant)) (sum_at s (scaled n a.terms)) (n *ℤ a.constant) (n *ℤ sum_at s a.terms) (like_wrap (n *ℤ a.constant)) (sum_scaled n a.terms)
      ∙ ap wrap (over n a.constant (sum_at s a.terms))
    where
      over : (n a b : ℤ) → n *ℤ a +ℤ n *ℤ b ≡ n *ℤ (a +ℤ b)
      over n a b = omega (arith, ints, *ℤ_comm n (a +ℤ b), add_times a b n, *ℤ_comm n a, *ℤ_comm n b)

  pub amount_minus : (a b : Linear) → Like (amount s (minus a b)) (amount s a -ℤ amount s b)
  amount_minus a b =
      amount_plus a (times (negsuc 0) b)
      ∙ like_sum (amount s a) (amount s (times (negsuc 0) b)) (amount s a) (negsuc 0 *ℤ amount s b) refl (amount_times (negsuc 0) b)
      ∙ ap wrap (negative (amount s a) (amount s b))
    where
      negative : (a b : ℤ) → a +ℤ negsuc 0 *ℤ b ≡ a -ℤ b
      negative a b = omega (arith, ints)

-- equal forms come to the same
pub amount_same : (s : Symbol → ℤ) (a b : Linear) → same a b ≡ true → amount s a ≡ amount s b
amount_same s a b h =
    ap (λ z. z +ℤ sum_at s a.terms) (int_is a.constant b.constant (first-true _ _ h)) ∙ ap (λ ts. b.constant +ℤ sum_at s ts) (terms_are a.terms b.terms (second-true _ _ h))

-- ---- the law

of_number : (s : Symbol → ℤ) (n : ℤ) → Like (amount s (constant n)) n
of_number s n = ap wrap (alone n)
  where
    alone : (n : ℤ) → n +ℤ pos 0 ≡ n
    alone n = omega (arith, ints)

of_symbol : (s : Symbol → ℤ) (x : Symbol) → Like (amount s (symbol x)) (s x)
of_symbol s x = ap wrap (once (s x))
  where
    once : (n : ℤ) → pos 0 +ℤ (pos 1 *ℤ n +ℤ pos 0) ≡ n
    once n = omega (arith, ints)

pub amount_law : AmountLaw
amount_law = record { of_number = of_number; of_symbol = of_symbol; of_sum = amount_plus; of_difference = amount_minus; of_product = amount_times }
