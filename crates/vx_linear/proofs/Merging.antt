-- One step of the merge: what is left then comes to the same power as the whole.
use Rattle.std.proofs.Common.{◌≡◌, ℕ, ◌^◌, refl, sym, ◌∙◌, ap, arith, true, false, if◌then◌else◌, List, [], ◌∷◌, length, subst}
use Rattle.std.proofs.lemmas.Bool.Decides.{nat_tests}
use Rattle.vx_base.specs.Arithmetic.{IsNumber, unsigned, difference_of, sum_of}
use Rattle.vx_linear.specs.declared.form.Symbol.{Symbol}
use Rattle.vx_linear.specs.declared.form.Term.{Term}
use Rattle.vx_linear.specs.Forms.{is_before, is_same}
use Rattle.vx_linear.specs.Linear.{unless_zero, with_term}
use Rattle.vx_linear.specs.Steps.{IsStep, Narrows, Steps, none, left, right, both, is_before_first}

-- what is left of a and b, from this step on, comes to what the whole comes to
abbrev pub Left : (whole other : List Term) → List Term → List Term → ℕ → Type 0
Left whole other a b step = IsStep step × ((g : ℕ) → Steps a b step g → Steps whole other (2 ^ 30) g)

pub first_step : IsStep 1073741824
first_step = record { power = 30; at_most = omega arith; is = refl }

module _ (whole other : List Term) where
  pub at_left : (a b ts : List Term) (t : Term) (step next : ℕ) → Left whole other a b step → a ≡ t ∷ ts → is_before_first t.symbol b ≡ true → IsNumber t.factor → Narrows (unsigned t.factor) step next → IsStep next → Left whole other ts b next
  at_left a b ts t step next i e h f n s = (s, λ g more. i.1 g (subst (λ xs. Steps xs b step g) (sym e) (left f h n more)))

  pub at_right : (a b us : List Term) (u : Term) (step next : ℕ) → Left whole other a b step → b ≡ u ∷ us → is_before_first u.symbol a ≡ true → IsNumber u.factor → Narrows (unsigned u.factor) step next → IsStep next → Left whole other a us next
  at_right a b us u step next i e h f n s = (s, λ g more. i.1 g (subst (λ xs. Steps a xs step g) (sym e) (right f h n more)))

  pub at_both : (a b ts us : List Term) (t u : Term) (step next : ℕ) → Left whole other a b step → a ≡ t ∷ ts → b ≡ u ∷ us → is_same t.symbol u.symbol ≡ true → Narrows (unsigned (difference_of t.factor u.factor)) step next → IsStep next → Left whole other ts us next
  at_both a b ts us t u step next i e k h n s = (s, λ g more. i.1 g (subst (λ xs. Steps xs b step g) (sym e) (subst (λ xs. Steps (t ∷ ts) xs step g) (sym k) (both h n more))))

  pub at_end : (a b : List Term) (step : ℕ) → Left whole other a b step → a ≡ [] → b ≡ [] → Steps whole other (2 ^ 30) step
  at_end a b step i e k = i.1 step (subst (λ xs. Steps xs b step step) (sym e) (subst (λ xs. Steps [] xs step step) (sym k) none))

pub before_none : (x : Symbol) (b : List Term) → b ≡ [] → is_before_first x b ≡ true
before_none x b e = ap (is_before_first x) e

pub before_one : (x : Symbol) (b us : List Term) (u : Term) → b ≡ u ∷ us → is_before x u.symbol ≡ true → is_before_first x b ≡ true
before_one x b us u e h = ap (is_before_first x) e ∙ h

-- of two symbols one is before the other, or they are the same
pub before_back : (x y : Symbol) → is_before x y ≡ false → is_same x y ≡ false → is_before y x ≡ true
before_back x y h k = grind (arith, nat_tests)

-- a term that is neither before the first nor the same stands behind it
pub put_behind : (t u : Term) (us : List Term) → is_before t.symbol u.symbol ≡ false → is_same t.symbol u.symbol ≡ false → with_term t (u ∷ us) ≡ u ∷ with_term t us
put_behind t u us e f =
    ap (λ b. if b then unless_zero t (u ∷ us) else (if is_same t.symbol u.symbol then unless_zero (record { symbol = u.symbol; factor = sum_of t.factor u.factor }) us else u ∷ with_term t us)) e
    ∙ ap (λ b. if b then unless_zero (record { symbol = u.symbol; factor = sum_of t.factor u.factor }) us else u ∷ with_term t us) f

pub empty_of : (ts : List Term) → length ts ≡ 0 → ts ≡ []
empty_of [] h = refl
empty_of (t ∷ ts) h = absurd (omega arith)
