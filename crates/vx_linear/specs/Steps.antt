-- The greatest power of 2 that divides a power of 2 and each factor of the difference of two rows of terms.
use Rattle.std.specs.Prelude.{◌≡◌, ℕ, ◌*◌, ◌%◌, ◌^◌, ◌≤◌, Bool, true, List, [], ◌∷◌}
use Rattle.vx_base.specs.Arithmetic.{IsNumber, unsigned, difference_of}
use Rattle.vx_linear.specs.declared.form.Symbol.{Symbol}
use Rattle.vx_linear.specs.declared.form.Term.{Term}
use Rattle.vx_linear.specs.Forms.{is_before, is_same}

-- a power of 2, at most 2 ^ 30
pub record IsStep (step : ℕ) : Type 0 where
  pub power : ℕ
  pub at_most : power ≤ 30
  pub is : step ≡ 2 ^ power

-- from a power of 2 down to the greatest that divides the number too
pub data Narrows (n : ℕ) : ℕ → ℕ → Type 0 where
  stays : {step : ℕ} → n % step ≡ 0 → Narrows n step step
  halves : {step g : ℕ} (h : ℕ) → step ≡ 2 * h → (n % step ≡ 0 → ⊥) → Narrows n h g → Narrows n step g

abbrev pub is_before_first : Symbol → List Term → Bool
is_before_first x [] = true
is_before_first x (t ∷ ts) = is_before x t.symbol

-- both rows are merged by their symbols
pub data Steps : List Term → List Term → ℕ → ℕ → Type 0 where
  none : {g : ℕ} → Steps [] [] g g
  left : {t : Term} {ts us : List Term} {step next g : ℕ} → IsNumber t.factor → is_before_first t.symbol us ≡ true → Narrows (unsigned t.factor) step next → Steps ts us next g → Steps (t ∷ ts) us step g
  right : {u : Term} {ts us : List Term} {step next g : ℕ} → IsNumber u.factor → is_before_first u.symbol ts ≡ true → Narrows (unsigned u.factor) step next → Steps ts us next g → Steps ts (u ∷ us) step g
  both : {t u : Term} {ts us : List Term} {step next g : ℕ} → is_same t.symbol u.symbol ≡ true → Narrows (unsigned (difference_of t.factor u.factor)) step next → Steps ts us next g → Steps (t ∷ ts) (u ∷ us) step g
