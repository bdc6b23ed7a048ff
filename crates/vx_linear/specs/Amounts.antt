-- What sums of symbols amount to, for whole numbers of the symbols: they are added, taken off and multiplied as numbers are, modulo
-- 2 ^ 32.
use Rattle.std.specs.Prelude.{◌≡◌, ℤ, ◌+ℤ◌, ◌-ℤ◌, ◌*ℤ◌}
use Rattle.vx_base.specs.Arithmetic.{wrap}
use Rattle.vx_linear.specs.declared.form.Symbol.{Symbol}
use Rattle.vx_linear.specs.declared.linear.Linear.{Linear}
use Rattle.vx_linear.specs.Forms.{sum_at}
use Rattle.vx_linear.specs.Linear.{constant, symbol, plus, times, minus, same}

abbrev pub amount : (Symbol → ℤ) → Linear → ℤ
amount s a = a.constant +ℤ sum_at s a.terms

-- equal up to multiples of 2 ^ 32
abbrev pub Like : ℤ → ℤ → Type 0
Like a b = wrap a ≡ wrap b

pub record AmountLaw : Type 0 where
  pub of_number : (s : Symbol → ℤ) (n : ℤ) → Like (amount s (constant n)) n
  pub of_symbol : (s : Symbol → ℤ) (x : Symbol) → Like (amount s (symbol x)) (s x)
  pub of_sum : (s : Symbol → ℤ) (a b : Linear) → Like (amount s (plus a b)) (amount s a +ℤ amount s b)
  pub of_difference : (s : Symbol → ℤ) (a b : Linear) → Like (amount s (minus a b)) (amount s a -ℤ amount s b)
  pub of_product : (s : Symbol → ℤ) (n : ℤ) (a : Linear) → Like (amount s (times n a)) (n *ℤ amount s a)
