-- Sums of symbols with factors, modulo 2 ^ 32.
use Rattle.std.specs.Prelude.{ℤ, pos, negsuc, Bool, true, false, ◌&&◌, ◌==◌, if◌then◌else◌, List, [], ◌∷◌}
use Rattle.std.specs.Ordering.{int_eq}
use Rattle.vx_base.specs.Arithmetic.{sum_of, product_of}
use Rattle.vx_linear.specs.declared.form.Symbol.{Symbol}
use Rattle.vx_linear.specs.declared.form.Term.{Term}
use Rattle.vx_linear.specs.declared.form.Form.{Form}
use Rattle.vx_linear.specs.declared.linear.Linear.{Linear}
use Rattle.vx_linear.specs.Forms.{is_before, is_same}

abbrev pub constant : ℤ → Linear
constant n = record { constant = n; terms = [] }

-- one symbol with the factor 1
abbrev pub symbol : Symbol → Linear
symbol x = record { constant = pos 0; terms = record { symbol = x; factor = pos 1 } ∷ [] }

-- a term before the others, unless its factor is 0
abbrev pub unless_zero : Term → List Term → List Term
unless_zero t ts = if int_eq t.factor (pos 0) then ts else t ∷ ts

-- one more term, in its place among ascending ones
abbrev pub with_term : Term → List Term → List Term
with_term t [] = unless_zero t []
with_term t (u ∷ us) =
    if is_before t.symbol u.symbol
    then unless_zero t (u ∷ us)
    else (if is_same t.symbol u.symbol then unless_zero (record { symbol = u.symbol; factor = sum_of t.factor u.factor }) us else u ∷ with_term t us)

abbrev pub with_terms : List Term → List Term → List Term
with_terms [] us = us
with_terms (t ∷ ts) us = with_terms ts (with_term t us)

-- each factor times a number; those that become 0 are left out
abbrev pub scaled : ℤ → List Term → List Term
scaled n [] = []
scaled n (t ∷ ts) = unless_zero (record { symbol = t.symbol; factor = product_of n t.factor }) (scaled n ts)

abbrev pub plus : Linear → Linear → Linear
plus a b = record { constant = sum_of a.constant b.constant; terms = with_terms a.terms b.terms }

abbrev pub times : ℤ → Linear → Linear
times n a = record { constant = product_of n a.constant; terms = scaled n a.terms }

abbrev pub minus : Linear → Linear → Linear
minus a b = plus a (times (negsuc 0) b)

-- whether two are equal

abbrev pub same_terms : List Term → List Term → Bool
same_terms [] [] = true
same_terms [] (u ∷ us) = false
same_terms (t ∷ ts) [] = false
same_terms (t ∷ ts) (u ∷ us) = (is_same t.symbol u.symbol && int_eq t.factor u.factor) && same_terms ts us

abbrev pub same : Linear → Linear → Bool
same a b = int_eq a.constant b.constant && same_terms a.terms b.terms

-- so are the numbers of their arrays and all else of two forms
abbrev pub are_equal : Form → Form → Bool
are_equal a b = (a.array.named == b.array.named) && int_eq a.constant b.constant && same_terms a.terms b.terms
