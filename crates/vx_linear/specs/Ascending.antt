-- Rows of terms whose symbols ascend.
use Rattle.std.specs.Prelude.{Bool, true, ◌&&◌, List, [], ◌∷◌}
use Rattle.vx_linear.specs.declared.form.Term.{Term}
use Rattle.vx_linear.specs.Steps.{is_before_first}

-- each symbol is before the next
abbrev pub ascend : List Term → Bool
ascend [] = true
ascend (t ∷ ts) = is_before_first t.symbol ts && ascend ts
