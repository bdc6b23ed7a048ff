use Rattle.std.proofs.Common.{◌≡◌, map, take}
use Rattle.vx_ast.specs.View.{tree_of}
use Rattle.vx_unroll.proofs.expressions.copied_row.Given as goal

abbrev pub invariant-loop-number : goal.invariant-loop-number
invariant-loop-number l = map tree_of l.copy.items ≡ map tree_of (take l.number-index l.fn.row)
