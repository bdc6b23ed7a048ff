use Rattle.std.proofs.Common.{take}
use Rattle.vx_ast.specs.View.{row_in}
use Rattle.vx_lower.specs.Builds.{Ready}
use Rattle.vx_lower.specs.Emits.{EmitsFront}
use Rattle.vx_lower.specs.Fits.{RowsWell}
use Rattle.vx_lower.proofs.expressions.emit_row.Given as goal

abbrev pub invariant-loop-e : goal.invariant-loop-e
invariant-loop-e l = (Ready l.fn.b → EmitsFront l.fn.words (row_in (take l.e-index l.fn.all)) l.arguments l.fn.b l.b) × RowsWell l.fn.words (row_in (take l.e-index l.fn.all)) l.arguments l.fn.b l.b
