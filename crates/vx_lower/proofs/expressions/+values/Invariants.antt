use Rattle.std.proofs.Common.{take}
use Rattle.vx_ast.specs.View.{arguments_in}
use Rattle.vx_lower.specs.Builds.{Ready}
use Rattle.vx_lower.specs.Emits.{EmitsFront}
use Rattle.vx_lower.specs.Fits.{RowsWell}
use Rattle.vx_lower.proofs.expressions.+values.Given as goal

abbrev pub invariant-emit_arguments-loop-argument : goal.invariant-emit_arguments-loop-argument
invariant-emit_arguments-loop-argument l = (Ready l.fn.b → EmitsFront l.fn.words (arguments_in (take l.argument-index l.fn.all)) l.passed l.fn.b l.b) × RowsWell l.fn.words (arguments_in (take l.argument-index l.fn.all)) l.passed l.fn.b l.b
