use Rattle.std.proofs.Common.{take}
use Rattle.vx_ast.specs.View.{all_in}
use Rattle.vx_lower.specs.Builds.{Ready}
use Rattle.vx_lower.specs.Makes.{Makes}
use Rattle.vx_lower.specs.StatementFits.{StatementWell}
use Rattle.vx_lower.proofs.statements.+statements.Given as goal

abbrev pub invariant-emit_all-loop-s : goal.invariant-emit_all-loop-s
invariant-emit_all-loop-s l = (Ready l.fn.b → Makes l.fn.words (all_in (take l.s-index l.fn.all)) l.fn.leaves l.fn.again l.fn.b l.b l.fn.texts l.texts) × StatementWell l.fn.words (all_in (take l.s-index l.fn.all)) l.fn.leaves l.fn.again l.fn.b l.b l.fn.texts l.texts
