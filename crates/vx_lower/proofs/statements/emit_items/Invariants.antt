use Rattle.std.proofs.Common.{take}
use Rattle.vx_ast.specs.View.{items_of}
use Rattle.vx_lower.specs.Builds.{Ready}
use Rattle.vx_lower.specs.Makes.{MakesPlain}
use Rattle.vx_lower.specs.StatementFits.{PlainWell}
use Rattle.vx_lower.proofs.statements.emit_items.Given as goal

abbrev pub invariant-loop-item : goal.invariant-loop-item
invariant-loop-item l = (Ready l.fn.b → MakesPlain l.fn.words (items_of (take l.item-index l.fn.items)) l.fn.b l.b) × PlainWell l.fn.words (items_of (take l.item-index l.fn.items)) l.fn.b l.b
