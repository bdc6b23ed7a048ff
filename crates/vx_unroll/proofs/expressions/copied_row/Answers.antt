use Rattle.std.proofs.Common.{ap, ◌∙◌, map}
use Rattle.std.proofs.lemmas.List.{take_all}
use Rattle.vx_ast.specs.View.{tree_of}
use Rattle.vx_unroll.proofs.Lists.{same_row}
use Rattle.vx_unroll.proofs.expressions.copied_row.Goals as goal

pub returns : goal.returns
returns c = same_row c.loop-number.copy.items c.args.row.now (c.loop-number.invariant ∙ ap (map tree_of) (take_all c.loop-number.number-index c.args.row.now c.loop-number-test.false))
