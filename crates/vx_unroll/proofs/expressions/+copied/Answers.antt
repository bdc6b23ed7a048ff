use Rattle.std.proofs.Common.{ap, sym, ◌∙◌, map}
use Rattle.std.proofs.lemmas.List.{take_all}
use Rattle.vx_ast.specs.Tree as tree
use Rattle.vx_ast.specs.Tree.{Tree, Row}
use Rattle.vx_ast.specs.View.{tree_of, argument_before, arguments_in}
use Rattle.vx_limits.proofs.Views.{call_view}
use Rattle.vx_unroll.proofs.Lists.{same_arguments}
use Rattle.vx_unroll.proofs.Falls.{row_falls, argument_falls}
use Rattle.vx_unroll.proofs.expressions.+copied.Goals as goal

pub copied-copied_arguments-requires : goal.copied-copied_arguments-requires
copied-copied_arguments-requires t c = (row_falls (tree_of c.args.expression.now) c.in-Call.function c.in-Call.row.items c.as_slice.result.now t c.decreases (ap tree_of c.in-Call.is ∙ call_view c.in-Call.function c.in-Call.row) c.as_slice.ensures.value, tt)

pub copied-returns-in_ok-row-in-Call : goal.copied-returns-in_ok-row-in-Call
copied-returns-in_ok-row-in-Call t c =
    call_view c.in-Call.function c.in_ok-row-in-Call.row
    ∙ ap (λ (z : Tree Row). tree.Apply c.in-Call.function z) (c.in_ok-row-in-Call.ensures ∙ ap arguments_in c.as_slice.ensures.value)
    ∙ sym (ap tree_of c.in-Call.is ∙ call_view c.in-Call.function c.in-Call.row)

pub copied_arguments-copied_argument-requires : goal.copied_arguments-copied_argument-requires
copied_arguments-copied_argument-requires t c = (argument_falls c.args.row.now c.loop-argument.argument-index c.argument-item.result t c.decreases c.loop-argument-test.true c.argument-item.is, tt)

pub copied_arguments-returns : goal.copied_arguments-returns
copied_arguments-returns t c =
    same_arguments c.loop-argument.copy.items c.args.row.now (c.loop-argument.invariant ∙ ap (map (λ x. argument_before x tree.NoMore)) (take_all c.loop-argument.argument-index c.args.row.now c.loop-argument-test.false))
