use Rattle.std.proofs.Common.{◌≡◌, ◌+◌, ◌*◌, map, take}
use Rattle.vx_ast.specs.Tree.{NoMore}
use Rattle.vx_ast.specs.Accepted.{nodes_of}
use Rattle.vx_ast.specs.View.{tree_of, argument_before, arguments_in}
use Rattle.vx_unroll.proofs.expressions.+copied.Given as goal

abbrev pub invariant-copied_arguments-loop-argument : goal.invariant-copied_arguments-loop-argument
invariant-copied_arguments-loop-argument l = map (λ x. argument_before x NoMore) l.copy.items ≡ map (λ x. argument_before x NoMore) (take l.argument-index l.fn.row)

abbrev pub decreases-copied : goal.decreases-copied
decreases-copied l = 4 * nodes_of (tree_of l.expression.now)

abbrev pub decreases-copied_boxed : goal.decreases-copied_boxed
decreases-copied_boxed l = 4 * nodes_of (tree_of l.expression.now) + 1

abbrev pub decreases-copied_argument : goal.decreases-copied_argument
decreases-copied_argument l = 4 * nodes_of (argument_before l.argument.now NoMore) + 1

abbrev pub decreases-copied_arguments : goal.decreases-copied_arguments
decreases-copied_arguments l = 4 * nodes_of (arguments_in l.row.now) + 2

abbrev pub decreases-copied_both : goal.decreases-copied_both
decreases-copied_both l = 4 * (nodes_of (tree_of l.left.now) + nodes_of (tree_of l.right.now)) + 2

abbrev pub decreases-copied_choice : goal.decreases-copied_choice
decreases-copied_choice l = 4 * (nodes_of (tree_of l.left.now) + nodes_of (tree_of l.right.now)) + 3
