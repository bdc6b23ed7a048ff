use Rattle.std.proofs.Common.{◌≡◌, ◌+◌, ◌*◌, drop}
use Rattle.vx_ast.specs.Resolved as resolved
use Rattle.vx_ast.specs.SyntaxView.{phrase_of, row_in}
use Rattle.vx_types.specs.Onto.{arguments_onto}
use Rattle.vx_types.proofs.Weights.{phrase_weight}
use Rattle.vx_types.proofs.expressions.+resolved.Given as goal

abbrev pub invariant-resolve_arguments-loop-place : goal.invariant-resolve_arguments-loop-place
invariant-resolve_arguments-loop-place l = arguments_onto l.made.items (resolved.row_in l.fn.names (drop l.place l.fn.takes) (row_in (drop l.place l.fn.row))) ≡ resolved.row_in l.fn.names l.fn.takes (row_in l.fn.row)

abbrev pub decreases-resolve : goal.decreases-resolve
decreases-resolve l = 3 * phrase_weight (phrase_of l.expression.now)

abbrev pub decreases-resolve_boxed : goal.decreases-resolve_boxed
decreases-resolve_boxed l = 3 * phrase_weight (phrase_of l.expression.now) + 1

abbrev pub decreases-resolve_arguments : goal.decreases-resolve_arguments
decreases-resolve_arguments l = 3 * phrase_weight (row_in l.row.now) + 1

abbrev pub decreases-resolve_argument : goal.decreases-resolve_argument
decreases-resolve_argument l = 3 * phrase_weight (phrase_of l.expression.now) + 1

abbrev pub decreases-resolve_behind : goal.decreases-resolve_behind
decreases-resolve_behind l = 3 * phrase_weight (phrase_of l.right.now) + 2

abbrev pub decreases-choice_behind : goal.decreases-choice_behind
decreases-choice_behind l = 3 * phrase_weight (phrase_of l.right.now) + 2
