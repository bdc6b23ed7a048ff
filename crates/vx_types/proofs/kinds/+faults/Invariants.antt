use Rattle.std.proofs.Common.{◌≡◌, ◌+◌, ◌*◌, drop}
use Rattle.vx_ast.specs.Faults.{least, row_faults}
use Rattle.vx_ast.specs.SyntaxView.{phrase_of, row_in}
use Rattle.vx_types.proofs.Weights.{phrase_weight}
use Rattle.vx_types.proofs.kinds.+faults.Given as goal

abbrev pub invariant-note_row-loop-place : goal.invariant-note_row-loop-place
invariant-note_row-loop-place l = least l.least (row_faults l.fn.names (drop l.place l.fn.takes) (row_in (drop l.place l.fn.row))) ≡ least l.fn.first (row_faults l.fn.names l.fn.takes (row_in l.fn.row))

abbrev pub decreases-note_expression : goal.decreases-note_expression
decreases-note_expression l = 3 * phrase_weight (phrase_of l.expression.now)

abbrev pub decreases-note_application : goal.decreases-note_application
decreases-note_application l = 3 * phrase_weight (row_in l.row.now) + 2

abbrev pub decreases-note_row : goal.decreases-note_row
decreases-note_row l = 3 * phrase_weight (row_in l.row.now) + 1

abbrev pub decreases-note_argument : goal.decreases-note_argument
decreases-note_argument l = 3 * phrase_weight (phrase_of l.argument.now.expression) + 3

abbrev pub decreases-note_handed : goal.decreases-note_handed
decreases-note_handed l = 3 * phrase_weight (phrase_of l.expression.now) + 2

abbrev pub decreases-note_misplaced : goal.decreases-note_misplaced
decreases-note_misplaced l = 3 * phrase_weight (phrase_of l.expression.now) + 1
