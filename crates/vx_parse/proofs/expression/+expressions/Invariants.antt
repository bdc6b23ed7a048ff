use Rattle.std.proofs.Common.{length, ◌-◌, ◌*◌, ◌+◌}
use Rattle.vx_parse.proofs.Rows.{Gathers}
use Rattle.vx_parse.proofs.expression.+expressions.Given as goal

abbrev pub decreases-read_arguments : goal.decreases-read_arguments
decreases-read_arguments l = 32 * (length l.tokens.now - l.place) + 21

abbrev pub decreases-read_behind : goal.decreases-read_behind
decreases-read_behind l = 32 * (length l.tokens.now - l.left.next) + 19

abbrev pub decreases-read_expression : goal.decreases-read_expression
decreases-read_expression l = 32 * (length l.tokens.now - l.place) + 20

abbrev pub decreases-read_index : goal.decreases-read_index
decreases-read_index l = 32 * (length l.tokens.now - l.place) + 3

abbrev pub decreases-read_called : goal.decreases-read_called
decreases-read_called l = 32 * (length l.tokens.now - l.place) + 3

abbrev pub decreases-read_level : goal.decreases-read_level
decreases-read_level l = 32 * (length l.tokens.now - l.place) + (8 + l.level)

abbrev pub decreases-read_more : goal.decreases-read_more
decreases-read_more l = 32 * (length l.tokens.now - l.before.next) + 19

abbrev pub decreases-read_named : goal.decreases-read_named
decreases-read_named l = 32 * (length l.tokens.now - l.place) + 4

abbrev pub decreases-read_primary : goal.decreases-read_primary
decreases-read_primary l = 32 * (length l.tokens.now - l.place) + 5

abbrev pub decreases-read_unary : goal.decreases-read_unary
decreases-read_unary l = 32 * (length l.tokens.now - l.place) + 6

abbrev pub invariant-read_more-more : goal.invariant-read_more-more
invariant-read_more-more l = Gathers l.fn.before l.fn.tokens l.fn.depth l.all

abbrev pub decreases-read_more-more : goal.decreases-read_more-more
decreases-read_more-more l = length l.fn.tokens - l.all.next
