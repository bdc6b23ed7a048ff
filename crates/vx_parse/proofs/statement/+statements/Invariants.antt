use Rattle.std.proofs.Common.{length, ◌-◌, ◌*◌, ◌+◌, []}
use Rattle.vx_ast.specs.Phrases.{Items}
use Rattle.vx_parse.specs.Statements.{MeansAll}
use Rattle.vx_parse.proofs.Loops.{Gathers}
use Rattle.vx_parse.proofs.statement.+statements.Given as goal

abbrev pub decreases-read_statement : goal.decreases-read_statement
decreases-read_statement l = 32 * (length l.tokens.now - l.place) + 8

abbrev pub decreases-read_inner_block : goal.decreases-read_inner_block
decreases-read_inner_block l = 32 * (length l.tokens.now - l.place) + 7

abbrev pub decreases-read_block : goal.decreases-read_block
decreases-read_block l = 32 * (length l.tokens.now - l.place) + 6

abbrev pub decreases-read_if : goal.decreases-read_if
decreases-read_if l = 32 * (length l.tokens.now - l.place) + 7

abbrev pub decreases-read_while : goal.decreases-read_while
decreases-read_while l = 32 * (length l.tokens.now - l.place) + 7

abbrev pub decreases-read_do : goal.decreases-read_do
decreases-read_do l = 32 * (length l.tokens.now - l.place) + 7

abbrev pub decreases-read_for : goal.decreases-read_for
decreases-read_for l = 32 * (length l.tokens.now - l.place) + 7

abbrev pub decreases-read_else : goal.decreases-read_else
decreases-read_else l = 32 * (length l.tokens.now - l.place) + 10

abbrev pub decreases-read_entry : goal.decreases-read_entry
decreases-read_entry l = 32 * (length l.tokens.now - l.place) + 9

abbrev pub decreases-read_entries : goal.decreases-read_entries
decreases-read_entries l = 32 * (length l.tokens.now - l.place) + 10

abbrev pub invariant-read_entries-entries : goal.invariant-read_entries-entries
invariant-read_entries-entries l = Gathers Items l.fn.tokens l.fn.place l.fn.depth MeansAll [] l.all.next l.all.statements.items

abbrev pub decreases-read_entries-entries : goal.decreases-read_entries-entries
decreases-read_entries-entries l = length l.fn.tokens - l.all.next

abbrev pub decreases-read_body : goal.decreases-read_body
decreases-read_body l = 32 * (length l.tokens.now - l.place) + 9
