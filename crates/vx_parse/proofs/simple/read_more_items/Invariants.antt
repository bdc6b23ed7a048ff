use Rattle.std.proofs.Common.{◌-◌, length}
use Rattle.vx_ast.specs.Phrases.{MoreItems}
use Rattle.vx_parse.specs.Statements.{MeansItems}
use Rattle.vx_parse.proofs.Loops.{Gathers}
use Rattle.vx_parse.proofs.simple.read_more_items.Given as goal

abbrev pub invariant-items : goal.invariant-items
invariant-items l = Gathers MoreItems l.fn.tokens l.fn.before.next l.fn.depth MeansItems l.fn.before.items.items l.all.next l.all.items.items

abbrev pub decreases-items : goal.decreases-items
decreases-items l = length l.fn.tokens - l.all.next
