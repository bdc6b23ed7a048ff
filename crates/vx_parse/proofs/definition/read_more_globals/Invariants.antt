use Rattle.std.proofs.Common.{◌-◌, length}
use Rattle.vx_ast.specs.Phrases.{MoreGlobals}
use Rattle.vx_parse.specs.Definitions.{MeansGlobals}
use Rattle.vx_parse.proofs.Loops.{Gathers}
use Rattle.vx_parse.proofs.definition.read_more_globals.Given as goal

abbrev pub invariant-globals : goal.invariant-globals
invariant-globals l = Gathers MoreGlobals l.fn.tokens l.fn.before.next 0 MeansGlobals l.fn.before.definitions.items l.all.next l.all.definitions.items

abbrev pub decreases-globals : goal.decreases-globals
decreases-globals l = length l.fn.tokens - l.all.next
