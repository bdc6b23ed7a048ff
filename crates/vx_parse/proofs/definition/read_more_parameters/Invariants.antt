use Rattle.std.proofs.Common.{◌-◌, length}
use Rattle.vx_ast.specs.Phrases.{MoreParameters}
use Rattle.vx_parse.specs.Definitions.{MeansParameters}
use Rattle.vx_parse.proofs.Loops.{Gathers}
use Rattle.vx_parse.proofs.definition.read_more_parameters.Given as goal

abbrev pub invariant-parameters : goal.invariant-parameters
invariant-parameters l = Gathers MoreParameters l.fn.tokens l.fn.before.next 0 MeansParameters l.fn.before.parameters l.all.next l.all.parameters

abbrev pub decreases-parameters : goal.decreases-parameters
decreases-parameters l = length l.fn.tokens - l.all.next
