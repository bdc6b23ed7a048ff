use Rattle.std.proofs.Common.{◌-◌, length, []}
use Rattle.vx_ast.specs.Phrases as phrases
use Rattle.vx_parse.specs.Definitions.{MeansDefinitions}
use Rattle.vx_parse.proofs.Loops.{Gathers}
use Rattle.vx_parse.proofs.parser.read_program.Given as goal

abbrev pub invariant-definitions : goal.invariant-definitions
invariant-definitions l = Gathers phrases.Program l.fn.tokens 0 0 MeansDefinitions [] l.all.next l.all.definitions.items

abbrev pub decreases-definitions : goal.decreases-definitions
decreases-definitions l = length l.fn.tokens - l.all.next
