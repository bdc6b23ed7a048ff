use Rattle.std.proofs.Common.{drop}
use Rattle.vx_types.proofs.Wholes.{ParametersSo}
use Rattle.vx_types.proofs.program.parameters.Given as goal

abbrev pub invariant-loop-one : goal.invariant-loop-one
invariant-loop-one l = ParametersSo l.names l.first (drop l.one-index l.fn.all) l.fn.names l.fn.first l.fn.all
