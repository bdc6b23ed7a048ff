use Rattle.std.proofs.Common.{take}
use Rattle.vx_shape.specs.Flows.{Each, OrSame}
use Rattle.vx_shape.proofs.passes.each_made.Given as goal

abbrev pub invariant-loop-function : goal.invariant-loop-function
invariant-loop-function g l = Each (OrSame g.P.GraphPass.makes) (take l.function l.graphs) l.new
