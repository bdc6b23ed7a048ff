use Rattle.std.proofs.Common.{◌≡◌, take}
use Rattle.vx_raise.specs.Lifting.{without}
use Rattle.vx_raise.proofs.lifted_graph.ops_without.Given as goal

abbrev pub invariant-loop-index : goal.invariant-loop-index
invariant-loop-index l = l.list ≡ without l.place (take l.index l.ops)
