use Rattle.std.proofs.Common.{◌≡◌, take, map}
use Rattle.vx_test_graphs.specs.Graphs.{op_of}
use Rattle.vx_test_graphs.proofs.constants.ops.Given as goal

abbrev pub invariant-loop-act : goal.invariant-loop-act
invariant-loop-act l = l.list ≡ map op_of (take l.act-index l.acts)
