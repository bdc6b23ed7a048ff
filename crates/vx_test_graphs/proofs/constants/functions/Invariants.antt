use Rattle.std.proofs.Common.{◌≡◌, take, map}
use Rattle.vx_test_graphs.specs.Graphs.{graph_of}
use Rattle.vx_test_graphs.proofs.constants.functions.Given as goal

abbrev pub invariant-loop-shape : goal.invariant-loop-shape
invariant-loop-shape l = l.list ≡ map graph_of (take l.shape-index l.shapes)
