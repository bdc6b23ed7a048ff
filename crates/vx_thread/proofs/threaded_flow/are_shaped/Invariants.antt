use Rattle.std.proofs.Common.{take}
use Rattle.vx_thread.specs.Threading.{AreShaped}
use Rattle.vx_thread.proofs.threaded_flow.are_shaped.Given as goal

abbrev pub invariant-loop-graph : goal.invariant-loop-graph
invariant-loop-graph l = AreShaped (take l.graph-index l.graphs)
