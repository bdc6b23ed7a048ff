use Rattle.std.proofs.Common.{◌≡◌, map, take}
use Rattle.vx_inline.specs.CallPlaces.{calling_blocks}
use Rattle.vx_inline.proofs.call_lists.calls_in.Given as goal

abbrev pub invariant-loop-graph : goal.invariant-loop-graph
invariant-loop-graph l = l.calls.items ≡ map calling_blocks (take l.graph-index l.functions)
