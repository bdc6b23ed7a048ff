use Rattle.std.proofs.Common.{◌≡◌, ◌++◌, map, take, length}
use Rattle.vx_inline.specs.Linking.{over_edge}
use Rattle.vx_inline.proofs.edge_blocks.push_edge_blocks.Given as goal

abbrev pub invariant-loop-edge : goal.invariant-loop-edge
invariant-loop-edge l = l.new ≡ l.initial.new ++ map (over_edge l.place (length l.edges)) (take l.edge-index l.edges)
