use Rattle.std.proofs.Common.{◌≡◌, drop}
use Rattle.vx_inline.specs.Inlined.{edge_block}
use Rattle.vx_inline.proofs.edge_blocks.edge_block.Given as goal

abbrev pub invariant-loop-edge : goal.invariant-loop-edge
invariant-loop-edge l = edge_block l.from l.to l.at (drop l.edge-index l.edges) l.other ≡ edge_block l.from l.to l.place l.edges l.other
