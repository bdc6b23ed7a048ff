use Rattle.std.proofs.Common.{◌≡◌, take}
use Rattle.vx_mixed.specs.Edges.{edges_from}
use Rattle.vx_replace.proofs.begun_lists.block_edges.Given as goal

abbrev pub invariant-loop-index : goal.invariant-loop-index
invariant-loop-index l = l.edges ≡ edges_from 0 (take l.index l.blocks)
