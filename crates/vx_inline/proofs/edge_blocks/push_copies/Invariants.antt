use Rattle.std.proofs.Common.{◌≡◌, ◌++◌, take}
use Rattle.vx_inline.proofs.edge_blocks.push_copies.Given as goal

abbrev pub invariant-loop-block : goal.invariant-loop-block
invariant-loop-block l = l.new ≡ l.initial.new ++ take l.block-index l.blocks
