use Rattle.std.proofs.Common.{◌≡◌, ◌++◌, take, drop}
use Rattle.vx_inline.specs.Splicing.{placed_from}
use Rattle.vx_inline.proofs.caller_blocks.place_all.Given as goal

abbrev pub invariant-loop-block : goal.invariant-loop-block
invariant-loop-block l = record {
  made : l.block-items ≡ placed_from l.joint l.site 0 (take l.block-index l.fn.blocks.items) ++ drop l.block-index l.fn.blocks.items;
  place : l.place ≡ l.block-index;
}
