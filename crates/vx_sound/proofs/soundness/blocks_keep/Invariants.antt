use Rattle.std.proofs.Common.{◌≡◌, true, take}
use Rattle.std.specs.List.{list_all}
use Rattle.vx_flow.specs.Sound.{block_keeps}
use Rattle.vx_sound.proofs.soundness.blocks_keep.Given as goal

abbrev pub invariant-loop-block : goal.invariant-loop-block
invariant-loop-block l = list_all (block_keeps l.value l.array) (take l.block-index l.blocks) ≡ true
