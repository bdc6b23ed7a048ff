use Rattle.std.proofs.Common.{◌≡◌, true, take}
use Rattle.std.specs.List.{list_all}
use Rattle.vx_flow.specs.Sound.{is_sound_block}
use Rattle.vx_sound.proofs.soundness.are_sound_blocks.Given as goal

abbrev pub invariant-loop-block : goal.invariant-loop-block
invariant-loop-block l = list_all (is_sound_block l.graph) (take l.block-index l.blocks) ≡ true
