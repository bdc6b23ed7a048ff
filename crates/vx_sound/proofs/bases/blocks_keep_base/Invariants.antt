use Rattle.std.proofs.Common.{◌≡◌, true, take}
use Rattle.std.specs.List.{list_all}
use Rattle.vx_flow.specs.Sound.{block_keeps_base}
use Rattle.vx_sound.proofs.bases.blocks_keep_base.Given as goal

abbrev pub invariant-loop-block : goal.invariant-loop-block
invariant-loop-block l = list_all (block_keeps_base l.value) (take l.block-index l.blocks) ≡ true
