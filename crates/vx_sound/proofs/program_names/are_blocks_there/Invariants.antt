use Rattle.std.proofs.Common.{◌≡◌, true, take}
use Rattle.std.specs.List.{list_all}
use Rattle.vx_flow.specs.Sound.{is_block_there}
use Rattle.vx_sound.proofs.program_names.are_blocks_there.Given as goal

abbrev pub invariant-loop-block : goal.invariant-loop-block
invariant-loop-block l = list_all (is_block_there l.flow l.graph) (take l.block-index l.blocks) ≡ true
