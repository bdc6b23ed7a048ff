use Rattle.std.proofs.Common.{◌≡◌, true, take}
use Rattle.std.specs.List.{list_all}
use Rattle.vx_sound.specs.Origins.{is_block_named}
use Rattle.vx_sound.proofs.arguments.are_blocks_named.Given as goal

abbrev pub invariant-loop-block : goal.invariant-loop-block
invariant-loop-block l = list_all (is_block_named l.origins l.taken l.flow) (take l.block-index l.blocks) ≡ true
