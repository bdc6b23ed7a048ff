use Rattle.std.proofs.Common.{◌≡◌, true, take}
use Rattle.std.specs.List.{list_all}
use Rattle.vx_sound.specs.Origins.{is_shown_block}
use Rattle.vx_sound.proofs.places.are_shown_blocks.Given as goal

abbrev pub invariant-loop-block : goal.invariant-loop-block
invariant-loop-block l = list_all (is_shown_block l.origins l.graph) (take l.block-index l.blocks) ≡ true
