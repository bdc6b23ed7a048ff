use Rattle.std.proofs.Common.{◌≡◌, false, take}
use Rattle.std.specs.List.{list_any}
use Rattle.vx_flow.specs.Sound.{has_place_in}
use Rattle.vx_sound.proofs.soundness.have_place_in.Given as goal

abbrev pub invariant-loop-block : goal.invariant-loop-block
invariant-loop-block l = list_any (has_place_in l.value l.array) (take l.block-index l.blocks) ≡ false
