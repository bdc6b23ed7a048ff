use Rattle.std.proofs.Common.{◌≡◌, false, take}
use Rattle.std.specs.List.{list_any}
use Rattle.vx_flow.specs.Sound.{is_place_in}
use Rattle.vx_sound.proofs.soundness.is_place_among.Given as goal

abbrev pub invariant-loop-op : goal.invariant-loop-op
invariant-loop-op l = list_any (is_place_in l.value l.array) (take l.op-index l.ops) ≡ false
