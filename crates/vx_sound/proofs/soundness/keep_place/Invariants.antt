use Rattle.std.proofs.Common.{◌≡◌, true, take}
use Rattle.std.specs.List.{list_all}
use Rattle.vx_flow.specs.Sound.{keeps_place}
use Rattle.vx_sound.proofs.soundness.keep_place.Given as goal

abbrev pub invariant-loop-op : goal.invariant-loop-op
invariant-loop-op l = list_all (keeps_place l.value l.array) (take l.op-index l.ops) ≡ true
