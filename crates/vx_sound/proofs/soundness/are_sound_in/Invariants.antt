use Rattle.std.proofs.Common.{◌≡◌, true, take}
use Rattle.std.specs.List.{list_all}
use Rattle.vx_flow.specs.Sound.{is_sound_in}
use Rattle.vx_sound.proofs.soundness.are_sound_in.Given as goal

abbrev pub invariant-loop-op : goal.invariant-loop-op
invariant-loop-op l = list_all (is_sound_in l.graph) (take l.op-index l.ops) ≡ true
