use Rattle.std.proofs.Common.{◌≡◌, true, take}
use Rattle.std.specs.List.{list_all}
use Rattle.vx_flow.specs.Sound.{keeps_base}
use Rattle.vx_sound.proofs.bases.keep_base.Given as goal

abbrev pub invariant-loop-op : goal.invariant-loop-op
invariant-loop-op l = list_all (keeps_base l.value) (take l.op-index l.ops) ≡ true
