use Rattle.std.proofs.Common.{◌≡◌, false, take}
use Rattle.std.specs.List.{list_any}
use Rattle.vx_flow.specs.Sound.{makes_base}
use Rattle.vx_sound.proofs.arguments.ops_make.Given as goal

abbrev pub invariant-loop-op : goal.invariant-loop-op
invariant-loop-op l = list_any (makes_base l.value) (take l.op-index l.ops) ≡ false
