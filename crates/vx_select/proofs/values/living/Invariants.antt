use Rattle.std.proofs.Common.{◌≡◌, take}
use Rattle.std.specs.List.{filter}
use Rattle.vx_select.specs.Known.{told}
use Rattle.vx_select.proofs.values.living.Given as goal

abbrev pub invariant-loop-value : goal.invariant-loop-value
invariant-loop-value l = l.living.items ≡ filter (told l.known l.block) (take l.value-index l.values)
