use Rattle.std.proofs.Common.{◌≡◌, false, take}
use Rattle.std.specs.List.{list_any}
use Rattle.vx_flow.specs.Sound.{has_base}
use Rattle.vx_flow.proofs.arrays.have_base.Given as goal

abbrev pub invariant-loop-array : goal.invariant-loop-array
invariant-loop-array l = list_any has_base (take l.array-index l.arrays) ≡ false
