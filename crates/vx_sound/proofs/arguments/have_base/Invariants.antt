use Rattle.std.proofs.Common.{◌≡◌, false, take}
use Rattle.std.specs.List.{list_any}
use Rattle.vx_flow.specs.Sound.{is_that}
use Rattle.vx_sound.proofs.arguments.have_base.Given as goal

abbrev pub invariant-loop-array : goal.invariant-loop-array
invariant-loop-array l = list_any (λ array. is_that l.value array.base) (take l.array-index l.arrays) ≡ false
