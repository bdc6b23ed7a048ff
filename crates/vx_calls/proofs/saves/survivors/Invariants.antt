use Rattle.std.proofs.Common.{◌≡◌, take}
use Rattle.std.specs.List.{flat_map}
use Rattle.vx_calls.specs.Saves.{survivor}
use Rattle.vx_calls.proofs.saves.survivors.Given as goal

abbrev pub invariant-loop-value : goal.invariant-loop-value
invariant-loop-value l = l.found ≡ flat_map (survivor l.living l.next l.written) (take l.value-index l.values)
