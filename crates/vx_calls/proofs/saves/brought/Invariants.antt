use Rattle.std.proofs.Common.{◌≡◌, take}
use Rattle.std.specs.List.{flat_map}
use Rattle.vx_calls.specs.Saves.{arrival}
use Rattle.vx_calls.proofs.saves.brought.Given as goal

abbrev pub invariant-loop-value : goal.invariant-loop-value
invariant-loop-value l = l.found ≡ flat_map (arrival l.living l.entry l.parameters) (take l.value-index l.values)
