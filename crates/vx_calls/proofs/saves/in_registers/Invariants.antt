use Rattle.std.proofs.Common.{◌≡◌, ◌++◌, drop}
use Rattle.vx_calls.specs.Saves.{in_registers}
use Rattle.vx_calls.proofs.saves.in_registers.Given as goal

abbrev pub invariant-loop-value : goal.invariant-loop-value
invariant-loop-value l = l.values ++ in_registers l.value (drop l.value l.kept) ≡ in_registers 0 l.kept
