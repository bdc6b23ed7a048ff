use Rattle.std.proofs.Common.{◌≡◌, true, take}
use Rattle.std.specs.List.{list_all}
use Rattle.vx_narrow.specs.Checking.{has_number}
use Rattle.vx_narrow.proofs.checks.are_numbers.Given as goal

abbrev pub invariant-loop-operand : goal.invariant-loop-operand
invariant-loop-operand l = list_all has_number (take l.operand-index l.operands) ≡ true
