use Rattle.std.proofs.Common.{◌≡◌, true, take}
use Rattle.std.specs.List.{list_all}
use Rattle.vx_narrow.specs.Checking.{has_numbers}
use Rattle.vx_narrow.proofs.checks.have_numbers.Given as goal

abbrev pub invariant-loop-op : goal.invariant-loop-op
invariant-loop-op l = list_all has_numbers (take l.op-index l.ops) ≡ true
