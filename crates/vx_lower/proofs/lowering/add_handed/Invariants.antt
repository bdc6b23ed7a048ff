use Rattle.std.proofs.Common.{◌≡◌, ◌++◌}
use Rattle.vx_lower.specs.Lowered.{handed_from}
use Rattle.vx_lower.proofs.lowering.add_handed.Given as goal

abbrev pub invariant-loop-place : goal.invariant-loop-place
invariant-loop-place l = l.arrays.items ≡ l.fn.arrays.items ++ handed_from l.fn.first l.place
