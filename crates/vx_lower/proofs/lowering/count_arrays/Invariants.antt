use Rattle.std.proofs.Common.{◌≡◌, ◌+◌, ◌≤◌, drop}
use Rattle.vx_ast.specs.Accepted.{arrays_among}
use Rattle.vx_lower.proofs.lowering.count_arrays.Given as goal

abbrev pub invariant-loop-take : goal.invariant-loop-take
invariant-loop-take l = (l.count + arrays_among (drop l.take-index l.fn.takes) ≡ arrays_among l.fn.takes) × (l.count ≤ l.take-index)
