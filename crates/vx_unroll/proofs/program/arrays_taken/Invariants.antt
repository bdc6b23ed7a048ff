-- What was counted and what is left to count are the whole.
use Rattle.std.proofs.Common.{◌≡◌, ◌+◌, ◌≤◌, drop}
use Rattle.vx_ast.specs.Accepted.{arrays_among}
use Rattle.vx_unroll.proofs.program.arrays_taken.Given as goal

abbrev pub invariant-loop-taken : goal.invariant-loop-taken
invariant-loop-taken l = (l.count + arrays_among (drop l.taken-index l.fn.takes) ≡ arrays_among l.fn.takes) × (l.count ≤ l.taken-index)
