use Rattle.std.proofs.Common.{◌≡◌, take}
use Rattle.vx_lower.specs.Seen.{arrays_from}
use Rattle.vx_lower.proofs.lowering.arrays_of.Given as goal

abbrev pub invariant-loop-one : goal.invariant-loop-one
invariant-loop-one l = l.arrays ≡ arrays_from 0 (take l.one-index l.fn.seen)
