use Rattle.vx_inline.proofs.KnownStays.{ApartSoFar}
use Rattle.vx_inline.proofs.known.apart_by.Given as goal

abbrev pub invariant-loop-function : goal.invariant-loop-function
invariant-loop-function l = ApartSoFar l.flow l.apart.items l.function
