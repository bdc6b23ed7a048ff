use Rattle.std.proofs.Common.{◌≡◌, false, take}
use Rattle.vx_inline.specs.Inlined.{is_among}
use Rattle.vx_inline.proofs.passing.is_among.Given as goal

abbrev pub invariant-loop-other : goal.invariant-loop-other
invariant-loop-other l = is_among (take l.other-index l.values) l.value ≡ false
