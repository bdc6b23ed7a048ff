use Rattle.std.proofs.Common.{take}
use Rattle.vx_reader.specs.Steps.{Counts, value_from}
use Rattle.vx_reader.proofs.steps.counted.Given as goal

abbrev pub invariant-loop-digit : goal.invariant-loop-digit
invariant-loop-digit l = Counts l.value (value_from 0 (take l.digit-index l.digits))
