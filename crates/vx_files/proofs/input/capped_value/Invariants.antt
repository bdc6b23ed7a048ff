-- The value of the digits so far, capped.
use Rattle.std.proofs.Common.{◌≡◌, take, min}
use Rattle.vx_files.specs.InputText.{value_of}
use Rattle.vx_files.proofs.input.capped_value.Given as goal

abbrev pub invariant-loop-digit : goal.invariant-loop-digit
invariant-loop-digit l = l.value ≡ min 2147483649 (value_of (take l.digit-index l.digits))
