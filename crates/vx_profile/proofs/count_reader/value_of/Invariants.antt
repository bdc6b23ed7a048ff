use Rattle.std.proofs.Common.{◌≡◌, ◌^◌, ◌<◌, drop}
use Rattle.vx_profile.specs.Reading.{value_from}
use Rattle.vx_profile.proofs.count_reader.value_of.Given as goal

abbrev pub invariant-loop-digit : goal.invariant-loop-digit
invariant-loop-digit l = record {
  same : value_from l.value (drop l.digit-index l.digits) ≡ value_from 0 l.digits;
  bound : l.value < 2 ^ 64;
}
