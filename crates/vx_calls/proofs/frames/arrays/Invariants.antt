-- what is given, and what is left
use Rattle.std.proofs.Common.{◌≡◌, ◌++◌, drop}
use Rattle.vx_calls.specs.Slots.{arrays_end, arrays_from}
use Rattle.vx_calls.proofs.frames.arrays.Given as goal

abbrev pub invariant-loop-place : goal.invariant-loop-place
invariant-loop-place l = record {
  words : l.words ++ arrays_from l.next (drop l.place l.arrays) (drop l.place l.addresses) ≡ arrays_from l.from l.arrays l.addresses;
  next : arrays_end l.next (drop l.place l.arrays) (drop l.place l.addresses) ≡ arrays_end l.from l.arrays l.addresses;
}
