-- what is given, and what is left
use Rattle.std.proofs.Common.{◌≡◌, ◌++◌, drop}
use Rattle.vx_calls.specs.Slots.{slots_end, slots_from}
use Rattle.vx_calls.proofs.frames.slots.Given as goal

abbrev pub invariant-loop-marked : goal.invariant-loop-marked
invariant-loop-marked l = record {
  words : l.words ++ slots_from l.next (drop l.marked-index l.marks) ≡ slots_from 1 l.marks;
  next : slots_end l.next (drop l.marked-index l.marks) ≡ slots_end 1 l.marks;
}
