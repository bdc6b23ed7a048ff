-- What was put and what is still to put are the whole text.
use Rattle.std.proofs.Common.{◌≤◌, length, drop}
use Rattle.vx_plain.proofs.KeptSteps.{PutSoFar}
use Rattle.vx_plain.proofs.store.put_format.Given as goal

abbrev pub invariant-loop-b : goal.invariant-loop-b
invariant-loop-b l = (l.next ≤ length l.numbers) × PutSoFar l.initial.out.items l.out.items l.special l.format (drop l.b-index l.format) l.numbers (drop l.next l.numbers)
