-- the turns of the places so far
use Rattle.std.proofs.Common.{take}
use Rattle.vx_bug.specs.Ledgers.{books_of}
use Rattle.vx_bug.specs.Choices.{TurnsTaken}
use Rattle.vx_bug.proofs.cluster_choice.take_turns.Given as goal

abbrev pub invariant-loop-place : goal.invariant-loop-place
invariant-loop-place l = TurnsTaken l.fn.machine l.fn.trace (books_of l.initial.ledger) (take l.place-index l.fn.order) l.chosen.items l.estimates.items (books_of l.ledger)
