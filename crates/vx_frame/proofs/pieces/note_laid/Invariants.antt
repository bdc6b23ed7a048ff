use Rattle.std.proofs.Common.{length}
use Rattle.vx_slots.specs.Seen.{seen}
use Rattle.vx_frame.proofs.Emitting.{Emits}
use Rattle.vx_frame.proofs.pieces.note_laid.Given as goal

abbrev pub invariant-laid : goal.invariant-laid
invariant-laid l = Emits (seen l.whole) l.function l.laid l.initial.words l.words l.starts l.marks l.place l.rest

abbrev pub decreases-laid : goal.decreases-laid
decreases-laid l = length l.rest
