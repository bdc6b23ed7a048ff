use Rattle.vx_slots.specs.Seen.{seen}
use Rattle.vx_frame.proofs.Emitting.{Gives}
use Rattle.vx_frame.proofs.pieces.push_functions.Given as goal

abbrev pub invariant-functions : goal.invariant-functions
invariant-functions l = Gives (seen l.whole) l.count l.initial.words l.words l.places l.function l.left

abbrev pub decreases-functions : goal.decreases-functions
decreases-functions l = l.left
