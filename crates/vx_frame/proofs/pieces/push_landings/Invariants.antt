use Rattle.std.proofs.Common.{length}
use Rattle.vx_slots.specs.Seen.{seen}
use Rattle.vx_frame.proofs.Emitting.{Lands}
use Rattle.vx_frame.proofs.pieces.push_landings.Given as goal

abbrev pub invariant-landings : goal.invariant-landings
invariant-landings l = Lands (seen l.whole) l.function l.laid l.initial.words l.words l.landings l.place l.rest

abbrev pub decreases-landings : goal.decreases-landings
decreases-landings l = length l.rest
