use Rattle.std.proofs.Common.{length}
use Rattle.vx_frame.proofs.RegionPlaces.{Notes}
use Rattle.vx_frame.proofs.regions.region_rows.Given as goal

-- what is put in so far, and what is still to be
abbrev pub invariant-words : goal.invariant-words
invariant-words l = Notes l.marks l.layout l.place l.rest l.rows.items

abbrev pub decreases-words : goal.decreases-words
decreases-words l = length l.rest
