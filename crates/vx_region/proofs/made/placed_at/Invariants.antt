-- the copies so far, and those of the places that are left
use Rattle.std.proofs.Common.{◌≡◌, ◌++◌, length}
use Rattle.vx_region.specs.Planned.{placed_at}
use Rattle.vx_region.proofs.made.placed_at.Given as goal

abbrev pub invariant-copy : goal.invariant-copy
invariant-copy l = l.copies ++ placed_at l.fn.placed l.rest ≡ placed_at l.fn.placed l.fn.places

abbrev pub decreases-copy : goal.decreases-copy
decreases-copy l = length l.rest
