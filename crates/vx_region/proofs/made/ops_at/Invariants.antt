-- the copies so far, and those of the places that are left
use Rattle.std.proofs.Common.{◌≡◌, ◌++◌, length}
use Rattle.vx_region.specs.Planned.{ops_at}
use Rattle.vx_region.proofs.made.ops_at.Given as goal

abbrev pub invariant-copy : goal.invariant-copy
invariant-copy l = l.copies ++ ops_at l.fn.ops l.rest ≡ ops_at l.fn.ops l.fn.places

abbrev pub decreases-copy : goal.decreases-copy
decreases-copy l = length l.rest
