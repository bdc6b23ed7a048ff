-- the clusters so far, and those of the places that are left
use Rattle.std.proofs.Common.{◌≡◌, ◌++◌, length}
use Rattle.vx_region.specs.Planned.{clusters_at}
use Rattle.vx_region.proofs.made.clusters_at.Given as goal

abbrev pub invariant-copy : goal.invariant-copy
invariant-copy l = l.clusters ++ clusters_at l.placed.clustered l.rest ≡ clusters_at l.placed.clustered l.places

abbrev pub decreases-copy : goal.decreases-copy
decreases-copy l = length l.rest
