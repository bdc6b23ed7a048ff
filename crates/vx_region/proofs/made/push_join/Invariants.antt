-- the blocks so far, and those of the edges that are left
use Rattle.std.proofs.Common.{◌≡◌, ◌++◌, length}
use Rattle.std.specs.List.{flat_map}
use Rattle.vx_region.specs.Planned.{clusters_at, made_of, placed_at}
use Rattle.vx_region.proofs.made.push_join.Given as goal

abbrev pub invariant-edges : goal.invariant-edges
invariant-edges l = l.made ++ flat_map (λ e. made_of e (placed_at l.placed l.rejoin.copies) (clusters_at l.placed.clustered l.rejoin.copies)) l.rest ≡ l.initial.made ++ flat_map (λ e. made_of e (placed_at l.placed l.rejoin.copies) (clusters_at l.placed.clustered l.rejoin.copies)) l.join.edges

abbrev pub decreases-edges : goal.decreases-edges
decreases-edges l = length l.rest
