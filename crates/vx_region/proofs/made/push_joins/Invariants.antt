-- the blocks so far, and those of the joins that are left
use Rattle.std.proofs.Common.{◌≡◌, ◌++◌, length}
use Rattle.vx_region.specs.Planned.{made_at_joins}
use Rattle.vx_region.proofs.made.push_joins.Given as goal

abbrev pub invariant-joins : goal.invariant-joins
invariant-joins l = l.made ++ made_at_joins l.placed l.joins_left l.rejoins_left ≡ l.initial.made ++ made_at_joins l.placed l.placed.clustered.trace.joins l.rejoins

abbrev pub decreases-joins : goal.decreases-joins
decreases-joins l = length l.joins_left
