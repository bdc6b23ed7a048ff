-- the entries so far, and those of the joins that are left
use Rattle.std.proofs.Common.{◌≡◌, ◌++◌, map, length}
use Rattle.vx_dep.specs.Compensation.{rejoin_of, at_joins_of}
use Rattle.vx_join.proofs.joins.at_joins.Given as goal

abbrev pub invariant-joins : goal.invariant-joins
invariant-joins l = l.rejoins.items ++ map (rejoin_of l.words) l.rest ≡ at_joins_of l.fn.placed

abbrev pub decreases-joins : goal.decreases-joins
decreases-joins l = length l.rest
