use Rattle.std.proofs.Common.{◌≡◌, ◌++◌, length, map}
use Rattle.vx_flow.specs.declared.trace.Join.{Join}
use Rattle.vx_bug.specs.Laying.{start_in}
use Rattle.vx_bug.proofs.clustered.moved_joins.Given as goal

abbrev pub invariant-move_down : goal.invariant-move_down
invariant-move_down l = l.moved ++ map (λ (join : Join). record join { place = start_in l.fn.starts join.place }) l.rest ≡ map (λ (join : Join). record join { place = start_in l.fn.starts join.place }) l.fn.joins

abbrev pub decreases-move_down : goal.decreases-move_down
decreases-move_down l = length l.rest
