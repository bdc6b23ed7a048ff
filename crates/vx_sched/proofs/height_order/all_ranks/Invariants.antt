-- the places so far have their ranks
use Rattle.std.proofs.Common.{◌-◌, ◌≤◌}
use Rattle.vx_dep.specs.Deps.{height_in}
use Rattle.vx_sched.specs.Ranking.{AreRanked}
use Rattle.vx_sched.proofs.height_order.all_ranks.Given as goal

abbrev pub invariant-rank : goal.invariant-rank
invariant-rank l = AreRanked (height_in l.fn.deps) l.place l.all.items × (l.place ≤ l.fn.count)

abbrev pub decreases-rank : goal.decreases-rank
decreases-rank l = l.fn.count - l.place
