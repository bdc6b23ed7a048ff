-- those that have words stand as the placement says; those that are left have none, and each turn there is one fewer
use Rattle.std.proofs.Common.{length}
use Rattle.vx_dep.specs.Deps.{height_in}
use Rattle.vx_sched.specs.Ranking.{AreLeft}
use Rattle.vx_sched.proofs.Filled.{Filled}
use Rattle.vx_sched.proofs.list_schedule.place_all.Given as goal

abbrev pub invariant-fill : goal.invariant-fill
invariant-fill l = Filled l.fn.trace l.fn.machine l.fn.homes l.fn.deps.sight.mode (height_in l.fn.deps) l.words.items l.rows.items × AreLeft (height_in l.fn.deps) l.words.items l.left

abbrev pub decreases-fill : goal.decreases-fill
decreases-fill l = length l.left
