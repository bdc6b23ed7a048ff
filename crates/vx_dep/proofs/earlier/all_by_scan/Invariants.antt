-- the lists so far are right
use Rattle.std.proofs.Common.{◌≡◌, ◌-◌, ◌≤◌, length}
use Rattle.vx_dep.proofs.Noting.{AreSoFar}
use Rattle.vx_dep.proofs.earlier.all_by_scan.Given as goal

abbrev pub invariant-find : goal.invariant-find
invariant-find l = AreSoFar l.fn.sight.machine l.fn.sight.mode l.fn.sight.trace.now l.lists × (l.place ≡ length l.lists) × (l.place ≤ length l.fn.sight.trace.now.ops)

abbrev pub decreases-find : goal.decreases-find
decreases-find l = length l.fn.sight.trace.now.ops - l.place
