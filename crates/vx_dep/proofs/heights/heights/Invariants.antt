-- the lists of those from a place on are walked
use Rattle.std.proofs.Common.{◌≤◌, length}
use Rattle.vx_dep.proofs.Rising.{AreFrom}
use Rattle.vx_dep.proofs.heights.heights.Given as goal

abbrev pub invariant-rise : goal.invariant-rise
invariant-rise l = AreFrom l.fn.sight.machine l.fn.sight.mode l.fn.sight.trace.now l.heights.items l.place × (l.place ≤ length l.fn.lists)

abbrev pub decreases-rise : goal.decreases-rise
decreases-rise l = l.place
