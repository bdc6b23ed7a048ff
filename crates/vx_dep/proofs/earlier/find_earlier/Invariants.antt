-- those before a place are listed
use Rattle.std.proofs.Common.{◌-◌, ◌≤◌}
use Rattle.vx_dep.specs.Earlier.{AreEarlier}
use Rattle.vx_dep.proofs.earlier.find_earlier.Given as goal

abbrev pub invariant-note : goal.invariant-note
invariant-note l = AreEarlier l.fn.sight.machine l.fn.sight.mode l.fn.sight.trace.now l.fn.place l.above l.found.items × (l.above ≤ l.fn.place)

abbrev pub decreases-note : goal.decreases-note
decreases-note l = l.fn.place - l.above
