-- the delays behind those that were passed are noted
use Rattle.std.proofs.Common.{length}
use Rattle.vx_dep.proofs.Sought.{AreSought}
use Rattle.vx_dep.proofs.earlier.note_all.Given as goal

abbrev pub invariant-note : goal.invariant-note
invariant-note l = AreSought l.fn.sight.machine l.fn.sight.mode l.fn.sight.trace.now l.fn.place l.fn.places l.rest l.next l.found.items

abbrev pub decreases-note : goal.decreases-note
decreases-note l = length l.rest
