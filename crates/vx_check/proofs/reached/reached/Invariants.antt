use Rattle.vx_tables.specs.Rows.{work}
use Rattle.vx_check.specs.InFlight.{Reaching}
use Rattle.vx_check.proofs.reached.reached.Given as goal

abbrev pub invariant-waiting : goal.invariant-waiting
invariant-waiting l = Reaching l.program l.marks.items l.waiting.items

abbrev pub decreases-waiting : goal.decreases-waiting
decreases-waiting l = work l.marks.items l.waiting.items
