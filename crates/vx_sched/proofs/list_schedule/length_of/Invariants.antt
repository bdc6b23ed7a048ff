-- the greatest so far and that of what is left
use Rattle.std.proofs.Common.{◌≡◌, length, max}
use Rattle.vx_sched.specs.Placement.{length_of}
use Rattle.vx_sched.proofs.list_schedule.length_of.Given as goal

abbrev pub invariant-count : goal.invariant-count
invariant-count l = max l.length (length_of l.rest) ≡ length_of l.fn.words

abbrev pub decreases-count : goal.decreases-count
decreases-count l = length l.rest
