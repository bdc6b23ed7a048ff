-- what is waited for, and what is left
use Rattle.std.proofs.Common.{◌≡◌, length}
use Rattle.vx_sched.specs.Filling.{ready_over}
use Rattle.vx_sched.proofs.ready.ready_over.Given as goal

abbrev pub invariant-wait : goal.invariant-wait
invariant-wait l = ready_over l.fn.words l.ready l.rest ≡ ready_over l.fn.words 0 l.fn.list

abbrev pub decreases-wait : goal.decreases-wait
decreases-wait l = length l.rest
