-- The line is put, whole, or a front of it.
use Rattle.std.proofs.Common.{refl, ap}
use Rattle.vx_runs.specs.Summary.{puts_summary, whole, cut}
use Rattle.vx_runs.proofs.soak_run.put_summary.Goals as goal

pub returns-in-Ok-clause-puts : goal.returns-in-Ok-clause-puts
returns-in-Ok-clause-puts g c = λ z. whole z refl refl c.in-Ok.ensures.all refl

pub returns-in-Err-clause-puts : goal.returns-in-Err-clause-puts
returns-in-Err-clause-puts g c = λ z. cut z refl c.tell.ensures.same c.in-Err.ensures.failed c.in-Err.ensures.front

pub returns-in-Err-clause-wanted : goal.returns-in-Err-clause-wanted
returns-in-Err-clause-wanted g c = ap puts_summary c.tell.ensures.same
