-- The line of a strict program is put, or that of the word that breaks it.
use Rattle.vx_status.specs.declared.status.Breach.TheVariants.{Unfit, Pending}
use Rattle.vx_runs.specs.Checking.{broken}
use Rattle.vx_runs.proofs.Checking.{puts_yes, wanted_put}
use Rattle.vx_runs.proofs.check.put_verdict.Goals as goal

pub returns-in-Yes-clause-puts : goal.returns-in-Yes-clause-puts
returns-in-Yes-clause-puts g c = puts_yes c.args.verdict _ c.put_strict.result c.in-Yes.is c.put_strict.ensures.puts

pub returns-in-Unfit-clause-puts : goal.returns-in-Unfit-clause-puts
returns-in-Unfit-clause-puts g c = broken Unfit c.in-Unfit.place c.in-Unfit.is c.tell.ensures.same

pub returns-in-Pending-clause-puts : goal.returns-in-Pending-clause-puts
returns-in-Pending-clause-puts g c = broken Pending c.in-Pending.place c.in-Pending.is c.tell-in-Pending.ensures.same

pub returns-in-Yes-clause-nothing : goal.returns-in-Yes-clause-nothing
returns-in-Yes-clause-nothing g c = wanted_put _ c.put_strict.result c.put_strict.ensures.wanted
