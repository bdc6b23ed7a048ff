use Rattle.vx_sched.proofs.ReadySteps.{ready_is}
use Rattle.vx_sched.proofs.ready.ready.Goals as goal

pub returns : goal.returns
returns c = λ m mode t d. ready_is m mode t c.args.words.now c.args.place c.in_ok-ready.ready c.earlier.result.now (c.earlier.ensures m mode t d) c.in_ok-ready.ensures
