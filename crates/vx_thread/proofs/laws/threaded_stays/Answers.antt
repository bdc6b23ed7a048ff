use Rattle.vx_thread.proofs.ThreadFlow.{threaded_stays}
use Rattle.vx_thread.proofs.laws.threaded_stays.Goals as goal

pub returns : goal.returns
returns c = threaded_stays
