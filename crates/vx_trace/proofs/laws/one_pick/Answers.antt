use Rattle.vx_trace.proofs.Unique.{one_pick}
use Rattle.vx_trace.proofs.laws.one_pick.Goals as goal

pub returns : goal.returns
returns c = one_pick
