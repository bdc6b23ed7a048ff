use Rattle.vx_tie.proofs.Calls.{call_law}
use Rattle.vx_tie.proofs.laws.calls_are_carried.Goals as goal

pub returns : goal.returns
returns c = call_law
