use Rattle.vx_narrow.proofs.NarrowRuns.{decided_goes}
use Rattle.vx_narrow.proofs.laws.decided_splits_go_one_way.Goals as goal

pub returns : goal.returns
returns c = decided_goes
