use Rattle.vx_fold.proofs.ThinFlow.{thinned_stays}
use Rattle.vx_fold.proofs.unread.thinned_stays.Goals as goal

pub returns : goal.returns
returns c = thinned_stays
