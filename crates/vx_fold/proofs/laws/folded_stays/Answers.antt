use Rattle.vx_fold.proofs.FoldFlow.{folded_stays}
use Rattle.vx_fold.proofs.laws.folded_stays.Goals as goal

pub returns : goal.returns
returns c = folded_stays
