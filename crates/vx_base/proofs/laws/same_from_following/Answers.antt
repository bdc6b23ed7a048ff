use Rattle.vx_base.proofs.Following.{follows_same}
use Rattle.vx_base.proofs.laws.same_from_following.Goals as goal

pub returns : goal.returns
returns c = follows_same
