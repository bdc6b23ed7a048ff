use Rattle.vx_profile.proofs.Once.{spelled_once}
use Rattle.vx_profile.proofs.laws.spelled_in_one_way.Goals as goal

pub returns : goal.returns
returns c = spelled_once
