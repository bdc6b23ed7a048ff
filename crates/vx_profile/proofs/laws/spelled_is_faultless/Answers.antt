use Rattle.vx_profile.proofs.Once.{spelled_without_fault}
use Rattle.vx_profile.proofs.laws.spelled_is_faultless.Goals as goal

pub returns : goal.returns
returns c = spelled_without_fault
