use Rattle.vx_profile.proofs.Once.{fault_once}
use Rattle.vx_profile.proofs.laws.one_fault.Goals as goal

pub returns : goal.returns
returns c = fault_once
