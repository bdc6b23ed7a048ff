-- What is said to be the fault is found, by the first faulty line.
use Rattle.vx_causes.proofs.fault_is_found.Goals as goal
use Rattle.vx_causes.proofs.Refused.{every_fault_found}

pub returns : goal.returns
returns c = every_fault_found
