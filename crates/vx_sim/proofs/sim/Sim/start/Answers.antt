use Rattle.std.proofs.Common.{refl}
use Rattle.vx_sim.proofs.Passing.{same_state}
use Rattle.vx_sim.proofs.sim.Sim.start.Goals as goal

pub returns-clause-stands : goal.returns-clause-stands
returns-clause-stands c = same_state _ _ refl refl c.zeros.ensures c.in_ok-space.ensures.empty c.in_ok-space.ensures.words refl refl refl

pub returns-clause-program : goal.returns-clause-program
returns-clause-program c = refl

pub returns-clause-machine : goal.returns-clause-machine
returns-clause-machine c = c.for_version-issuing.ensures

pub returns-clause-fresh : goal.returns-clause-fresh
returns-clause-fresh c = (refl, refl)
