use Rattle.vx_fact_laws.proofs.FactSteps.{side_law}
use Rattle.vx_fact_laws.proofs.laws.facts_hold_on_sides.Goals as goal

pub returns : goal.returns
returns c = side_law
