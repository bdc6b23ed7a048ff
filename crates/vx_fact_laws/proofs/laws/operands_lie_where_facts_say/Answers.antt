use Rattle.vx_fact_laws.proofs.FactSteps.{range_law}
use Rattle.vx_fact_laws.proofs.laws.operands_lie_where_facts_say.Goals as goal

pub returns : goal.returns
returns c = range_law
