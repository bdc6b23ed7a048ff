use Rattle.vx_narrow.proofs.RunFacts.{facts_hold}
use Rattle.vx_narrow.proofs.fact_laws.checked_facts_hold.Goals as goal

pub returns : goal.returns
returns c = facts_hold
