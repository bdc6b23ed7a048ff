use Rattle.vx_fact_laws.proofs.FactSteps.{block_law}
use Rattle.vx_fact_laws.proofs.laws.facts_hold_behind_blocks.Goals as goal

pub returns : goal.returns
returns c = block_law
