use Rattle.vx_fact_laws.proofs.FactSteps.{behind_law, access_law}
use Rattle.vx_fact_laws.proofs.laws.facts_hold_behind_operations.Goals as goal

pub returns : goal.returns
returns c = record { told = behind_law; accesses = access_law }
