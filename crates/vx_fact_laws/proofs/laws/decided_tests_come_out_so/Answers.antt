use Rattle.vx_fact_laws.proofs.FactSteps.{decided_law}
use Rattle.vx_fact_laws.proofs.laws.decided_tests_come_out_so.Goals as goal

pub returns : goal.returns
returns c = decided_law
