use Rattle.vx_fact_laws.proofs.FactSteps.{given_law, never_law}
use Rattle.vx_fact_laws.proofs.laws.given_claims_hold.Goals as goal

pub returns : goal.returns
returns c = record { given = given_law; never = never_law }
