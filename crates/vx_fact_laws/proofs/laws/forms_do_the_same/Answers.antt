use Rattle.vx_fact_laws.proofs.FactSteps.{form_law, shortened_law}
use Rattle.vx_fact_laws.proofs.laws.forms_do_the_same.Goals as goal

pub returns : goal.returns
returns c = record { form = form_law; shortened = shortened_law }
