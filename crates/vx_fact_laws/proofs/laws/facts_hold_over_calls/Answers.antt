use Rattle.vx_fact_laws.proofs.CallFacts.{entry_law, entered_law, return_law, returned_law}
use Rattle.vx_fact_laws.proofs.laws.facts_hold_over_calls.Goals as goal

pub returns : goal.returns
returns c = record { entry = entry_law; entered = entered_law; back = return_law; returned = returned_law }
