use Rattle.vx_motion.proofs.laws.graphs_begin_tidy_and_settled.Goals as goal
use Rattle.vx_mixed.proofs.Begins.{begins_tidy, begins_settled}

pub returns-clause-tidy : goal.returns-clause-tidy
returns-clause-tidy c = begins_tidy

pub returns-clause-settled : goal.returns-clause-settled
returns-clause-settled c = begins_settled
