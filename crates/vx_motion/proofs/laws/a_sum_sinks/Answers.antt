use Rattle.vx_motion.proofs.laws.a_sum_sinks.Goals as goal
use Rattle.vx_motion.proofs.Sinking.{sum_sinks}
use Rattle.vx_motion.proofs.SinkingRefused.{refused}

pub returns-clause-with_copy : goal.returns-clause-with_copy
returns-clause-with_copy c = sum_sinks

pub returns-clause-without : goal.returns-clause-without
returns-clause-without c = refused
