use Rattle.vx_motion.proofs.laws.replacement_keeps_the_meaning.Goals as goal
use Rattle.vx_motion.proofs.Joins.{replacement_law, region_is_settled}
use Rattle.vx_motion.proofs.Kept.{liveness_kept}

pub returns-clause-meaning : goal.returns-clause-meaning
returns-clause-meaning c = replacement_law

pub returns-clause-settled : goal.returns-clause-settled
returns-clause-settled c = region_is_settled

pub returns-clause-live : goal.returns-clause-live
returns-clause-live c = liveness_kept
