use Rattle.vx_mixed.proofs.EdgesAfter.{edges_after}
use Rattle.vx_mixed.proofs.StaysValid.{stays_valid}
use Rattle.vx_motion.proofs.laws.replacement_stays_valid.Goals as goal

pub returns : goal.returns
returns c = record { valid = stays_valid; edges = edges_after }
