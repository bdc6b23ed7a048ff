-- What is live after a replacement was live before it.
use Rattle.vx_flow.proofs.Apart.{itself_apart}
use Rattle.vx_motion.specs.Unchanged.{LiveWithin}
use Rattle.vx_motion.specs.Replaced.{LivenessKept}
use Rattle.vx_motion.proofs.LiveBack.{live_within}
use Rattle.vx_motion.proofs.Joins.{ways, in_order}

pub liveness_kept : LivenessKept
liveness_kept latency old new meet_old meet_new pairs r = (within, λ is_copy b b' pair tidy v c live. tidy v c (within b b' v pair live))
  where
    within : LiveWithin old new pairs
    within = live_within in_order latency old new meet_old meet_new pairs r.n r.reg r.is_region (ways latency old new meet_old meet_new pairs r in_order (itself_apart old.arrays))
