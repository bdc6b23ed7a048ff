use Rattle.vx_narrow.proofs.one_mask.+far_behind.Given as goal

abbrev pub decreases-far_behind : goal.decreases-far_behind
decreases-far_behind l = l.times
