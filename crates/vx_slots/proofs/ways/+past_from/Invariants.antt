use Rattle.vx_slots.proofs.ways.+past_from.Given as goal

abbrev pub decreases-past_from : goal.decreases-past_from
decreases-past_from l = l.most
