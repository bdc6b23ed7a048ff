use Rattle.vx_linear.proofs.difference.+narrowed.Given as goal

abbrev pub decreases-narrowed : goal.decreases-narrowed
decreases-narrowed l = l.step
