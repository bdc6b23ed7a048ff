use Rattle.vx_calls.proofs.pauses.+spared.Given as goal

abbrev pub decreases-spared : goal.decreases-spared
decreases-spared l = l.most
