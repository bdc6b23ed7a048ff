use Rattle.vx_raise.proofs.lift_test.+passes.Given as goal

abbrev pub decreases-passes : goal.decreases-passes
decreases-passes l = l.place
