-- The simulator stands at the start of what was read.
use Rattle.std.proofs.Common.{◌∙◌, arith}
use Rattle.vx_runs.specs.Ending.{loaded_of}
use Rattle.vx_runs.proofs.Ends.{run_of, issued_of}
use Rattle.vx_runs.proofs.run.run.Goals as goal

pub returns-clause-ran : goal.returns-clause-ran
returns-clause-ran g c =
    run_of c.in_ok-sim.sim (loaded_of c.args.loaded) _ c.in_ok-sim.ensures.stands c.in_ok-sim.ensures.program c.in_ok-sim.ensures.machine _ c.run-ended.new.self _ _ _ _ _ _ c.run-ended.ensures.ran

pub returns-clause-issued : goal.returns-clause-issued
returns-clause-issued g c = λ whole.
    c.issued-issued.ensures
    ∙ issued_of c.in_ok-sim.sim (loaded_of c.args.loaded) _ c.in_ok-sim.ensures.stands c.in_ok-sim.ensures.program c.in_ok-sim.ensures.machine _ c.run-ended.new.self _ _ _ _ _ _ c.run-ended.ensures.ran c.in_ok-sim.ensures.fresh.0 (let range = c.ranges.budget in omega arith) whole

pub returns-clause-failed : goal.returns-clause-failed
returns-clause-failed g c = c.run-ended.ensures.failed

pub returns-clause-out_never_falls : goal.returns-clause-out_never_falls
returns-clause-out_never_falls g c = c.run-ended.ensures.faults_never_fall

pub returns-clause-nothing : goal.returns-clause-nothing
returns-clause-nothing g c = tt

pub run-ended-requires : goal.run-ended-requires
run-ended-requires g c = c.in_ok-sim.ensures.fresh.1
