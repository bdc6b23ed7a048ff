-- No probe sees the run.
use Rattle.std.proofs.lemmas.Result.{IfOk-weaker}
use Rattle.vx_runs.specs.Ending.{loaded_of}
use Rattle.vx_runs.proofs.Ends.{alone}
use Rattle.vx_runs.proofs.run.run_alone.Goals as goal

pub returns-clause-ran : goal.returns-clause-ran
returns-clause-ran g c = IfOk-weaker c.run.result _ _ (λ end ran. alone (loaded_of c.args.loaded) _ _ _ _ _ _ end.ended ran) c.run.ensures.ran

pub returns-clause-issued : goal.returns-clause-issued
returns-clause-issued g c = c.run.ensures.issued
