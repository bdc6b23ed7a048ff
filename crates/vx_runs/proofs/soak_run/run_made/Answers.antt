-- What is in memory behind the run is its output.
use Rattle.std.proofs.Common.{◌∙◌, ap}
use Rattle.vx_runs.specs.Ending.{loaded_of}
use Rattle.vx_runs.specs.Summary.{byte_sum}
use Rattle.vx_runs.proofs.SoakEnds.{run_ends}
use Rattle.vx_runs.proofs.soak_run.run_made.Goals as goal

pub returns : goal.returns
returns g c =
    run_ends (loaded_of c.args.loaded) _ c.in_ok-end.end.ended c.in_ok-end.end.issued c.byte_sum-sum.result _ _ _ _ c.in_ok-end.ensures.ran c.in_ok-sink.ensures.empty c.in_ok-end.ensures.issued (c.byte_sum-sum.ensures ∙ ap byte_sum c.bytes.ensures)
