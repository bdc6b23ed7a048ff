-- The run and its lines.
use Rattle.std.proofs.Common.{sym}
use Rattle.vx_runs.specs.Ending.{loaded_of}
use Rattle.vx_runs.specs.Simulated.{streams_of}
use Rattle.vx_runs.proofs.Ends.{run_answers, run_line, not_of_run, no_memory_answers, length_map}
use Rattle.vx_runs.proofs.Telling.{run_told}
use Rattle.vx_runs.proofs.run.run_loaded.Goals as goal

pub returns-in-Ok-clause-answers : goal.returns-in-Ok-clause-answers
returns-in-Ok-clause-answers g c =
    run_answers (loaded_of c.args.loaded) _ c.args.budget c.args.tells _ _ _ c.in-Ok.end.ended c.in-Ok.end.issued c.in-Ok.ensures.ran c.in-Ok.ensures.issued c.conclude.result _ (sym (length_map _ c.run.new.probes.items)) c.in-Ok.ensures.failed c.conclude.ensures.told c.conclude.ensures.cut (rw c.as_slice.ensures.value at c.conclude.ensures.finishes)

pub returns-in-Ok-clause-nothing : goal.returns-in-Ok-clause-nothing
returns-in-Ok-clause-nothing g c = not_of_run c.in-Ok.end.ended _ _ _ _ _ _ _ c.conclude.result c.conclude.ensures.cut c.conclude.ensures.finishes

pub returns-in-Ok-clause-line : goal.returns-in-Ok-clause-line
returns-in-Ok-clause-line g c = run_line c.in-Ok.end.ended _ _ _ (streams_of g.K.Sink.told g.K.Sink.faults g.E.Sink.told g.E.Sink.faults c.args.out.now c.run.new.out c.args.err.now c.conclude.new.err) c.conclude.result c.conclude.ensures.cut c.conclude.ensures.told c.conclude.ensures.finishes

pub returns-clause-line : goal.returns-clause-line
returns-clause-line g c = run_told (streams_of g.K.Sink.told g.K.Sink.faults g.E.Sink.told g.E.Sink.faults c.args.out.now c.run.new.out c.args.err.now c.tell.new.err) c.tell.result c.tell.ensures.tells

pub returns-clause-answers : goal.returns-clause-answers
returns-clause-answers g c = no_memory_answers _ _ c.args.budget c.args.tells _ _ c.tell.result c.tell.ensures.same

pub returns-in-Ok-clause-adds : goal.returns-in-Ok-clause-adds
returns-in-Ok-clause-adds g c = c.conclude.ensures.adds

pub returns-in-Ok-clause-out_never_falls : goal.returns-in-Ok-clause-out_never_falls
returns-in-Ok-clause-out_never_falls g c = c.run.ensures.out_never_falls

pub returns-clause-adds : goal.returns-clause-adds
returns-clause-adds g c = c.tell.ensures.adds

pub returns-clause-out_never_falls : goal.returns-clause-out_never_falls
returns-clause-out_never_falls g c = c.run.ensures.out_never_falls
