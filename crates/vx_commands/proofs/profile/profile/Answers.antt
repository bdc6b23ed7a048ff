-- The text of the counts is put, or a step before stopped the command.
use Rattle.std.proofs.Common.{refl}
use Rattle.vx_command.specs.Asked.{profiling_of}
use Rattle.vx_runs.proofs.CountLaws.{text_answers, stops_answers}
use Rattle.vx_commands.proofs.Performing.{count_performed, count_stopped}
use Rattle.vx_commands.proofs.profile.profile.Goals as goal

pub returns-in-Ok : goal.returns-in-Ok
returns-in-Ok g c = λ boxes.
    let put = c.put_counts.ensures in
    let reads = c.in-Ok.ensures.only_reads in
    count_performed _ boxes _ _ _ reads (text_answers (profiling_of c.args.asked.now) _ _ c.in-Ok.counted.text.items c.in-Ok.counted.complete c.put_counts.result reads.files c.in-Ok.ensures.counted put.puts) put.run put.tells put.adds put.out_never_falls

pub returns-in-Err : goal.returns-in-Err
returns-in-Err g c = λ boxes.
    let reads = c.in-Err.ensures.only_reads in
    count_stopped _ boxes _ _ _ reads refl refl (stops_answers (profiling_of c.args.asked.now) _ _ c.in-Err.status c.tell.result c.tell.ensures.same reads.files c.in-Err.ensures.stops) c.tell.ensures.tells c.tell.ensures.adds
