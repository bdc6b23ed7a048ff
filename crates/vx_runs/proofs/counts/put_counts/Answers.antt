-- The text is put, whole, or a front of it.
use Rattle.vx_runs.proofs.CountLaws.{put_ended, put_cut}
use Rattle.vx_runs.proofs.counts.put_counts.Goals as goal

pub returns-in-Ok-clause-puts : goal.returns-in-Ok-clause-puts
returns-in-Ok-clause-puts g c = put_ended c.args.counted.now.text.items c.args.counted.now.complete _ c.tell_end.result (rw c.as_slice.ensures.value at c.in-Ok.ensures.all) c.tell_end.ensures.over c.tell_end.ensures.stopped

pub returns-in-Err-clause-puts : goal.returns-in-Err-clause-puts
returns-in-Err-clause-puts g c = put_cut c.args.counted.now.text.items c.args.counted.now.complete _ c.tell.result c.tell.ensures.same c.in-Err.ensures.failed (rw c.as_slice.ensures.value at c.in-Err.ensures.front)
