use Rattle.vx_sched.proofs.RowSteps.{item_there_is}
use Rattle.vx_sched.proofs.list_schedule.item_at.Goals as goal

pub returns : goal.returns
returns c = item_there_is c.args.trace.now c.as_slice.result.now c.as_slice-2.result.now c.args.place c.index-as_slice-place.result c.of_trace.result c.requires.inside c.as_slice.ensures c.as_slice-2.ensures c.index-as_slice-place.is c.of_trace.ensures
