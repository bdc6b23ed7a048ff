use Rattle.std.proofs.Common.{◌≡◌, None, Some, slice_get}
use Rattle.vx_bug.proofs.Tasks.{no_entries, all_entries}
use Rattle.vx_bug.proofs.order.enter_writers.Goals as goal

pub returns-in-None-clause-tasks : goal.returns-in-None-clause-tasks
returns-in-None-clause-tasks c =
    let t = c.args.trace.now in
    let none : slice_get t.ops c.args.place ≡ None = c.in-None.ensures.none in
    no_entries t c.args.depth c.args.place (slice_get t.ops c.args.place) c.args.tasks.now.items none

pub returns-in_ok-enter_writer-in-Some-3-clause-tasks :
    goal.returns-in_ok-enter_writer-in-Some-3-clause-tasks
returns-in_ok-enter_writer-in-Some-3-clause-tasks c =
    let t = c.args.trace.now in
    let there : slice_get t.ops c.args.place ≡ Some c.in-Some.op.now = c.in-Some.ensures.some in
    all_entries t c.args.depth c.args.place (slice_get t.ops c.args.place) c.in-Some.op.now c.reads_of-read.result c.args.tasks.now.items c.enter_writer.new.tasks.items c.enter_writer-in-Some.new.tasks.items c.enter_writer-in-Some-2.new.tasks.items
    there c.reads_of-read.ensures c.in_ok-enter_writer-in-Some.ensures.tasks c.in_ok-enter_writer-in-Some-2.ensures.tasks c.in_ok-enter_writer-in-Some-3.ensures.tasks
