use Rattle.vx_machine.proofs.Counts.{all_more, all_not}
use Rattle.vx_room.proofs.room.all_read_well.Goals as goal

pub loop-x-preserved : goal.loop-x-preserved
loop-x-preserved c = all_more _ c.args.items.now c.loop-x.x-index _ c.reads_well.result c.loop-x-test.true c.loop-x.invariant c.reads_well.ensures c.if-not-reads_well.false

pub returns-then-not-reads_well : goal.returns-then-not-reads_well
returns-then-not-reads_well c = all_not _ c.args.items.now c.loop-x.x-index _ c.reads_well.result c.loop-x-test.true c.reads_well.ensures c.if-not-reads_well.true
