use Rattle.vx_machine.proofs.Counts.{all_more, all_not}
use Rattle.vx_room.proofs.room.all_stand_well.Goals as goal

pub loop-x-preserved : goal.loop-x-preserved
loop-x-preserved c = all_more _ c.args.items.now c.loop-x.x-index _ c.stands_well.result c.loop-x-test.true c.loop-x.invariant c.stands_well.ensures c.if-not-stands_well.false

pub returns-then-not-stands_well : goal.returns-then-not-stands_well
returns-then-not-stands_well c = all_not _ c.args.items.now c.loop-x.x-index _ c.stands_well.result c.loop-x-test.true c.stands_well.ensures c.if-not-stands_well.true
