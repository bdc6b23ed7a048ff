use Rattle.vx_machine.proofs.LeftSteps.{one_more, one_over}
use Rattle.vx_room.specs.Left.{need_of}
use Rattle.vx_room.proofs.room.fits_left.Goals as goal

pub loop-x-preserved : goal.loop-x-preserved
loop-x-preserved c =
    one_more (need_of c.args.homes.now c.args.cluster) c.loop-x.left c.need_of-need.result c.less-left.result c.args.items.now c.loop-x.x-index _ c.covers.result _ c.loop-x-test.true c.loop-x.invariant c.need_of-need.ensures c.covers.ensures c.if-not-covers.false c.less-left.ensures

pub returns-then-not-covers : goal.returns-then-not-covers
returns-then-not-covers c =
    one_over (need_of c.args.homes.now c.args.cluster) c.loop-x.left c.need_of-need.result c.args.items.now c.loop-x.x-index _ c.covers.result _ c.loop-x-test.true c.loop-x.invariant c.need_of-need.ensures c.covers.ensures c.if-not-covers.true
