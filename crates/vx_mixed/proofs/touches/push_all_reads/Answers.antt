use Rattle.vx_flow.proofs.Copying.{mapped_more}
use Rattle.vx_mixed.specs.Routes.{reading_item}
use Rattle.vx_mixed.proofs.touches.push_all_reads.Goals as goal

pub loop-item-preserved : goal.loop-item-preserved
loop-item-preserved c =
    let so_far = c.loop-item.touches in
    mapped_more reading_item c.args.word.now c.args.touches.now so_far c.push_item_reads.new.touches _ c.loop-item.item-index c.loop-item-test.true c.loop-item.invariant c.in_ok-push_item_reads.ensures
