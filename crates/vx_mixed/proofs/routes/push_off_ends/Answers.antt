use Rattle.vx_flow.proofs.Copying.{mapped_more}
use Rattle.vx_mixed.specs.Routes.{off_end}
use Rattle.vx_mixed.proofs.routes.push_off_ends.Goals as goal

pub loop-item-preserved : goal.loop-item-preserved
loop-item-preserved c =
    let so_far = c.loop-item.to in
    mapped_more off_end c.args.word.now c.args.to.now so_far c.push_off_end.new.to _ c.loop-item.item-index c.loop-item-test.true c.loop-item.invariant c.in_ok-push_off_end.ensures
