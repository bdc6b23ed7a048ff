use Rattle.std.proofs.Common.{◌∙◌, ◌<◌, length, arith}
use Rattle.vx_flow.proofs.IndexSteps.{get_below}
use Rattle.vx_shape.proofs.Noting.{noted_more, true_all, true_more}
use Rattle.vx_shape.proofs.origins.origins.Goals as goal

pub loop-from-preserved : goal.loop-from-preserved
loop-from-preserved c = record {
  count = c.note_exit.ensures.count ∙ c.loop-from.invariant.count;
  noted = noted_more c.args.blocks.now c.loop-from.from c.index-blocks-from.result c.loop-from.origins.items c.note_exit.new.origins.items c.loop-from-test.true c.index-blocks-from.is c.loop-from.invariant.count c.loop-from.invariant.noted c.note_exit.ensures;
  told = true_more c.args.blocks.now c.loop-from.from c.index-blocks-from.result c.loop-from.origins.items c.note_exit.new.origins.items c.loop-from-test.true c.index-blocks-from.is c.loop-from.invariant.count c.loop-from.invariant.told c.note_exit.ensures;
  place = omega (arith, c.loop-from-test.true);
}

pub returns : goal.returns
returns c = record {
  count = c.loop-from.invariant.count;
  noted = λ from b block at leads below. let lt : from < length c.args.blocks.now = get_below c.args.blocks.now from block at in c.loop-from.invariant.noted from b block (omega (arith, c.loop-from-test.false)) at leads below;
  told = true_all c.args.blocks.now c.loop-from.from c.loop-from.origins.items (omega (arith, c.loop-from-test.false, c.loop-from.invariant.place)) c.loop-from.invariant.told;
}
