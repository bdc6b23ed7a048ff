use Rattle.std.proofs.Common.{◌∙◌, ap, sym, take_all}
use Rattle.std.specs.List.{list_all}
use Rattle.vx_fold.specs.Folding.{numbers_of, settles_block}
use Rattle.vx_fold.proofs.Alls.{one_fails, one_more}
use Rattle.vx_fold.proofs.settled.blocks_settle.Goals as goal

pub loop-block-preserved : goal.loop-block-preserved
loop-block-preserved c = one_more (settles_block (numbers_of c.args.numbers.now)) c.args.blocks.now c.loop-block.block-index _ c.settles_block.result c.loop-block-test.true c.loop-block.invariant (c.settles_block.ensures ∙ ap (settles_block (numbers_of c.args.numbers.now)) c.block-item.is) c.if-not-settles_block.false

pub returns-then-not-settles_block : goal.returns-then-not-settles_block
returns-then-not-settles_block c = one_fails (settles_block (numbers_of c.args.numbers.now)) c.args.blocks.now c.loop-block.block-index _ c.settles_block.result c.loop-block-test.true (c.settles_block.ensures ∙ ap (settles_block (numbers_of c.args.numbers.now)) c.block-item.is) c.if-not-settles_block.true

pub returns : goal.returns
returns c = sym (ap (list_all (settles_block (numbers_of c.args.numbers.now))) (sym (take_all c.loop-block.block-index c.args.blocks.now c.loop-block-test.false)) ∙ c.loop-block.invariant)
