use Rattle.std.proofs.Common.{◌∙◌, map, ap}
use Rattle.std.proofs.lemmas.List.{take_all}
use Rattle.vx_mixed.specs.declared.region.Node.TheVariants.{Unused}
use Rattle.vx_replace.proofs.Pushed.{mapped_more}
use Rattle.vx_replace.proofs.begun_lists.unused_nodes.Goals as goal

pub loop-block-preserved : goal.loop-block-preserved
loop-block-preserved c =
    mapped_more Unused c.args.blocks.now c.loop-block.block-index c.block-item.result _ _ _ c.loop-block-test.true c.loop-block.invariant c.in_ok-push.ensures.ok (ap Unused (c.in_ok-copy.ensures ∙ c.block-item.is))

pub returns : goal.returns
returns c = c.loop-block.invariant ∙ ap (map Unused) (take_all c.loop-block.block-index c.args.blocks.now c.loop-block-test.false)
