use Rattle.std.proofs.Common.{◌∙◌, map, ap}
use Rattle.std.proofs.lemmas.List.{take_all}
use Rattle.vx_mixed.specs.Next.{new_end, rename}
use Rattle.vx_replace.proofs.Pushed.{mapped_more}
use Rattle.vx_replace.proofs.nodes.renamed_word.Goals as goal

pub loop-item-preserved : goal.loop-item-preserved
loop-item-preserved c =
    mapped_more (rename (new_end c.args.graph.now c.args.replacement.now.made)) c.args.word.now c.loop-item.item-index _ _ _ _ c.loop-item-test.true c.loop-item.invariant c.in_ok-push.ensures.ok c.renamed_item.ensures

pub returns : goal.returns
returns c = c.loop-item.invariant ∙ ap (map (rename (new_end c.args.graph.now c.args.replacement.now.made))) (take_all c.loop-item.item-index c.args.word.now c.loop-item-test.false)
