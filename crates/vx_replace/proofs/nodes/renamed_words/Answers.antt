use Rattle.std.proofs.Common.{◌∙◌, map, ap}
use Rattle.std.proofs.lemmas.List.{take_all}
use Rattle.vx_mixed.specs.Next.{new_end, rename}
use Rattle.vx_replace.proofs.Pushed.{mapped_more}
use Rattle.vx_replace.proofs.nodes.renamed_words.Goals as goal

pub loop-word-preserved : goal.loop-word-preserved
loop-word-preserved c =
    let f = map (rename (new_end c.args.graph.now c.args.replacement.now.made)) in
    mapped_more f c.args.words.now c.loop-word.word-index c.word-item.result _ _ _ c.loop-word-test.true c.loop-word.invariant c.in_ok-push.ensures.ok (c.in_ok-renamed.ensures ∙ ap f (c.as_slice.ensures ∙ c.word-item.is))

pub returns : goal.returns
returns c = c.loop-word.invariant ∙ ap (map (map (rename (new_end c.args.graph.now c.args.replacement.now.made)))) (take_all c.loop-word.word-index c.args.words.now c.loop-word-test.false)
