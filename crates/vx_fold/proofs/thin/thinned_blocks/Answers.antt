use Rattle.std.proofs.Common.{◌∙◌, ◌++◌, ◌∷◌, [], ap, map, sym, take, take_all}
use Rattle.std.proofs.lemmas.List.{map_more}
use Rattle.vx_fold.specs.Thinning.{thinned_block, unread_of}
use Rattle.vx_fold.proofs.thin.thinned_blocks.Goals as goal

pub loop-block-preserved : goal.loop-block-preserved
loop-block-preserved c =
    let thin = thinned_block (unread_of c.args.needed.now) in
    let blocks = c.args.blocks.now in
    let i = c.loop-block.block-index in
    c.in_ok-push.ensures.ok ∙ ap (λ bs. bs ++ c.in_ok-thinned_block.field-0 ∷ []) c.loop-block.invariant
    ∙ ap (λ b. map thin (take i blocks) ++ b ∷ []) (c.in_ok-thinned_block.ensures ∙ ap thin c.block-item.is) ∙ sym (map_more thin blocks i _ c.loop-block-test.true)

pub returns : goal.returns
returns c = c.loop-block.invariant ∙ ap (map (thinned_block (unread_of c.args.needed.now))) (take_all c.loop-block.block-index c.args.blocks.now c.loop-block-test.false)
