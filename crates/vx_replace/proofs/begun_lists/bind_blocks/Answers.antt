use Rattle.std.proofs.Common.{◌≡◌, ◌+◌, suc, take, sym, ap, ◌∙◌, arith}
use Rattle.std.proofs.lemmas.List.{take_all}
use Rattle.vx_mixed.specs.FromGraph.{bound_by, bound_in}
use Rattle.vx_replace.proofs.StartHomes.{bound_by_more}
use Rattle.vx_replace.proofs.begun_lists.bind_blocks.Goals as goal

pub loop-block-preserved : goal.loop-block-preserved
loop-block-preserved c =
    let i = c.loop-block.block-index in
    let bs = c.args.blocks.now in
    let k = c.block-item.result in
    let homes = c.args.homes.now.items in
    let a : suc i ≡ i + 1 = omega arith in
    let m = bound_by_more bs i k homes c.loop-block-test.true c.block-item.is in
    c.bind_ops.ensures ∙ ap (λ o. bound_in o c.loop-block.homes.items) c.as_slice.ensures ∙ ap (bound_in k.ops) c.loop-block.invariant ∙ sym m ∙ ap (λ j. bound_by (take j bs) homes) a

pub returns : goal.returns
returns c = c.loop-block.invariant ∙ ap (λ blocks. bound_by blocks c.args.homes.now.items) (take_all c.loop-block.block-index c.args.blocks.now c.loop-block-test.false)
