use Rattle.std.proofs.Common.{◌∙◌, ◌++◌, ◌∷◌, [], ap, map, sym, take, take_all}
use Rattle.std.proofs.lemmas.List.{map_more}
use Rattle.vx_clean.specs.Laying.{joined}
use Rattle.vx_clean.specs.LinkTest.{moves}
use Rattle.vx_clean.proofs.chain_graph.joined_all.Goals as goal

pub loop-chain-preserved : goal.loop-chain-preserved
loop-chain-preserved c =
    let join = joined (moves c.args.to.now) c.args.blocks.now in
    let chains = c.args.chains.now in
    let i = c.loop-chain.chain-index in
    c.in_ok-push.ensures.ok ∙ ap (λ bs. bs ++ c.in_ok-joined.field-0 ∷ []) c.loop-chain.invariant
    ∙ ap (λ b. map join (take i chains) ++ b ∷ []) (c.in_ok-joined.ensures ∙ ap join (c.as_slice.ensures ∙ c.chain-item.is)) ∙ sym (map_more join chains i _ c.loop-chain-test.true)

pub returns : goal.returns
returns c = c.loop-chain.invariant ∙ ap (map (joined (moves c.args.to.now) c.args.blocks.now)) (take_all c.loop-chain.chain-index c.args.chains.now c.loop-chain-test.false)
