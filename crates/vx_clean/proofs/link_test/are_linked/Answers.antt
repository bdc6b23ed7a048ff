use Rattle.std.proofs.Common.{◌∙◌, ap, sym, take_all}
use Rattle.std.specs.List.{list_all}
use Rattle.vx_clean.specs.LinkTest.{is_linked, moves}
use Rattle.vx_fold.proofs.Alls.{one_fails, one_more}
use Rattle.vx_clean.proofs.link_test.are_linked.Goals as goal

pub loop-chain-preserved : goal.loop-chain-preserved
loop-chain-preserved c =
    let linked = is_linked (moves c.args.to.now) c.args.blocks.now c.args.chains.now in
    one_more linked c.args.chains.now c.loop-chain.chain-index _ c.is_linked.result c.loop-chain-test.true c.loop-chain.invariant (c.is_linked.ensures ∙ ap linked (c.as_slice.ensures ∙ c.chain-item.is)) c.if-not-is_linked.false

pub returns-then-not-is_linked : goal.returns-then-not-is_linked
returns-then-not-is_linked c =
    let linked = is_linked (moves c.args.to.now) c.args.blocks.now c.args.chains.now in
    one_fails linked c.args.chains.now c.loop-chain.chain-index _ c.is_linked.result c.loop-chain-test.true (c.is_linked.ensures ∙ ap linked (c.as_slice.ensures ∙ c.chain-item.is)) c.if-not-is_linked.true

pub returns : goal.returns
returns c =
    let linked = is_linked (moves c.args.to.now) c.args.blocks.now c.args.chains.now in
    sym (ap (list_all linked) (sym (take_all c.loop-chain.chain-index c.args.chains.now c.loop-chain-test.false)) ∙ c.loop-chain.invariant)
