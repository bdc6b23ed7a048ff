use Rattle.std.proofs.Common.{◌≡◌, ◌+◌, ◌++◌, suc, take, map, sym, ap, ◌∙◌, arith}
use Rattle.std.proofs.lemmas.List.{take_all}
use Rattle.vx_flow.specs.Walk.{edge, successors_of}
use Rattle.vx_mixed.specs.Edges.{edges_from}
use Rattle.vx_mixed.proofs.BlockEdges.{edges_more}
use Rattle.vx_replace.proofs.begun_lists.block_edges.Goals as goal

pub loop-index-preserved : goal.loop-index-preserved
loop-index-preserved c =
    let i = c.loop-index.index in
    let bs = c.args.blocks.now in
    let k = c.index-blocks-index.result in
    let a : suc i ≡ i + 1 = omega arith in
    let z : 0 + i ≡ i = omega arith in
    let m = edges_more 0 bs i k c.loop-index-test.true c.index-blocks-index.is in
    c.in_ok-push_edges.ensures ∙ ap (λ l. l ++ map (edge i) (successors_of k.exit)) c.loop-index.invariant ∙ ap (λ j. edges_from 0 (take i bs) ++ map (edge j) (successors_of k.exit)) (sym z) ∙ sym m ∙ ap (λ j. edges_from 0 (take j bs)) a

pub returns : goal.returns
returns c = c.loop-index.invariant ∙ ap (edges_from 0) (take_all c.loop-index.index c.args.blocks.now c.loop-index-test.false)
