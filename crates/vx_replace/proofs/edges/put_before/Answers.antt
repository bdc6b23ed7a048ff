use Rattle.std.proofs.Common.{◌<◌, ◌∙◌, Some, length, slice_index_or, sym, ap, subst, arith}
use Rattle.std.proofs.lemmas.List.{drop_all}
use Rattle.vx_mixed.specs.MovedEdges.{with_before}
use Rattle.vx_mixed.proofs.RouteSteps.{left_from}
use Rattle.vx_replace.proofs.PutSteps.{item_in, set_many}
use Rattle.vx_replace.proofs.edges.put_before.Goals as goal

pub index_mut-requires : goal.index_mut-requires
index_mut-requires c =
    let low : slice_index_or c.args.others.now c.loop-block.block-index 0 < length c.loop-block.before.items =
    subst (λ n. slice_index_or c.args.others.now c.loop-block.block-index 0 < n) (sym c.loop-block.invariant.1)
    (c.requires (slice_index_or c.args.others.now c.loop-block.block-index 0) (item_in c.args.others.now c.loop-block.block-index 0 c.loop-block-test.true)) in
    let long = c.loop-block.before.ok.0 in
    omega arith

pub loop-block-preserved : goal.loop-block-preserved
loop-block-preserved c =
    let others = c.args.others.now in
    let i = c.loop-block.block-index in
    let before = c.loop-block.before.items in (
      sym (ap (λ l. with_before c.loop-block.last l before) (left_from others i 0 c.loop-block-test.true)) ∙ c.loop-block.invariant.0,
      set_many before (slice_index_or others i 0) (Some c.loop-block.last) ∙ c.loop-block.invariant.1,
    )

pub returns : goal.returns
returns c = sym (ap (λ l. with_before c.loop-block.last l c.loop-block.before.items) (drop_all c.loop-block.block-index c.args.others.now c.loop-block-test.false)) ∙ c.loop-block.invariant.0
