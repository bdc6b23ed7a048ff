use Rattle.std.proofs.Common.{◌<◌, ◌+◌, ◌∙◌, drop, length, slice_index_or, sym, ap, subst}
use Rattle.vx_mixed.specs.declared.region.Node.TheVariants.{Inner}
use Rattle.vx_mixed.proofs.RouteSteps.{left_from}
use Rattle.vx_replace.specs.Exchanged.{with_inner}
use Rattle.vx_replace.proofs.PutSteps.{item_in, set_many}
use Rattle.vx_replace.proofs.exchange.put_inner.Goals as goal

pub set-requires : goal.set-requires
set-requires c = subst (λ n. slice_index_or c.args.blocks.now c.loop-block.block-index 0 < n) (sym c.loop-block.invariant.1) (c.requires (slice_index_or c.args.blocks.now c.loop-block.block-index 0) (item_in c.args.blocks.now c.loop-block.block-index 0 c.loop-block-test.true))

pub loop-block-preserved : goal.loop-block-preserved
loop-block-preserved c =
    let bs = c.args.blocks.now in
    let i = c.loop-block.block-index in
    let nodes = c.loop-block.nodes in (
      ap (with_inner (drop (i + 1) bs)) c.set.ensures ∙ sym (ap (λ l. with_inner l nodes) (left_from bs i 0 c.loop-block-test.true)) ∙ c.loop-block.invariant.0,
      ap length c.set.ensures ∙ set_many nodes (slice_index_or bs i 0) Inner ∙ c.loop-block.invariant.1,
    )
