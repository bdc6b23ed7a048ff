use Rattle.std.proofs.Common.{[], ◌∙◌, sym}
use Rattle.vx_replace.proofs.Pushed.{no_split_here, split_here}
use Rattle.vx_replace.proofs.trace.has_split.Goals as goal

pub returns-then-splits_in-gt0 : goal.returns-then-splits_in-gt0
returns-then-splits_in-gt0 c =
    sym (split_here c.args.graph.now c.args.blocks.now c.rest_of-rest.result.now c.loop-index.index c.splits_in.result c.loop-index-test.true c.rest_of-rest.ensures (c.splits_in.ensures.exact (λ b. [])) c.if-splits_in-gt0.true) ∙ c.loop-index.invariant

pub loop-index-preserved : goal.loop-index-preserved
loop-index-preserved c =
    sym (no_split_here c.args.graph.now c.args.blocks.now c.rest_of-rest.result.now c.loop-index.index c.splits_in.result c.loop-index-test.true c.rest_of-rest.ensures (c.splits_in.ensures.exact (λ b. [])) c.if-splits_in-gt0.false) ∙ c.loop-index.invariant
