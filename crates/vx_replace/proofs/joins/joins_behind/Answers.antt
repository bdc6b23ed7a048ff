use Rattle.std.proofs.Common.{◌∙◌, ◌++◌, get_or, ap}
use Rattle.vx_mixed.specs.TraceOf.{joined}
use Rattle.vx_replace.proofs.PutSteps.{item_in}
use Rattle.vx_replace.proofs.TraceSteps.{joins_more, others_are}
use Rattle.vx_replace.proofs.joins.joins_behind.Goals as goal

pub loop-index-preserved : goal.loop-index-preserved
loop-index-preserved c = λ live edges e.
    let b = get_or c.args.blocks.now c.loop-index.index 0 in
    let same = others_are edges c.args.entering.now c.loop-index.before b (e b (item_in c.args.blocks.now c.loop-index.index 0 c.loop-index-test.true)) in
    joins_more c.args.graph.now live edges c.loop-index.before c.loop-index.place c.args.first c.args.above c.in_ok-place.place c.loop-index.index c.args.blocks.now c.rest_of.result.now c.loop-index.joins c.push_join.new.joins c.loop-index-test.true
    (c.loop-index.invariant live edges e) (c.in_ok-push_join.ensures ∙ ap (λ es. c.loop-index.joins ++ joined c.loop-index.place b es) same) c.rest_of.ensures (c.in_ok-place.ensures live)
