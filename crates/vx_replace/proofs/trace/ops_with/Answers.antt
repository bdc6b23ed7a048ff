use Rattle.std.proofs.Common.{◌++◌, ◌∙◌, sym, ap, append-nil}
use Rattle.std.proofs.lemmas.List.{drop_all}
use Rattle.vx_mixed.specs.Routes.{live_values}
use Rattle.vx_mixed.specs.TraceOf.{trace_ops}
use Rattle.vx_replace.proofs.Pushed.{ops_more}
use Rattle.vx_replace.proofs.trace.ops_with.Goals as goal

pub loop-index-preserved : goal.loop-index-preserved
loop-index-preserved c =
    ops_more c.args.graph.now (live_values c.args.live.now) c.args.blocks.now c.rest_of-rest.result.now c.loop-index.index c.loop-index.ops c.push_block.new.ops _ c.loop-index-test.true c.rest_of-rest.ensures c.in_ok-push_block.ensures c.loop-index.invariant

pub loop-index-init : goal.loop-index-init
loop-index-init c = ap (λ l. l ++ trace_ops c.args.graph.now (live_values c.args.live.now) c.args.blocks.now) c.new-ops.ensures

pub returns : goal.returns
returns c =
    sym (append-nil c.loop-index.ops)
    ∙ ap (λ l. c.loop-index.ops ++ trace_ops c.args.graph.now (live_values c.args.live.now) l) (sym (drop_all c.loop-index.index c.args.blocks.now c.loop-index-test.false))
    ∙ c.loop-index.invariant
