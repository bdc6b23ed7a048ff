-- Graph by graph.
use Rattle.std.proofs.Common.{◌∙◌, subst}
use Rattle.vx_compile.specs.Stages.{AreLaidOut, IsLaidOut}
use Rattle.vx_compile.proofs.Chain.{item_at, take_whole}
use Rattle.vx_compile.proofs.LaidOut.{begun_laid, laid_step}
use Rattle.vx_compile.proofs.layouts.layouts_of.Goals as goal

pub layout_of-requires : goal.layout_of-requires
layout_of-requires c = c.requires c.loop-graph.graph-index c.graph-item.result (item_at c.args.graphs.now c.loop-graph.graph-index c.graph-item.result c.loop-graph-test.true c.graph-item.is)

pub loop-graph-init : goal.loop-graph-init
loop-graph-init c = (
  begun_laid c.args.machine.now c.args.counts.now c.args.growth c.args.graphs.now c.new-traces.result c.new-layouts.result c.make-budget.result.used c.new-traces.ensures c.new-layouts.ensures c.make-budget.ensures.used,
  c.make-budget.ensures.cap,
)

pub loop-graph-preserved : goal.loop-graph-preserved
loop-graph-preserved c =
    let machine = c.args.machine.now in
    let counts = c.args.counts.now in
    let laid = c.in_ok-laid.laid in
    let used = c.loop-graph.budget.used in
    let used' = c.layout_of.new.budget.used in
    let is : IsLaidOut machine counts c.args.growth c.number_of-function.result c.graph-item.result used laid.traces laid.layout used' =
    subst (λ cap. IsLaidOut machine counts cap c.number_of-function.result c.graph-item.result used laid.traces laid.layout used') c.loop-graph.invariant.1 c.in_ok-laid.ensures.laid in (
      laid_step machine counts c.args.growth c.args.graphs.now c.loop-graph.graph-index c.number_of-function.result c.graph-item.result c.loop-graph.layouts c.put_function.new.layouts c.loop-graph.traces c.put_function.new.traces
          laid.traces laid.layout used used' c.loop-graph-test.true c.graph-item.is c.number_of-function.ensures c.loop-graph.invariant.0 is c.in_ok-put_function.ensures.layouts c.in_ok-put_function.ensures.traces,
      c.layout_of.ensures.same_cap ∙ c.loop-graph.invariant.1,
    )

pub returns : goal.returns
returns c =
    subst (λ gs. AreLaidOut c.args.machine.now c.args.counts.now c.args.growth gs c.loop-graph.traces c.loop-graph.layouts c.loop-graph.budget.used) (take_whole c.args.graphs.now c.loop-graph.graph-index c.loop-graph-test.false)
    c.loop-graph.invariant.0
