use Rattle.std.proofs.Common.{◌≡◌, ◌+◌, ◌∙◌, take, ap, sym, subst}
use Rattle.vx_flow.specs.declared.graph.Edge.{Edge}
use Rattle.vx_flow.specs.Effects.{IsIn}
use Rattle.vx_trace.specs.Growing.{BestOf, better}
use Rattle.vx_trace.specs.Picked.{count_of_edge}
use Rattle.vx_trace.proofs.Bests.{edge_more, edge_passed, edges_all}
use Rattle.vx_trace.proofs.heaviest.best_in.Goals.{then-edge-block, else-edge-block}
use Rattle.vx_trace.proofs.heaviest.best_in.Goals as goal

pub loop-edge-preserved : goal.loop-edge-preserved
loop-edge-preserved c =
    let count = count_of_edge c.args.mixed.now c.args.counts.now in
    let edges = c.args.edges.now in
    let i = c.loop-edge.edge-index in
    let d : Edge = record { from = 0; to = 0 } in
    let best = c.loop-edge.best in
    elim c.if-edge-block.branch [
      | then-edge-block w ↦ subst (BestOf (λ (e : Edge). IsIn e (take (i + 1) edges) × (e.to ≡ c.args.block)) count (λ (e : Edge). e.from)) (sym w.best-is)
          (edge_more (λ e. e.to) (λ e. e.from) count c.args.block edges i d best w.better.result c.loop-edge-test.true w.if-edge-block.true (w.better.ensures ∙ ap (better best _) w.count_of_edge.ensures) c.loop-edge.invariant)
      | else-edge-block w ↦ subst (BestOf (λ (e : Edge). IsIn e (take (i + 1) edges) × (e.to ≡ c.args.block)) count (λ (e : Edge). e.from)) (sym w.best-is)
          (edge_passed (λ e. e.to) (λ e. e.from) count c.args.block edges i d best c.loop-edge-test.true w.if-edge-block.false c.loop-edge.invariant)
    ]

pub returns : goal.returns
returns c = edges_all (λ e. e.to) (λ e. e.from) (count_of_edge c.args.mixed.now c.args.counts.now) c.args.block c.args.edges.now c.loop-edge.edge-index c.loop-edge.best c.loop-edge-test.false c.loop-edge.invariant
