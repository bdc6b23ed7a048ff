-- the best of the edges so far
use Rattle.std.proofs.Common.{◌≡◌, take}
use Rattle.vx_flow.specs.declared.graph.Edge.{Edge}
use Rattle.vx_flow.specs.Effects.{IsIn}
use Rattle.vx_trace.specs.Growing.{BestOf}
use Rattle.vx_trace.specs.Picked.{count_of_edge}
use Rattle.vx_trace.proofs.heaviest.best_in.Given as goal

abbrev pub invariant-loop-edge : goal.invariant-loop-edge
invariant-loop-edge l = BestOf (λ (e : Edge). IsIn e (take l.edge-index l.edges) × (e.to ≡ l.block)) (count_of_edge l.mixed l.counts) (λ (e : Edge). e.from) l.best
