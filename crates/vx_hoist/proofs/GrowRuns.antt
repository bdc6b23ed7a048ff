-- Runs of a flow with more silent operations come to the same, at every bound.
use Rattle.std.proofs.Common.{slice_get}
use Rattle.vx_flow.specs.declared.graph.Graph.{Graph}
use Rattle.vx_shape.proofs.Pairs.{each_at}
use Rattle.vx_shape.proofs.FlowsAlike.{Holds, GraphAlike, runs_alike}
use Rattle.vx_hoist.specs.Growing.{BlockGrows, GraphGrows, GrownRuns}
use Rattle.vx_hoist.proofs.Grows.{Lives, at_alike}

graph_alike : (g h : Graph) (grow : GraphGrows g h) → GraphAlike (Holds (Lives grow.unread)) g h
graph_alike g h grow = record {
  blocks = h.blocks;
  is = grow.is;
  entry = λ ns v n l e. e;
  hops = λ setting b s t w a. at_alike grow.unread setting b (slice_get g.blocks b) (slice_get h.blocks b) (each_at (BlockGrows grow.unread) g.blocks h.blocks grow.blocks b) s t (record { world = w; values = a });
}

pub grown_runs : GrownRuns
grown_runs flow graphs grows input safe n = runs_alike GraphGrows (λ g h grow. Holds (Lives grow.unread)) graph_alike flow graphs grows input safe n
