-- A flow of a program stays one where each of its graphs is exchanged for one that is that graph cleaned.
use Rattle.std.specs.Prelude.{◌≡◌, ℕ, true, List}
use Rattle.vx_ast.specs.Tree.{Function, Program}
use Rattle.vx_flow.specs.declared.graph.Graph.{Graph}
use Rattle.vx_flow.specs.declared.graph.Flow.{Flow}
use Rattle.vx_flow.specs.Sound.{is_sound_flow}
use Rattle.vx_lower.specs.FlowOf.{GraphOf}
use Rattle.vx_clean.specs.Cleaning.{Place, GraphCleaned}
use Rattle.vx_shape.specs.Flows.{with_graphs, Each, FlowStays}

-- the new graph is the old one cleaned, and keeps the shape that the graph of a function has
pub record GraphStays (old new : Graph) : Type 0 where
  pub at : ℕ → List Place
  pub cleaned : GraphCleaned at old new
  pub shape : (p : Program) (function : Function) → GraphOf p function old → GraphOf p function new

abbrev pub StaysByGraphs : Type 0
StaysByGraphs = (flow : Flow) (graphs : List Graph) → Each GraphStays flow.functions graphs → is_sound_flow (with_graphs flow graphs) ≡ true → FlowStays flow (with_graphs flow graphs)
