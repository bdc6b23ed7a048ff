-- The flow with another graph, and blocks with those of their edges.
use Rattle.std.specs.Prelude.{ℕ, List, map, slice_set}
use Rattle.vx_flow.specs.declared.graph.Bank.{Bank}
use Rattle.vx_flow.specs.declared.graph.Block.{Block}
use Rattle.vx_flow.specs.declared.graph.Graph.{Graph}
use Rattle.vx_flow.specs.declared.graph.Flow.{Flow}
use Rattle.vx_shape.specs.Flows.{with_graphs}
use Rattle.vx_inline.specs.Inlined.{critical, with_edges}

-- the flow with another graph for a function
abbrev pub with_graph : Flow → ℕ → Graph → Flow
with_graph flow f graph = with_graphs flow (slice_set flow.functions f graph)

abbrev pub linked_by : (all : ℕ) → List Block → List Block
linked_by all blocks = with_edges all (critical blocks 0 blocks) blocks

-- the banks of the values of each function
abbrev pub banks_of : Flow → List (List Bank)
banks_of flow = map (λ (g : Graph). g.banks) flow.functions
