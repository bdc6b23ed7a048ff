-- The trace of the worked region, of its three blocks.
use Rattle.std.specs.Prelude.{◌≡◌, ℕ, List, [], ◌∷◌}
use Rattle.vx_flow.specs.declared.graph.Bank.{Bank}
use Rattle.vx_flow.specs.declared.graph.Bank.TheVariants.{General, Branch}
use Rattle.vx_flow.specs.declared.graph.Block.{Block}
use Rattle.vx_flow.specs.declared.graph.Exit.TheVariants.{Goto, Split, Return}
use Rattle.vx_flow.specs.declared.graph.Graph.{Graph}
use Rattle.vx_flow.specs.declared.graph.Operand.TheVariants.{Held}
use Rattle.vx_flow.specs.Walk.{edge}
use Rattle.vx_mixed.specs.declared.mixed.MixedGraph.{MixedGraph}
use Rattle.vx_motion.specs.Example.{old, sum, test, step, product, total}
use Rattle.vx_mixed.specs.FromGraph.{FromGraph}
use Rattle.vx_motion.specs.NextExample.{trace}
use Rattle.vx_mixed.specs.TraceOf.{CanTrace, trace_ops, trace_fixed, trace_joins}
use Rattle.vx_mixed.specs.Valid.{CanBegin}

-- behind the split v1, v2 and v3 are live
abbrev pub live : ℕ → List ℕ
live b = 1 ∷ 2 ∷ 3 ∷ []

pub record IsItsTrace : Type 0 where
  pub ops : trace.ops ≡ trace_ops old live (0 ∷ 1 ∷ 2 ∷ [])
  pub fixed : trace.fixed ≡ trace_fixed old live (0 ∷ 1 ∷ 2 ∷ [])
  pub joins : trace.joins ≡ trace_joins old live (edge 0 1 ∷ edge 0 3 ∷ edge 1 2 ∷ edge 3 2 ∷ []) (0 ∷ 1 ∷ 2 ∷ [])

-- the graph of those blocks

abbrev pub if_blocks : List Block
if_blocks =
    record { ops = sum ∷ test ∷ []; exit = Split 6 1 3 }
    ∷ record { ops = step ∷ []; exit = Goto 2 }
    ∷ record { ops = product ∷ total ∷ []; exit = Return (Held 5) }
    ∷ record { ops = []; exit = Goto 2 }
    ∷ []

abbrev pub if_banks : List Bank
if_banks = General ∷ General ∷ General ∷ General ∷ General ∷ General ∷ Branch ∷ []

-- it can begin, and then these blocks can be traced
pub record IfIsTraced : Type 0 where
  pub begins : (graph : Graph) → graph.blocks ≡ if_blocks → graph.banks ≡ if_banks → CanBegin graph
  pub traces : (graph : Graph) (m : MixedGraph) → graph.blocks ≡ if_blocks → FromGraph graph m → CanTrace m (0 ∷ 1 ∷ 2 ∷ [])
