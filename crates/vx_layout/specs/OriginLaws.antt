-- A graph of blocks and regions has the code of a function's graph from its begin on, whatever is replaced.
use Rattle.std.specs.Prelude.{◌≡◌, true}
use Rattle.vx_flow.specs.declared.graph.Op.{Op}
use Rattle.vx_flow.specs.declared.graph.Graph.{Graph}
use Rattle.vx_flow.specs.Sound.{is_sound}
use Rattle.vx_mixed.specs.declared.mixed.MixedGraph.{MixedGraph}
use Rattle.vx_mixed.specs.declared.replacement.Replacement.{Replacement}
use Rattle.vx_mixed.specs.CanReplace.{CanReplace, IsNamed}
use Rattle.vx_mixed.specs.FromGraph.{FromGraph}
use Rattle.vx_mixed.specs.Next.{next_mixed}
use Rattle.vx_layout.specs.Origins.{ComesFrom, ComesFromGraph}
use Rattle.vx_mixed.specs.Valid.{Valid}

-- it begins with the code
abbrev pub BeginsWithCode : Type 0
BeginsWithCode = (graph : Graph) (m : MixedGraph) → is_sound graph ≡ true → FromGraph graph m → ComesFromGraph graph m

-- and keeps it where the operations of the replacement come from the graph
abbrev pub CodeStays : Type 0
CodeStays =
    (graph : Graph) (m : MixedGraph) (r : Replacement) → Valid m → CanReplace m r → ((op : Op) → IsNamed r op → ComesFrom graph op) → ComesFromGraph graph m → ComesFromGraph graph (next_mixed m r)
