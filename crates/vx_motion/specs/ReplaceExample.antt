-- The worked `if` without `else` replaced, with the trace of its blocks and the numbers of the worked region.
use Rattle.std.specs.Prelude.{◌≡◌, ℕ, Option, Some, List, [], ◌∷◌}
use Rattle.vx_flow.specs.declared.graph.Graph.{Graph}
use Rattle.vx_mixed.specs.declared.mixed.MixedGraph.{MixedGraph}
use Rattle.vx_mixed.specs.CanReplace.{CanReplace}
use Rattle.vx_mixed.specs.FromGraph.{FromGraph}
use Rattle.vx_mixed.specs.declared.replacement.Replacement.{Replacement}
use Rattle.vx_motion.specs.NextExample.{replacement}
use Rattle.vx_motion.specs.TraceExample.{if_banks, if_blocks}
use Rattle.vx_mixed.specs.TraceOf.{IsTraceOf}

-- all on cluster 0
abbrev pub if_homes : List (Option ℕ)
if_homes = Some 0 ∷ Some 0 ∷ Some 0 ∷ Some 0 ∷ Some 0 ∷ Some 0 ∷ Some 0 ∷ []

pub record IsWorked (r : Replacement) : Type 0 where
  pub clusters : r.clusters ≡ replacement.clusters
  pub words : r.words ≡ replacement.words
  pub long : r.length ≡ 5
  pub drains : r.drains ≡ replacement.drains
  pub rejoins : r.rejoins ≡ replacement.rejoins
  pub made : r.made ≡ replacement.made
  pub homes : r.homes.clusters ≡ if_homes

-- it can be replaced so
abbrev pub IfIsReplaced : Type 0
IfIsReplaced =
    (graph : Graph) (m : MixedGraph) (r : Replacement) → graph.blocks ≡ if_blocks → graph.banks ≡ if_banks → FromGraph graph m → IsTraceOf m (0 ∷ 1 ∷ 2 ∷ []) r.trace → IsWorked r → CanReplace m r
