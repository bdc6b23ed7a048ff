-- Blocks of the worked `if` without `else` replaced with no block made: block 1 by itself, a region of one word; and blocks 0
-- and 1, between which an edge leads.
use Rattle.std.specs.Prelude.{◌≡◌, ℕ, List, [], ◌∷◌}
use Rattle.vx_flow.specs.declared.graph.Graph.{Graph}
use Rattle.vx_mixed.specs.declared.mixed.MixedGraph.{MixedGraph}
use Rattle.vx_mixed.specs.CanReplace.{CanReplace}
use Rattle.vx_mixed.specs.FromGraph.{FromGraph}
use Rattle.vx_mixed.specs.declared.replacement.Replacement.{Replacement}
use Rattle.vx_motion.specs.ReplaceExample.{if_homes}
use Rattle.vx_motion.specs.TraceExample.{if_banks, if_blocks}
use Rattle.vx_mixed.specs.TraceOf.{CanTrace, IsTraceOf}

abbrev pub alone : List ℕ
alone = 1 ∷ []

-- its operation in word 0, on cluster 0
pub record IsAlone (r : Replacement) : Type 0 where
  pub clusters : r.clusters ≡ 0 ∷ []
  pub words : r.words ≡ 0 ∷ []
  pub long : r.length ≡ 1
  pub drains : r.drains ≡ []
  pub rejoins : r.rejoins ≡ []
  pub made : r.made ≡ []
  pub homes : r.homes.clusters ≡ if_homes

-- it can be traced
abbrev pub BlockIsTraced : Type 0
BlockIsTraced = (graph : Graph) (m : MixedGraph) → graph.blocks ≡ if_blocks → FromGraph graph m → CanTrace m alone

-- and replaced so
abbrev pub BlockIsReplaced : Type 0
BlockIsReplaced =
    (graph : Graph) (m : MixedGraph) (r : Replacement) → graph.blocks ≡ if_blocks → graph.banks ≡ if_banks → FromGraph graph m → IsTraceOf m alone r.trace → IsAlone r → CanReplace m r

-- Blocks 0 and 1

abbrev pub two : List ℕ
two = 0 ∷ 1 ∷ []

-- three words, with the split in word 1, on cluster 0
pub record IsPair (r : Replacement) : Type 0 where
  pub clusters : r.clusters ≡ 0 ∷ 0 ∷ 0 ∷ 0 ∷ []
  pub words : r.words ≡ 0 ∷ 0 ∷ 1 ∷ 2 ∷ []
  pub long : r.length ≡ 3
  pub drains : r.drains ≡ 0 ∷ []
  pub rejoins : r.rejoins ≡ []
  pub made : r.made ≡ []
  pub homes : r.homes.clusters ≡ if_homes

-- they can be traced
abbrev pub PairIsTraced : Type 0
PairIsTraced = (graph : Graph) (m : MixedGraph) → graph.blocks ≡ if_blocks → FromGraph graph m → CanTrace m two

-- and replaced so
abbrev pub PairIsReplaced : Type 0
PairIsReplaced =
    (graph : Graph) (m : MixedGraph) (r : Replacement) → graph.blocks ≡ if_blocks → graph.banks ≡ if_banks → FromGraph graph m → IsTraceOf m two r.trace → IsPair r → CanReplace m r
