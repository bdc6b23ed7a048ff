-- Where a split may leave: a block to which a block in no region goes, and that block goes to another one too. What is live there
-- is the same before and after a step.
use Rattle.std.specs.Prelude.{◌≡◌, ◌≢◌, ◌↔◌, ℕ, Some, List, slice_get}
use Rattle.vx_flow.specs.declared.graph.Block.{Block}
use Rattle.vx_flow.specs.Effects.{IsIn}
use Rattle.vx_flow.specs.Sound.{targets_of}
use Rattle.vx_mixed.specs.declared.region.Node.TheVariants.{Unused}
use Rattle.vx_mixed.specs.declared.mixed.MixedGraph.{MixedGraph}
use Rattle.vx_mixed.specs.Live.{Live}

pub record IsOffEnd (m : MixedGraph) (b : ℕ) : Type 0 where
  pub from : ℕ
  pub besides : ℕ
  pub block : Block
  pub at : slice_get m.nodes from ≡ Some (Unused block)
  pub to : IsIn b (targets_of block.exit)
  pub to_other : IsIn besides (targets_of block.exit)
  pub apart : b ≢ besides

-- the lists tell which values are live there
abbrev pub TellsLive : MixedGraph → (ℕ → List ℕ) → Type 0
TellsLive m live = (b v : ℕ) → IsOffEnd m b → (IsIn v (live b) ↔ Live m b v)
