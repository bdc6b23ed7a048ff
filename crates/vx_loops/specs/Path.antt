-- Ways through a graph along its edges, and how many edges lead to a block.
use Rattle.std.specs.Prelude.{◌≡◌, ℕ, List, [], ◌∷◌, ◌++◌, Some, slice_get}
use Rattle.std.specs.List.{flat_map}
use Rattle.vx_flow.specs.declared.graph.Block.{Block}
use Rattle.vx_flow.specs.declared.graph.Exit.TheVariants.{Goto}
use Rattle.vx_flow.specs.Effects.{IsIn}
use Rattle.vx_flow.specs.Sound.{Leads, targets_of}

-- a list of blocks from the first to the last, where an edge leads from each to the next
pub data Way (blocks : List Block) (first : ℕ) : ℕ → List ℕ → Type 0 where
  begun : Way blocks first first (first ∷ [])
  longer : {last next : ℕ} {way : List ℕ} → Way blocks first last way → Leads blocks last next → Way blocks first next (way ++ next ∷ [])

-- the list is such a way, wherever it ends
abbrev pub HasWay : List Block → ℕ → List ℕ → Type 0
HasWay blocks first way = (last : ℕ) × Way blocks first last way

-- each of some numbers is one of all
abbrev pub EachFrom : List ℕ → List ℕ → Type 0
EachFrom all some = (b : ℕ) → IsIn b some → IsIn b all

-- a block is there and ends by a jump to another
pub record Jumps (blocks : List Block) (place next : ℕ) : Type 0 where
  pub block : Block
  pub there : slice_get blocks place ≡ Some block
  pub jumps : block.exit ≡ Goto next

-- where the edges of a graph lead, one after the other
abbrev pub all_targets : List Block → List ℕ
all_targets blocks = flat_map (λ block. targets_of block.exit) blocks
