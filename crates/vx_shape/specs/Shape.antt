-- The shape that the graph of a function has.
use Rattle.std.specs.Prelude.{◌≡◌, ◌<◌, ◌≤◌, ℕ, [], length, slice_get, Some}
use Rattle.vx_base.specs.declared.outcome.Trap.{Trap}
use Rattle.vx_flow.specs.declared.graph.Exit.TheVariants.{Split}
use Rattle.vx_flow.specs.declared.graph.Block.{Block}
use Rattle.vx_flow.specs.declared.graph.Graph.{Graph}
use Rattle.vx_lower.specs.FlowOf.{EndsBy, IsEdge}

-- the shape of a graph by itself
pub record Shaped (g : Graph) : Type 0 where
  pub trap_empty : (b : ℕ) (k : Trap) → (e : EndsBy g b k) → e.block.ops ≡ []
  pub trap_alone : (b c : ℕ) (k : Trap) → EndsBy g b k → EndsBy g c k → b ≡ c
  pub traps_last : (b c : ℕ) (k : Trap) → EndsBy g b k → b < c → c < length g.blocks → (j : Trap) × EndsBy g c j
  pub short : (b : ℕ) (block : Block) → slice_get g.blocks b ≡ Some block → length block.ops ≤ 512
  pub apart : (b : ℕ) (block : Block) (test yes no : ℕ) → slice_get g.blocks b ≡ Some block → block.exit ≡ Split test yes no → yes ≡ no → ⊥
  pub uncritical : (b c d e : ℕ) → IsEdge g b c → IsEdge g b d → (c ≡ d → ⊥) → IsEdge g e d → e ≡ b
  pub entry : (b : ℕ) → IsEdge g b 0 → ⊥
