-- Whether a graph has its shape, as a test of each block by itself, of the order of blocks, and of a list of the blocks that
-- the edges come from.
use Rattle.std.specs.Prelude.{◌≡◌, ◌==◌, ℕ, suc, Bool, true, false, ◌&&◌, ◌||◌, not, nat_le, Option, Some, None, List, [], ◌∷◌, length, slice_get}
use Rattle.std.specs.List.{list_all}
use Rattle.vx_base.specs.declared.outcome.Trap.{Trap}
use Rattle.vx_base.specs.declared.outcome.Trap.TheVariants.{Divide, Index, Input, Depth}
use Rattle.vx_flow.specs.declared.graph.Op.{Op}
use Rattle.vx_flow.specs.declared.graph.Exit.{Exit}
use Rattle.vx_flow.specs.declared.graph.Exit.TheVariants.{Goto, Split, Call, Return, Ends}
use Rattle.vx_flow.specs.declared.graph.Block.{Block}
use Rattle.vx_flow.specs.declared.graph.Graph.{Graph}
use Rattle.vx_flow.specs.Sound.{targets_of}
use Rattle.vx_shape.specs.Shape.{Shaped}

-- each block by itself

abbrev pub is_none_left : List Op → Bool
is_none_left [] = true
is_none_left (op ∷ ops) = false

abbrev pub is_trap : Exit → Bool
is_trap (Goto c) = false
is_trap (Split p c d) = false
is_trap (Call f arguments result c) = false
is_trap (Return x) = false
is_trap (Ends k) = true

abbrev pub is_apart : Exit → Bool
is_apart (Goto c) = true
is_apart (Split p c d) = not (c == d)
is_apart (Call f arguments result c) = true
is_apart (Return x) = true
is_apart (Ends k) = true

-- few operations, none before a trap, no edge to the entry, and two sides of a split that are two blocks
abbrev pub is_shaped_block : Block → Bool
is_shaped_block block = nat_le (length block.ops) 512 && (not (is_trap block.exit) || is_none_left block.ops) && is_apart block.exit && list_all (λ c. not (c == 0)) (targets_of block.exit)

-- the order of blocks

-- once a block ends by a trap, each later one does
abbrev pub are_traps_last : (behind : Bool) → List Block → Bool
are_traps_last behind [] = true
are_traps_last behind (block ∷ blocks) = (not behind || is_trap block.exit) && are_traps_last (behind || is_trap block.exit) blocks

abbrev pub is_trap_of : Trap → Exit → Bool
is_trap_of k (Goto c) = false
is_trap_of k (Split p c d) = false
is_trap_of k (Call f arguments result c) = false
is_trap_of k (Return x) = false
is_trap_of Divide (Ends Divide) = true
is_trap_of Index (Ends Index) = true
is_trap_of Input (Ends Input) = true
is_trap_of Depth (Ends Depth) = true
is_trap_of k (Ends j) = false

-- no later block ends by the same trap
abbrev pub is_trap_alone : Exit → List Block → Bool
is_trap_alone (Goto c) blocks = true
is_trap_alone (Split p c d) blocks = true
is_trap_alone (Call f arguments result c) blocks = true
is_trap_alone (Return x) blocks = true
is_trap_alone (Ends k) blocks = list_all (λ (block : Block). not (is_trap_of k block.exit)) blocks

abbrev pub are_traps_alone : List Block → Bool
are_traps_alone [] = true
are_traps_alone (block ∷ blocks) = is_trap_alone block.exit blocks && are_traps_alone blocks

-- edges: the list has, for each block, the one block that edges come from, or a number for many

abbrev pub is_this : ℕ → Option ℕ → Bool
is_this b None = false
is_this b (Some c) = c == b

abbrev pub is_noted : (many b : ℕ) → Option ℕ → Bool
is_noted many b None = false
is_noted many b (Some c) = (c == b) || (c == many)

-- block b is the only one before each side of its split, and is noted before each other block that it leads to
abbrev pub is_uncritical : (origins : List ℕ) (many b : ℕ) → Exit → Bool
is_uncritical origins many b (Goto c) = is_noted many b (slice_get origins c)
is_uncritical origins many b (Split p c d) = is_this b (slice_get origins c) && is_this b (slice_get origins d)
is_uncritical origins many b (Call f arguments result c) = is_noted many b (slice_get origins c)
is_uncritical origins many b (Return x) = true
is_uncritical origins many b (Ends k) = true

-- from block b on
abbrev pub are_uncritical : (origins : List ℕ) (many b : ℕ) → List Block → Bool
are_uncritical origins many b [] = true
are_uncritical origins many b (block ∷ blocks) = is_uncritical origins many b block.exit && are_uncritical origins many (suc b) blocks

abbrev pub is_shaped : (origins : List ℕ) → List Block → Bool
is_shaped origins blocks = list_all is_shaped_block blocks && are_traps_last false blocks && are_traps_alone blocks && are_uncritical origins (length blocks) 0 blocks

abbrev pub ShapedWhereTested : Type 0
ShapedWhereTested = (g : Graph) (origins : List ℕ) → is_shaped origins g.blocks ≡ true → Shaped g
