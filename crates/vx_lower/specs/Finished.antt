-- The finished blocks of a graph: each block that was made, and behind them one empty block for each kind of trap that
-- a block ends by.
use Rattle.std.specs.Prelude.{◌≡◌, ℕ, ◌+◌, ◌<◌, ◌≤◌, pos, Bool, false, not, if◌then◌else◌, nat_eq, Option, Some, None, List, [], ◌∷◌, ◌++◌, length, map, slice_get}
use Rattle.std.specs.List.{list_any, prefix_len}
use Rattle.vx_base.specs.declared.outcome.Trap.{Trap}
use Rattle.vx_base.specs.declared.outcome.Trap.TheVariants.{Divide, Index, Input, Depth}
use Rattle.vx_flow.specs.declared.graph.Operand.TheVariants.{Number}
use Rattle.vx_flow.specs.declared.graph.Exit.{Exit}
use Rattle.vx_flow.specs.declared.graph.Exit.TheVariants.{Goto, Split, Call, Return, Ends}
use Rattle.vx_flow.specs.declared.graph.Block.{Block}
use Rattle.vx_lower.specs.Holds.{ends, jump}

-- what is said of finished blocks

-- block b ends by this trap
pub record TrapsAt (blocks : List Block) (b : ℕ) (k : Trap) : Type 0 where
  pub block : Block
  pub has : slice_get blocks b ≡ Some block
  pub ends : block.exit ≡ Ends k

-- a trap block is empty, is the only one of its kind, and only trap blocks come behind it
pub record TrapsLast (blocks : List Block) : Type 0 where
  pub empty : (b : ℕ) (k : Trap) → (e : TrapsAt blocks b k) → e.block.ops ≡ []
  pub alone : (b c : ℕ) (k : Trap) → TrapsAt blocks b k → TrapsAt blocks c k → b ≡ c
  pub last : (b c : ℕ) (k : Trap) → TrapsAt blocks b k → b < c → c < length blocks → (j : Trap) × TrapsAt blocks c j

-- no block has more than 512 operations
pub record AreShort (blocks : List Block) : Type 0 where
  pub short : (b : ℕ) (block : Block) → slice_get blocks b ≡ Some block → length block.ops ≤ 512

-- the same of the blocks that were made
pub record WereShort (slots : List (Option Block)) : Type 0 where
  pub short : (b : ℕ) (block : Block) → slice_get slots b ≡ Some (Some block) → length block.ops ≤ 512

-- a block that was made ends by this trap
pub record IsUsed (slots : List (Option Block)) (k : Trap) : Type 0 where
  pub place : ℕ
  pub block : Block
  pub has : slice_get slots place ≡ Some (Some block)
  pub ends : block.exit ≡ Ends k

-- the finished blocks

abbrev pub number_of : Trap → ℕ
number_of Divide = 0
number_of Index = 1
number_of Input = 2
number_of Depth = 3

abbrev pub is_kind : Trap → Trap → Bool
is_kind k j = nat_eq (number_of k) (number_of j)

abbrev pub exit_traps : Trap → Exit → Bool
exit_traps k (Goto c) = false
exit_traps k (Split t y z) = false
exit_traps k (Call f os r next) = false
exit_traps k (Return o) = false
exit_traps k (Ends j) = is_kind j k

abbrev pub traps_by : Trap → Option Block → Bool
traps_by k None = false
traps_by k (Some block) = exit_traps k block.exit

-- the kind, where a block ends by it
abbrev pub where_used : List (Option Block) → Trap → List Trap
where_used slots k = if list_any (traps_by k) slots then k ∷ [] else []

-- the kinds that blocks end by
abbrev pub kinds_in : List (Option Block) → List Trap
kinds_in slots = where_used slots Divide ++ (where_used slots Index ++ (where_used slots Input ++ where_used slots Depth))

-- the place of a kind among others
abbrev pub place_in : List Trap → Trap → ℕ
place_in kinds k = prefix_len (λ j. not (is_kind j k)) kinds

-- a block with a jump in place of its trap, whose kinds stand from place n on; one that was not made returns 0

abbrev pub settled_exit : ℕ → List Trap → Block → Exit → Block
settled_exit n kinds block (Goto c) = block
settled_exit n kinds block (Split t y z) = block
settled_exit n kinds block (Call f os r next) = block
settled_exit n kinds block (Return o) = block
settled_exit n kinds block (Ends k) = jump (n + place_in kinds k)

abbrev pub settled : ℕ → List Trap → Option Block → Block
settled n kinds None = ends (Return (Number (pos 0)))
settled n kinds (Some block) = settled_exit n kinds block block.exit

abbrev pub trap_block : Trap → Block
trap_block k = ends (Ends k)

abbrev pub finished : List (Option Block) → List Block
finished slots = map (settled (length slots) (kinds_in slots)) slots ++ map trap_block (kinds_in slots)
