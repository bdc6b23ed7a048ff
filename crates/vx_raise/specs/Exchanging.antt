-- A graph in which two neighbouring operations of a block are exchanged: when they may be.
use Rattle.std.specs.Prelude.{◌≡◌, ℕ, zero, suc, ◌==◌, Bool, true, false, ◌&&◌, not, Option, Some, None, List, [], ◌∷◌, slice_get}
use Rattle.std.specs.List.{list_all}
use Rattle.std.specs.Option.{is_some}
use Rattle.vx_flow.specs.declared.graph.Op.{Op}
use Rattle.vx_flow.specs.declared.graph.Op.TheVariants.{Load, Store}
use Rattle.vx_flow.specs.declared.graph.Array.{Array}
use Rattle.vx_flow.specs.declared.graph.Block.{Block}
use Rattle.vx_flow.specs.declared.graph.Graph.{Graph}
use Rattle.vx_flow.specs.Apart.{may_meet}
use Rattle.vx_flow.specs.Effects.{reads, writes}
use Rattle.vx_raise.specs.Raising.{result_of}

-- operation k and the one behind it, exchanged
abbrev pub exchanged_ops : ℕ → List Op → List Op
exchanged_ops k [] = []
exchanged_ops zero (x ∷ []) = x ∷ []
exchanged_ops zero (x ∷ y ∷ ops) = y ∷ x ∷ ops
exchanged_ops (suc k) (x ∷ ops) = x ∷ exchanged_ops k ops

abbrev pub exchanged_block : ℕ → Block → Block
exchanged_block k block = record { ops = exchanged_ops k block.ops; exit = block.exit }

-- in block b
abbrev pub exchanged_blocks : (b k : ℕ) → List Block → List Block
exchanged_blocks b k [] = []
exchanged_blocks zero k (block ∷ blocks) = exchanged_block k block ∷ blocks
exchanged_blocks (suc b) k (block ∷ blocks) = block ∷ exchanged_blocks b k blocks

abbrev pub exchanged : Graph → (b k : ℕ) → Graph
exchanged g b k = record g { blocks = exchanged_blocks b k g.blocks }

abbrev pub are_apart : List ℕ → List ℕ → Bool
are_apart vs ws = list_all (λ v. list_all (λ w. not (w == v)) ws) vs

-- the array that an operation loads from, and that it stores to

abbrev pub loaded_from : Op → Option ℕ
loaded_from (Load v a p dismissible) = Some a
loaded_from op = None

abbrev pub stored_to : Op → Option ℕ
stored_to (Store a p x) = Some a
stored_to op = None

-- of two arrays, where both are there, that they may share a word
abbrev pub meet : List Array → Option ℕ → Option ℕ → Bool
meet arrays (Some a) (Some b) = may_meet arrays a b
meet arrays a b = false

-- y, which stands behind x, may stand before it: it only writes a value, neither of them touches what the other writes, and no load
-- passes a store to an array that may share a word with its own
abbrev pub may_pass : List Array → Op → Op → Bool
may_pass arrays x y =
    is_some (result_of y) && are_apart (writes y) (reads x) && are_apart (writes y) (writes x) && are_apart (writes x) (reads y) && not (meet arrays (loaded_from y) (stored_to x))

abbrev pub can_exchange_ops : List Array → ℕ → List Op → Bool
can_exchange_ops arrays k [] = false
can_exchange_ops arrays zero (x ∷ []) = false
can_exchange_ops arrays zero (x ∷ y ∷ ops) = may_pass arrays x y
can_exchange_ops arrays (suc k) (x ∷ ops) = can_exchange_ops arrays k ops

abbrev pub can_exchange_in : List Array → ℕ → Option Block → Bool
can_exchange_in arrays k None = false
can_exchange_in arrays k (Some block) = can_exchange_ops arrays k block.ops

abbrev pub can_exchange : Graph → (b k : ℕ) → Bool
can_exchange g b k = can_exchange_in g.arrays k (slice_get g.blocks b)

-- the new graph is the old one with two operations exchanged
pub record GraphExchanged (old new : Graph) : Type 0 where
  pub block : ℕ
  pub place : ℕ
  pub can : can_exchange old block place ≡ true
  pub is : new ≡ exchanged old block place
