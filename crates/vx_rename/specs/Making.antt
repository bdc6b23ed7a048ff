-- How the graph under names is made and tested, step after step, and the rows in which it is kept where old values stand.
use Rattle.std.specs.Prelude.{◌≡◌, ◌≤◌, ◌==◌, ◌&&◌, not, ℕ, Bool, true, List, Option, slice_index_or}
use Rattle.vx_flow.specs.declared.graph.Op.{Op}
use Rattle.vx_flow.specs.declared.graph.Exit.{Exit}
use Rattle.vx_flow.specs.declared.graph.Block.{Block}
use Rattle.vx_rename.specs.declared.names.BlockNames.{BlockNames}
use Rattle.vx_rename.specs.Renaming.{Standing, no_name, put_if, result_of, renamed_one, renamed_exit, behind_op, behind, renamed_ops, leaving, renamed_block, renamed_blocks, op_stands, ops_stand, exit_stands, block_stands, blocks_stand}

abbrev pub name_in : List ℕ → ℕ → ℕ
name_in names v = slice_index_or names v 0

-- The rows: the name of each old value, and, as all that names are given is numbered, the number of what each value has, 0 if it has
-- nothing, and of what each name was given last; then the greatest number.
pub record Numbered : Type 0 where
  pub names : List ℕ
  pub had : List ℕ
  pub given : List ℕ
  pub last : ℕ

-- no number is greater
pub record AreNumbers (had given : List ℕ) (last : ℕ) : Type 0 where
  pub of_values : (v : ℕ) → name_in had v ≤ last
  pub of_names : (w : ℕ) → name_in given w ≤ last

-- what a value has is what its name was given last
abbrev pub are_one : ℕ → ℕ → Bool
are_one had given = not (had == 0) && (had == given)

abbrev pub standing : Numbered → Standing
standing r = record { name = name_in r.names; stands = λ v. are_one (name_in r.had v) (name_in r.given (name_in r.names v)) }

-- one operation was tested, and made or left out
pub record OpMade (before : Standing) (w : Option ℕ) (op : Op) (made : Option Op) (after : Standing) : Type 0 where
  pub stand : op_stands before w op ≡ true
  pub is : made ≡ renamed_one before w op
  pub later : after ≡ behind_op before w op

-- several were
pub record OpsMade (before : Standing) (ws : List (Option ℕ)) (ops made : List Op) (after : Standing) : Type 0 where
  pub stand : ops_stand before ws ops ≡ true
  pub is : made ≡ renamed_ops before ws ops
  pub later : after ≡ behind before ws ops

-- an exit stands, and the result of a call was put
pub record ExitLeads (at : ℕ → BlockNames) (before : Standing) (w : ℕ) (exit : Exit) (after : Standing) : Type 0 where
  pub stand : exit_stands at before w exit ≡ true
  pub later : after ≡ put_if before (result_of exit) w

-- an exit was tested and made, behind operations
pub record ExitMade (at : ℕ → BlockNames) (before : Standing) (w : ℕ) (exit : Exit) (ops : List Op) (made : Block) (after : Standing) : Type 0 where
  pub leads : ExitLeads at before w exit after
  pub is : made ≡ record { ops = ops; exit = renamed_exit before.name w exit }

-- a block was, with the names that were given before and behind it
pub record BlockMade (at : ℕ → BlockNames) (before : ℕ → ℕ) (names : BlockNames) (block made : Block) (after : ℕ → ℕ) : Type 0 where
  pub stand : block_stands at before names block ≡ true
  pub is : made ≡ renamed_block before names block
  pub later : after ≡ leaving before names block

-- all blocks were
pub record BlocksMade (at : ℕ → BlockNames) (blocks made : List Block) : Type 0 where
  pub stand : blocks_stand at no_name 0 blocks ≡ true
  pub is : made ≡ renamed_blocks at no_name 0 blocks
