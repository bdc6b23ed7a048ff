-- The lesser of two numbers, worked by hand: a split that moves one of them on each side becomes one block with a choice; where
-- two operations are too many, or no two values are free, it stays as it is.
use Rattle.std.specs.Prelude.{ℕ, pos, List, [], ◌∷◌}
use Rattle.vx_base.specs.declared.arithmetic.Code.TheVariants.{Mov, ToBranch}
use Rattle.vx_base.specs.declared.arithmetic.Compare.TheVariants.{Lt}
use Rattle.vx_flow.specs.declared.graph.Bank.{Bank}
use Rattle.vx_flow.specs.declared.graph.Bank.TheVariants.{General, Branch}
use Rattle.vx_flow.specs.declared.graph.Block.{Block}
use Rattle.vx_flow.specs.declared.graph.Exit.TheVariants.{Goto, Split, Return}
use Rattle.vx_flow.specs.declared.graph.Graph.{Graph}
use Rattle.vx_flow.specs.declared.graph.Op.{Op}
use Rattle.vx_flow.specs.declared.graph.Op.TheVariants.{Compute, Select}
use Rattle.vx_flow.specs.declared.graph.Operand.TheVariants.{Held, Number}
use Rattle.vx_select.specs.Selected.{Selects}

abbrev pub compare : Op
compare = Compute (ToBranch Lt) 5 (Held 0) (Held 1)

abbrev pub move : (to from : ℕ) → Op
move to from = Compute Mov to (Held from) (Number (pos 0))

abbrev pub lesser_blocks : List Block
lesser_blocks =
    record { ops = compare ∷ []; exit = Split 5 1 2 }
    ∷ record { ops = move 2 0 ∷ []; exit = Goto 3 }
    ∷ record { ops = move 2 1 ∷ []; exit = Goto 3 }
    ∷ record { ops = []; exit = Return (Held 2) }
    ∷ []

abbrev pub with_banks : List Bank → List Block → Graph
with_banks banks blocks = record { blocks = blocks; banks = banks; parameters = 0 ∷ 1 ∷ []; arrays = [] }

abbrev pub five : List Bank
five = General ∷ General ∷ General ∷ General ∷ General ∷ Branch ∷ []

-- value 4 is no general one
abbrev pub four : List Bank
four = General ∷ General ∷ General ∷ General ∷ Branch ∷ Branch ∷ []

abbrev pub chosen_blocks : List Block
chosen_blocks =
    record { ops = compare ∷ move 3 0 ∷ move 4 1 ∷ Select 2 5 (Held 3) (Held 4) ∷ []; exit = Goto 1 }
    ∷ record { ops = []; exit = Return (Held 2) }
    ∷ []

pub record LesserIsChosen : Type 0 where
  pub with_two : Selects 2 (with_banks five lesser_blocks) (with_banks five chosen_blocks)
  pub with_one : Selects 1 (with_banks five lesser_blocks) (with_banks five lesser_blocks)
  pub without_room : Selects 2 (with_banks four lesser_blocks) (with_banks four lesser_blocks)
