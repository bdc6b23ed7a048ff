-- Small graphs under other names: a loop of three blocks whose two temporaries share a name, operations that are left out, a value
-- with two names, moves within one name, and what the test refuses.
use Rattle.std.proofs.Common.{◌≡◌, ℕ, pos, true, false, Option, Some, None, List, [], ◌∷◌, map, refl}
use Rattle.vx_base.specs.declared.arithmetic.Code.TheVariants.{Add, Mov, ToBranch, Sh2add}
use Rattle.vx_base.specs.declared.arithmetic.Compare.TheVariants.{Lt}
use Rattle.vx_flow.specs.declared.graph.Bank.TheVariants.{General, Branch}
use Rattle.vx_flow.specs.declared.graph.Operand.TheVariants.{Held, Number}
use Rattle.vx_flow.specs.declared.graph.Op.{Op}
use Rattle.vx_flow.specs.declared.graph.Op.TheVariants.{Compute, Decimal, Input}
use Rattle.vx_flow.specs.declared.graph.Exit.{Exit}
use Rattle.vx_flow.specs.declared.graph.Exit.TheVariants.{Goto, Split, Call, Return}
use Rattle.vx_flow.specs.declared.graph.Block.{Block}
use Rattle.vx_flow.specs.declared.graph.Graph.{Graph}
use Rattle.vx_rename.specs.declared.names.Name.{Name}
use Rattle.vx_rename.specs.declared.names.BlockNames.{BlockNames}
use Rattle.vx_rename.specs.declared.names.GraphNames.{GraphNames}
use Rattle.vx_rename.specs.Renaming.{renamed, is_renaming}

abbrev block : List Op → Exit → Block
block ops exit = record { ops = ops; exit = exit }

abbrev name : ℕ → ℕ → Name
name old new = record { old = old; new = new }

abbrev names : List Name → List ℕ → BlockNames
names start written = record { start = start; written = map Some written; result = 0 }

-- Value 0 is the parameter, 1 counts, 2 is the test, 3 and 4 are the temporaries of a turn and 5 is one behind the loop:
-- 0: to 1; 1: to 2 or 3; 2: to 1; 3
abbrev loop : Graph
loop = record {
  blocks =
      block (Compute Add 1 (Held 0) (Number (pos 0)) ∷ []) (Goto 1)
      ∷ block (Compute (ToBranch Lt) 2 (Held 1) (Number (pos 9)) ∷ []) (Split 2 2 3)
      ∷ block (Compute Add 3 (Held 1) (Number (pos 1)) ∷ Compute Sh2add 4 (Held 3) (Held 1) ∷ Decimal (Held 4) ∷ Compute Add 1 (Held 3) (Number (pos 0)) ∷ []) (Goto 1)
      ∷ block (Compute Add 5 (Held 1) (Held 1) ∷ []) (Return (Held 5))
      ∷ [];
  banks = General ∷ General ∷ Branch ∷ General ∷ General ∷ General ∷ [];
  parameters = 0 ∷ [];
  arrays = [];
}

-- general values 0 and 1 and the test do: 3 and 5 stand at 1 in their turn, 4 at 0, where the parameter stood
abbrev short : GraphNames
short = record {
  blocks =
      names (name 0 0 ∷ []) (0 ∷ [])
      ∷ names (name 1 0 ∷ []) (2 ∷ [])
      ∷ names (name 1 0 ∷ []) (1 ∷ 0 ∷ 0 ∷ 0 ∷ [])
      ∷ names (name 1 0 ∷ []) (0 ∷ [])
      ∷ [];
  banks = General ∷ General ∷ Branch ∷ [];
  parameters = 0 ∷ [];
}

pub loop_is_renamed : is_renaming short loop ≡ true
loop_is_renamed = refl

pub loop_becomes : renamed short loop ≡ record {
  blocks =
      block (Compute Add 0 (Held 0) (Number (pos 0)) ∷ []) (Goto 1)
      ∷ block (Compute (ToBranch Lt) 2 (Held 0) (Number (pos 9)) ∷ []) (Split 2 2 3)
      ∷ block (Compute Add 1 (Held 0) (Number (pos 1)) ∷ Compute Sh2add 0 (Held 1) (Held 0) ∷ Decimal (Held 0) ∷ Compute Add 0 (Held 1) (Number (pos 0)) ∷ []) (Goto 1)
      ∷ block (Compute Add 0 (Held 0) (Held 0) ∷ []) (Return (Held 0))
      ∷ [];
  banks = General ∷ General ∷ Branch ∷ [];
  parameters = 0 ∷ [];
  arrays = [];
}
loop_becomes = refl

-- 3 may not stand where 1 does, which is read once more
abbrev mixed : GraphNames
mixed = record short {
  blocks =
      names (name 0 0 ∷ []) (0 ∷ [])
      ∷ names (name 1 0 ∷ []) (2 ∷ [])
      ∷ names (name 1 0 ∷ []) (0 ∷ 1 ∷ 0 ∷ 0 ∷ [])
      ∷ names (name 1 0 ∷ []) (0 ∷ [])
      ∷ [];
}

pub neighbours_may_not_share : is_renaming mixed loop ≡ false
neighbours_may_not_share = refl

-- nor may a turn leave the count elsewhere than the next one finds it
abbrev moved : GraphNames
moved = record short {
  blocks =
      names (name 0 0 ∷ []) (0 ∷ [])
      ∷ names (name 1 0 ∷ []) (2 ∷ [])
      ∷ names (name 1 0 ∷ []) (1 ∷ 0 ∷ 0 ∷ 1 ∷ [])
      ∷ names (name 1 0 ∷ []) (0 ∷ [])
      ∷ [];
}

pub turns_meet : is_renaming moved loop ≡ false
turns_meet = refl

-- a value that the callee's result takes the place of may not be read behind the call
abbrev calling : Graph
calling = record {
  blocks =
      block [] (Call 0 (Held 0 ∷ []) (Some 1) 1)
      ∷ block (Compute Add 2 (Held 0) (Held 1) ∷ []) (Return (Held 2))
      ∷ [];
  banks = General ∷ General ∷ General ∷ [];
  parameters = 0 ∷ [];
  arrays = [];
}

abbrev called : ℕ → GraphNames
called result = record {
  blocks = record { start = name 0 0 ∷ []; written = []; result = result } ∷ names (name 0 0 ∷ name 1 result ∷ []) (0 ∷ []) ∷ [];
  banks = General ∷ General ∷ [];
  parameters = 0 ∷ [];
}

pub result_stands : is_renaming (called 1) calling ≡ true
result_stands = refl

pub result_may_not_displace : is_renaming (called 0) calling ≡ false
result_may_not_displace = refl

-- ---- operations that are left out

-- 0 is written twice, and the first number is read by nobody; 1 is a number of the input
abbrev twice : Graph
twice = record {
  blocks =
      block (Compute Add 0 (Number (pos 4)) (Number (pos 0)) ∷ Input 1 ∷ Compute Add 0 (Held 1) (Number (pos 1)) ∷ []) (Return (Held 0))
      ∷ [];
  banks = General ∷ General ∷ [];
  parameters = [];
  arrays = [];
}

abbrev left_out : Option ℕ → Option ℕ → Option ℕ → GraphNames
left_out first second third = record {
  blocks = record { start = []; written = first ∷ second ∷ third ∷ []; result = 0 } ∷ [];
  banks = General ∷ [];
  parameters = [];
}

pub dead_write_is_left_out : is_renaming (left_out None (Some 0) (Some 0)) twice ≡ true
dead_write_is_left_out = refl

pub without_dead_write : renamed (left_out None (Some 0) (Some 0)) twice ≡ record {
  blocks = block (Input 0 ∷ Compute Add 0 (Held 0) (Number (pos 1)) ∷ []) (Return (Held 0)) ∷ [];
  banks = General ∷ [];
  parameters = [];
  arrays = [];
}
without_dead_write = refl

-- what is read may not be left out, nor may a number of the input
pub read_write_stays : is_renaming (left_out (Some 0) (Some 0) None) twice ≡ false
read_write_stays = refl

pub input_stays : is_renaming (left_out None None (Some 0)) twice ≡ false
input_stays = refl

-- ---- a value with two names

-- 0 is the parameter, and is written anew from itself; both numbers of it are read in the end by way of 1
abbrev anew : Graph
anew = record {
  blocks =
      block (Compute Add 1 (Held 0) (Number (pos 1)) ∷ Compute Add 0 (Held 0) (Held 1) ∷ []) (Return (Held 0))
      ∷ [];
  banks = General ∷ General ∷ General ∷ [];
  parameters = 0 ∷ [];
  arrays = [];
}

abbrev two_names : GraphNames
two_names = record {
  blocks = names (name 0 0 ∷ []) (1 ∷ 2 ∷ []) ∷ [];
  banks = General ∷ General ∷ General ∷ [];
  parameters = 0 ∷ [];
}

pub value_moves_on : is_renaming two_names anew ≡ true
value_moves_on = refl

pub value_has_moved : renamed two_names anew ≡ record {
  blocks =
      block (Compute Add 1 (Held 0) (Number (pos 1)) ∷ Compute Add 2 (Held 0) (Held 1) ∷ []) (Return (Held 2))
      ∷ [];
  banks = General ∷ General ∷ General ∷ [];
  parameters = 0 ∷ [];
  arrays = [];
}
value_has_moved = refl

-- ---- moves

-- 1 is made of 0 and moved there, and both are read behind
abbrev moving : List Op → Graph
moving ops = record {
  blocks = block (Compute Add 1 (Held 0) (Number (pos 1)) ∷ Compute Mov 0 (Held 1) (Number (pos 0)) ∷ ops) (Return (Held 0)) ∷ [];
  banks = General ∷ General ∷ [];
  parameters = 0 ∷ [];
  arrays = [];
}

abbrev under : List ℕ → GraphNames
under written = record { blocks = names (name 0 0 ∷ []) written ∷ []; banks = General ∷ General ∷ []; parameters = 0 ∷ [] }

pub both_stand_there : is_renaming (under (0 ∷ 0 ∷ 0 ∷ [])) (moving (Decimal (Held 1) ∷ [])) ≡ true
both_stand_there = refl

pub move_is_not_made : renamed (under (0 ∷ 0 ∷ 0 ∷ [])) (moving (Decimal (Held 1) ∷ [])) ≡ record {
  blocks = block (Compute Add 0 (Held 0) (Number (pos 1)) ∷ Decimal (Held 0) ∷ []) (Return (Held 0)) ∷ [];
  banks = General ∷ General ∷ [];
  parameters = 0 ∷ [];
  arrays = [];
}
move_is_not_made = refl

-- between two names it is made
pub move_is_made : renamed (under (1 ∷ 0 ∷ 0 ∷ [])) (moving (Decimal (Held 1) ∷ [])) ≡ record {
  blocks = block (Compute Add 1 (Held 0) (Number (pos 1)) ∷ Compute Mov 0 (Held 1) (Number (pos 0)) ∷ Decimal (Held 1) ∷ []) (Return (Held 0)) ∷ [];
  banks = General ∷ General ∷ [];
  parameters = 0 ∷ [];
  arrays = [];
}
move_is_made = refl

-- where one of the two is written, the other does not stand any more
pub other_is_displaced : is_renaming (under (0 ∷ 0 ∷ 0 ∷ [])) (moving (Compute Add 1 (Held 1) (Number (pos 1)) ∷ [])) ≡ false
other_is_displaced = refl

pub other_stands_elsewhere : is_renaming (under (0 ∷ 0 ∷ 1 ∷ [])) (moving (Compute Add 1 (Held 1) (Number (pos 1)) ∷ [])) ≡ true
other_stands_elsewhere = refl
