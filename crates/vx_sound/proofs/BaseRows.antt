-- Worked rows: what is sound of graphs whose arrays are handed over, and what is not. A function has a global of 4 words, array 0, one of
-- its own of 8 words, array 1, and array 2, which was handed to it: its base is value 0, and value 1 is its length.
use Rattle.std.proofs.Common.{◌≡◌, ℕ, pos, Bool, true, false, List, [], ◌∷◌, Option, Some, None, refl}
use Rattle.vx_base.specs.declared.arithmetic.Code.TheVariants.{Mov}
use Rattle.vx_flow.specs.declared.graph.Operand.{Operand}
use Rattle.vx_flow.specs.declared.graph.Operand.TheVariants.{Held, Number, Stack}
use Rattle.vx_flow.specs.declared.graph.Bank.{Bank}
use Rattle.vx_flow.specs.declared.graph.Bank.TheVariants.{General, Branch}
use Rattle.vx_flow.specs.declared.graph.Op.{Op}
use Rattle.vx_flow.specs.declared.graph.Op.TheVariants.{Compute, Place, Load, Store, Decimal, Base, PlaceIn}
use Rattle.vx_flow.specs.declared.graph.Exit.{Exit}
use Rattle.vx_flow.specs.declared.graph.Exit.TheVariants.{Call, Return}
use Rattle.vx_flow.specs.declared.graph.Array.{Array}
use Rattle.vx_flow.specs.declared.graph.Graph.{Graph}
use Rattle.vx_flow.specs.declared.graph.Flow.{Flow}
use Rattle.vx_flow.specs.Sound.{is_sound, is_sound_flow}

abbrev whole : Array
whole = record { words = 4; global = true; named = 0; base = None }

abbrev own : Array
own = record { words = 8; global = false; named = 1; base = None }

abbrev handed : Array
handed = record { words = 0; global = false; named = 2; base = Some 0 }

abbrev banks : List Bank
banks = General ∷ General ∷ General ∷ General ∷ General ∷ General ∷ General ∷ General ∷ []

abbrev of_arrays : List Array → List Op → Exit → Graph
of_arrays arrays ops exit = record { blocks = record { ops = ops; exit = exit } ∷ []; banks = banks; parameters = 0 ∷ 1 ∷ []; arrays = arrays }

abbrev ending : List Op → Exit → Graph
ending ops exit = of_arrays (whole ∷ own ∷ handed ∷ []) ops exit

abbrev graph : List Op → Graph
graph ops = ending ops (Return (Number (pos 0)))

abbrev place : Op
place = PlaceIn 3 2 0 (Held 1)

-- an element is read, and all three arrays are handed on
all_is_sound : is_sound (ending (place ∷ Load 4 2 (Held 3) false ∷ Base 5 1 Stack ∷ Base 6 0 (Number (pos 0)) ∷ []) (Call 0 (Held 5 ∷ Number (pos 8) ∷ Held 6 ∷ Held 4 ∷ Held 0 ∷ Held 1 ∷ []) (Some 7) 0)) ≡ true
all_is_sound = refl

-- one value may be the base of several arrays
one_for_two : is_sound (graph (Base 5 1 Stack ∷ Base 5 0 (Number (pos 0)) ∷ [])) ≡ true
one_for_two = refl

-- ---- what a base is made from

own_from_zero : is_sound (graph (Base 5 1 (Number (pos 0)) ∷ [])) ≡ false
own_from_zero = refl

global_from_stack : is_sound (graph (Base 5 0 Stack ∷ [])) ≡ false
global_from_stack = refl

handed_from_stack : is_sound (graph (Base 5 2 Stack ∷ [])) ≡ false
handed_from_stack = refl

stack_elsewhere : is_sound (graph (Compute Mov 5 Stack (Number (pos 0)) ∷ [])) ≡ false
stack_elsewhere = refl

-- ---- what writes a base

parameter_written : is_sound (graph (Compute Mov 0 (Number (pos 3)) (Number (pos 0)) ∷ [])) ≡ false
parameter_written = refl

made_written : is_sound (graph (Base 5 1 Stack ∷ Compute Mov 5 (Number (pos 3)) (Number (pos 0)) ∷ [])) ≡ false
made_written = refl

called_for : is_sound (ending (Base 5 1 Stack ∷ []) (Call 0 [] (Some 5) 0)) ≡ false
called_for = refl

made_parameter : is_sound (graph (Base 1 1 Stack ∷ [])) ≡ false
made_parameter = refl

-- ---- what reads one

returned : is_sound (ending [] (Return (Held 0))) ≡ false
returned = refl

printed : is_sound (graph (Decimal (Held 0) ∷ [])) ≡ false
printed = refl

stored : is_sound (graph (Store 0 (Number (pos 0)) (Held 0) ∷ [])) ≡ false
stored = refl

index_of_its_place : is_sound (graph (PlaceIn 3 2 0 (Held 0) ∷ [])) ≡ false
index_of_its_place = refl

-- ---- places

place_of_own_by_base : is_sound (graph (PlaceIn 3 1 0 (Held 1) ∷ [])) ≡ false
place_of_own_by_base = refl

place_by_another_base : is_sound (graph (Base 5 1 Stack ∷ PlaceIn 3 2 5 (Held 1) ∷ [])) ≡ false
place_by_another_base = refl

place_without_base : is_sound (graph (Place 3 2 (Held 1) ∷ [])) ≡ false
place_without_base = refl

number_for_a_place : is_sound (graph (Load 4 2 (Number (pos 0)) false ∷ [])) ≡ false
number_for_a_place = refl

place_of_another : is_sound (graph (place ∷ Load 4 1 (Held 3) false ∷ [])) ≡ false
place_of_another = refl

place_handed_on : is_sound (ending (place ∷ []) (Call 0 (Held 3 ∷ []) None 0)) ≡ false
place_handed_on = refl

-- ---- arrays

with_words : is_sound (of_arrays (record { words = 1; global = false; named = 0; base = Some 0 } ∷ []) [] (Return (Number (pos 0)))) ≡ false
with_words = refl

global_with_base : is_sound (of_arrays (record { words = 0; global = true; named = 0; base = Some 0 } ∷ []) [] (Return (Number (pos 0)))) ≡ false
global_with_base = refl

base_is_no_parameter : is_sound (of_arrays (record { words = 0; global = false; named = 0; base = Some 2 } ∷ []) [] (Return (Number (pos 0)))) ≡ false
base_is_no_parameter = refl

-- ---- programs: main makes a base in value 0 and calls a function with a base and a length

abbrev callee : Graph
callee = of_arrays (record { words = 0; global = false; named = 0; base = Some 0 } ∷ []) [] (Return (Held 1))

abbrev calling : List Operand → Flow
calling arguments = record {
  functions =
      record {
        blocks = record { ops = Base 0 0 Stack ∷ []; exit = Call 1 arguments (Some 2) 1 } ∷ record { ops = []; exit = Return (Held 2) } ∷ [];
        banks = banks;
        parameters = [];
        arrays = record { words = 8; global = false; named = 0; base = None } ∷ [];
      }
      ∷ callee
      ∷ [];
  globals = [];
  texts = [];
  main = 0;
}

base_and_length : is_sound_flow (calling (Held 0 ∷ Number (pos 8) ∷ [])) ≡ true
base_and_length = refl

length_and_base : is_sound_flow (calling (Number (pos 8) ∷ Held 0 ∷ [])) ≡ false
length_and_base = refl

number_for_the_base : is_sound_flow (calling (Number (pos 0) ∷ Number (pos 8) ∷ [])) ≡ false
number_for_the_base = refl

base_for_the_length : is_sound_flow (calling (Held 0 ∷ Held 0 ∷ [])) ≡ false
base_for_the_length = refl

no_length : is_sound_flow (calling (Held 0 ∷ [])) ≡ false
no_length = refl
