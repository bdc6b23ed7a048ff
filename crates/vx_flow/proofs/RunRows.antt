-- Worked runs of graphs, by computation.
use Rattle.std.proofs.Common.{◌≡◌, ℤ, pos, negsuc, Bool, true, false, List, [], ◌∷◌, Some, None, refl}
use Rattle.std.specs.Int.{int_wrap}
use Rattle.std.specs.Fmt.{digits}
use Rattle.vx_base.specs.Arithmetic.{sum_of, difference_of, product_of, quotient_of, mpylu_of}
use Rattle.vx_base.specs.Outcome.{Outcome, Ends as EndsWith, Traps, Goes}
use Rattle.vx_base.specs.declared.arithmetic.Code.TheVariants.{Add, Sub, Mov, Mpylu, Div, ToBranch}
use Rattle.vx_base.specs.declared.arithmetic.Compare.TheVariants.{Lt, Eq}
use Rattle.vx_base.specs.declared.outcome.Trap.TheVariants.{Divide, Depth}
use Rattle.vx_flow.specs.declared.graph.Operand.TheVariants.{Held, Number}
use Rattle.vx_flow.specs.declared.graph.Bank.TheVariants.{General, Branch}
use Rattle.vx_flow.specs.declared.graph.Op.{Op}
use Rattle.vx_flow.specs.declared.graph.Op.TheVariants.{Compute, Place, Load, Store, Input, Text, Decimal}
use Rattle.vx_flow.specs.declared.graph.Exit.{Exit}
use Rattle.vx_flow.specs.declared.graph.Exit.TheVariants.{Goto, Split, Call, Return, Ends}
use Rattle.vx_flow.specs.declared.graph.Block.{Block}
use Rattle.vx_flow.specs.declared.graph.Graph.{Graph}
use Rattle.vx_flow.specs.declared.graph.Flow.{Flow}
use Rattle.vx_flow.specs.Meaning.{deepest, graph_run, graph_path, AtBlock, AlongEdge}
use Rattle.vx_flow.specs.Sound.{is_sound_flow}

abbrev block : List Op → Exit → Block
block ops exit = record { ops = ops; exit = exit }

-- An `if` without `else`, of v1 and v2. Block 0: v3 = v1 + 5, p6 = v1 < 10, to 1 or 3; block 1: v2 = v2 + 1, to 2;
-- block 2: v4 = v3 * v1, v5 = v2 + v4, return v5; block 3: to 2.
abbrev pub choice : Graph
choice = record {
  blocks =
      block (Compute Add 3 (Held 1) (Number (pos 5)) ∷ Compute (ToBranch Lt) 6 (Held 1) (Number (pos 10)) ∷ []) (Split 6 1 3) ∷
      block (Compute Add 2 (Held 2) (Number (pos 1)) ∷ []) (Goto 2) ∷
      block (Compute Mpylu 4 (Held 3) (Held 1) ∷ Compute Add 5 (Held 2) (Held 4) ∷ []) (Return (Held 5)) ∷
      block [] (Goto 2) ∷ [];
  banks = General ∷ General ∷ General ∷ General ∷ General ∷ General ∷ Branch ∷ [];
  parameters = 1 ∷ 2 ∷ [];
  arrays = [];
}

-- calls it with x and y, and returns what it gives
abbrev calling : ℤ → ℤ → Flow
calling x y = record {
  functions =
      choice ∷
      record { blocks = block [] (Call 0 (Number x ∷ Number y ∷ []) (Some 0) 1) ∷ block [] (Return (Held 0)) ∷ []; banks = General ∷ []; parameters = []; arrays = [] } ∷ [];
  globals = [];
  texts = [];
  main = 1;
}

-- 4: v3 = 9, v2 = 8, v4 = 36, v5 = 44
choice_below : graph_run (calling (pos 4) (pos 7)) [] 5 ≡ EndsWith (pos 44) []
unfolding sum_of mpylu_of int_wrap deepest
choice_below = refl

-- 40: v3 = 45, v2 stays 7, v4 = 1800
choice_above : graph_run (calling (pos 40) (pos 7)) [] 5 ≡ EndsWith (pos 1807) []
unfolding sum_of mpylu_of int_wrap deepest
choice_above = refl

choice_goes : graph_run (calling (pos 4) (pos 7)) [] 4 ≡ Goes []
unfolding sum_of mpylu_of int_wrap deepest
choice_goes = refl

choice_sound : is_sound_flow (calling (pos 4) (pos 7)) ≡ true
choice_sound = refl

-- the edge behind the call is taken when it returns
choice_path : graph_path (calling (pos 40) (pos 7)) [] 9 ≡
    AtBlock 1 0 ∷ AtBlock 0 0 ∷ AlongEdge 0 0 3 ∷ AtBlock 0 3 ∷ AlongEdge 0 3 2 ∷ AtBlock 0 2 ∷ AlongEdge 1 0 1 ∷ AtBlock 1 1 ∷ []
unfolding sum_of mpylu_of int_wrap deepest
choice_path = refl

-- a main of these blocks, with a local array of 2 words, general values 0 to 3 and the branch value 4
abbrev alone : List Block → Flow
alone blocks = record {
  functions = record { blocks = blocks; banks = General ∷ General ∷ General ∷ General ∷ Branch ∷ []; parameters = []; arrays = record { words = 2; global = false; named = 0; base = None } ∷ [] } ∷ [];
  globals = [];
  texts = (10 ∷ []) ∷ [];
  main = 0;
}

-- prints 2 and 1, each in a line: v0 = 2; while 0 < v0, print v0, v0 = v0 - 1
abbrev counting : Flow
counting = alone (
    block (Compute Mov 0 (Number (pos 2)) (Number (pos 0)) ∷ []) (Goto 1) ∷
    block (Compute (ToBranch Lt) 4 (Number (pos 0)) (Held 0) ∷ []) (Split 4 2 3) ∷
    block (Decimal (Held 0) ∷ Text 0 ∷ Compute Sub 0 (Held 0) (Number (pos 1)) ∷ []) (Goto 1) ∷
    block [] (Return (Held 0)) ∷ [])

counting_ends : graph_run counting [] 7 ≡ EndsWith (pos 0) (50 ∷ 10 ∷ 49 ∷ 10 ∷ [])
unfolding difference_of int_wrap digits
counting_ends = refl

-- 10 / v0 of a number that is read, with the check before it
abbrev dividing : Flow
dividing = alone (
    block (Input 0 ∷ Compute (ToBranch Eq) 4 (Held 0) (Number (pos 0)) ∷ []) (Split 4 2 1) ∷
    block (Compute Div 1 (Number (pos 10)) (Held 0) ∷ []) (Return (Held 1)) ∷
    block [] (Ends Divide) ∷ [])

divides : graph_run dividing (negsuc 2 ∷ []) 9 ≡ EndsWith (negsuc 2) []
unfolding quotient_of int_wrap
divides = refl

divides_by_zero : graph_run dividing (pos 0 ∷ []) 9 ≡ Traps Divide []
divides_by_zero = refl

no_input : graph_run dividing [] 9 ≡ Outcome.Wrong []
no_input = refl

-- a value that was never written is undefined: it may be computed with, and not be printed
printing_undefined : graph_run (alone (block (Compute Add 1 (Held 0) (Number (pos 1)) ∷ Decimal (Held 1) ∷ []) (Return (Number (pos 0))) ∷ [])) [] 1 ≡ Outcome.Wrong []
printing_undefined = refl

computing_undefined : graph_run (alone (block (Compute Add 1 (Held 0) (Number (pos 1)) ∷ []) (Return (Number (pos 0))) ∷ [])) [] 1 ≡ EndsWith (pos 0) []
computing_undefined = refl

-- a local array: stored at its word 1, read there, and at its word 0, which is undefined before a store
abbrev storing : ℤ → ℤ → Bool → Flow
storing at from dismissible = alone (
    block (Place 1 0 (Number at) ∷ Store 0 (Held 1) (Number (pos 7)) ∷ Place 2 0 (Number from) ∷ Load 3 0 (Held 2) dismissible ∷ []) (Return (Held 3)) ∷ [])

stored_word : graph_run (storing (pos 1) (pos 1) false) [] 1 ≡ EndsWith (pos 7) []
unfolding product_of int_wrap
stored_word = refl

word_before_store : graph_run (storing (pos 1) (pos 0) false) [] 1 ≡ Outcome.Wrong []
unfolding product_of int_wrap
word_before_store = refl

store_outside : graph_run (storing (pos 2) (pos 0) false) [] 1 ≡ Outcome.Wrong []
unfolding product_of int_wrap
store_outside = refl

storing_sound : is_sound_flow (storing (pos 1) (pos 0) false) ≡ true
storing_sound = refl

-- outside of the array a load that may be dismissed gives undefined, which may be left alone
abbrev outside : Bool → Flow
outside dismissible = alone (block (Load 3 0 (Number (pos 8)) dismissible ∷ []) (Return (Number (pos 0))) ∷ [])

dismissed_load : graph_run (outside true) [] 1 ≡ EndsWith (pos 0) []
dismissed_load = refl

plain_load : graph_run (outside false) [] 1 ≡ Outcome.Wrong []
plain_load = refl

-- a function that calls itself for ever
abbrev calling_itself : Flow
calling_itself = alone (block [] (Call 0 [] None 1) ∷ block [] (Return (Number (pos 0))) ∷ [])

too_deep : graph_run calling_itself [] 512 ≡ Traps Depth []
unfolding deepest
too_deep = refl

not_too_deep : graph_run calling_itself [] 511 ≡ Goes []
unfolding deepest
not_too_deep = refl
