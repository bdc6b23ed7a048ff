-- A loop that sums up an array, and the same after five steps: the compare, the place and the load of the next turn are computed at
-- the end of this one, and once before the loop.
use Rattle.std.proofs.Common.{◌≡◌, ℕ, ◌==◌, pos, Bool, true, false, Some, None, List, [], ◌∷◌, slice_index_or, refl}
use Rattle.std.specs.List.{list_any}
use Rattle.std.specs.Int.{int_wrap}
use Rattle.vx_base.specs.Arithmetic.{sum_of, product_of}
use Rattle.vx_base.specs.Outcome.{Outcome}
use Rattle.vx_base.specs.declared.arithmetic.Code.TheVariants.{Add, Mov, ToBranch}
use Rattle.vx_base.specs.declared.arithmetic.Compare.TheVariants.{Lt}
use Rattle.vx_flow.specs.declared.graph.Operand.TheVariants.{Held, Number}
use Rattle.vx_flow.specs.declared.graph.Bank.TheVariants.{General, Branch}
use Rattle.vx_flow.specs.declared.graph.Op.{Op}
use Rattle.vx_flow.specs.declared.graph.Op.TheVariants.{Compute, Place, Load, Store}
use Rattle.vx_flow.specs.declared.graph.Exit.{Exit}
use Rattle.vx_flow.specs.declared.graph.Exit.TheVariants.{Goto, Split, Return}
use Rattle.vx_flow.specs.declared.graph.Block.{Block}
use Rattle.vx_flow.specs.declared.graph.Array.{Array}
use Rattle.vx_flow.specs.declared.graph.Graph.{Graph}
use Rattle.vx_flow.specs.declared.graph.Flow.{Flow}
use Rattle.vx_flow.specs.Meaning.{graph_run}
use Rattle.vx_flow.specs.Sound.{is_sound_flow}
use Rattle.vx_shape.specs.ShapeTest.{is_shaped}
use Rattle.vx_raise.specs.Raising.{raised, can_raise}
use Rattle.vx_raise.specs.Exchanging.{may_pass}
use Rattle.vx_raise.specs.declared.known.Move.{Move}
use Rattle.vx_raise.specs.Lifting.{all_lifted, can_lift_all}

abbrev graph : List Block → Graph
graph blocks = record { blocks = blocks; banks = General ∷ General ∷ Branch ∷ General ∷ General ∷ []; parameters = []; arrays = record { words = 4; global = true; named = 0; base = None } ∷ [] }

abbrev flow : Graph → Flow
flow g = record { functions = g ∷ []; globals = record { words = 4; first = pos 7 } ∷ []; texts = []; main = 0 }

abbrev block : List Op → Exit → Block
block ops exit = record { ops = ops; exit = exit }

-- values: 0 the index, 1 the sum, 2 whether the loop goes on, 3 the place, 4 the number there

abbrev begin_index : Op
begin_index = Compute Mov 0 (Number (pos 0)) (Number (pos 0))

abbrev begin_sum : Op
begin_sum = Compute Mov 1 (Number (pos 0)) (Number (pos 0))

abbrev compare : Op
compare = Compute (ToBranch Lt) 2 (Held 0) (Number (pos 4))

abbrev place : Op
place = Place 3 0 (Held 0)

abbrev load : Bool → Op
load dismissible = Load 4 0 (Held 3) dismissible

abbrev add : Op
add = Compute Add 1 (Held 1) (Held 4)

abbrev count : Op
count = Compute Add 0 (Held 0) (Number (pos 1))

abbrev loop : Graph
loop = graph
    (block (begin_index ∷ begin_sum ∷ []) (Goto 1)
    ∷ block (compare ∷ []) (Split 2 2 3)
    ∷ block (place ∷ load false ∷ add ∷ count ∷ []) (Goto 1)
    ∷ block [] (Return (Held 1))
    ∷ [])

abbrev ahead : Graph
ahead = graph
    (block (begin_index ∷ begin_sum ∷ compare ∷ place ∷ load true ∷ []) (Goto 1)
    ∷ block [] (Split 2 2 3)
    ∷ block (add ∷ count ∷ compare ∷ place ∷ load true ∷ []) (Goto 1)
    ∷ block [] (Return (Held 1))
    ∷ [])

abbrev one : Graph
one = raised loop 1 1

abbrev two : Graph
two = raised one 2 2

abbrev three : Graph
three = raised two 2 2

abbrev four : Graph
four = raised three 1 1

pub five_steps : raised four 1 1 ≡ ahead
five_steps = refl

-- what is live at the start of each block

abbrev rows : List (List ℕ) → ℕ → ℕ → Bool
rows live b v = list_any (λ u. u == v) (slice_index_or live b [])

abbrev live : List ℕ → List ℕ → ℕ → ℕ → Bool
live head body = rows ([] ∷ head ∷ body ∷ (1 ∷ []) ∷ [])

pub can_one : can_raise (live (0 ∷ 1 ∷ []) (0 ∷ 1 ∷ [])) loop 1 1 ≡ true
can_one = refl

pub can_two : can_raise (live (0 ∷ 1 ∷ 2 ∷ []) (0 ∷ 1 ∷ [])) one 2 2 ≡ true
can_two = refl

pub can_three : can_raise (live (0 ∷ 1 ∷ 2 ∷ []) (0 ∷ 1 ∷ 3 ∷ [])) two 2 2 ≡ true
can_three = refl

pub can_four : can_raise (live (0 ∷ 1 ∷ 2 ∷ []) (0 ∷ 1 ∷ 4 ∷ [])) three 1 1 ≡ true
can_four = refl

pub can_five : can_raise (live (0 ∷ 1 ∷ 2 ∷ 3 ∷ []) (0 ∷ 1 ∷ 4 ∷ [])) four 1 1 ≡ true
can_five = refl

-- the sum is read behind the loop, so that adding may not be raised over the test, nor may a value be that the test is of
pub sum_is_read : can_raise (live (0 ∷ 1 ∷ 2 ∷ 4 ∷ []) (0 ∷ 1 ∷ 4 ∷ [])) ahead 2 2 ≡ false
sum_is_read = refl

-- nor is the first block, nor one that a call leads to
pub first_stays : can_raise (live [] []) loop 0 0 ≡ false
first_stays = refl

-- what comes out is sound and has its shape, and both do the same

pub ahead_is_sound : is_sound_flow (flow ahead) ≡ true
ahead_is_sound = refl

pub ahead_is_shaped : is_shaped (4 ∷ 4 ∷ 1 ∷ 1 ∷ []) ahead.blocks ≡ true
ahead_is_shaped = refl

pub sums : graph_run (flow loop) [] 12 ≡ Outcome.Ends (pos 7) []
unfolding int_wrap sum_of product_of
sums = refl

pub sums_ahead : graph_run (flow ahead) [] 12 ≡ Outcome.Ends (pos 7) []
unfolding int_wrap sum_of product_of
sums_ahead = refl

-- the same as a row of moves, tested by what is live in the loop that came; the place may pass nothing, the load passes no store

abbrev move : ℕ → ℕ → Move
move b k = record { block = b; place = k; other = b; other_place = k }

abbrev moves : List Move
moves = move 1 0 ∷ move 2 0 ∷ move 2 0 ∷ move 1 0 ∷ move 1 0 ∷ []

pub can_all : can_lift_all (live (0 ∷ 1 ∷ []) (0 ∷ 1 ∷ [])) loop moves ≡ true
can_all = refl

pub all_moved : all_lifted loop moves ≡ ahead
all_moved = refl

-- counting passes adding, and neither the place that it is counted for nor the load at that place
pub counting_passes : may_pass [] add count ≡ true
counting_passes = refl

pub counting_stays : may_pass [] place count ≡ false
counting_stays = refl

pub load_stays : may_pass [] place (load false) ≡ false
load_stays = refl

-- a load passes a store to an array that is apart, and no other: here the function's own, an array that was handed over, a global

abbrev kinds : List Array
kinds = record { words = 4; global = true; named = 0; base = None } ∷ record { words = 0; global = false; named = 1; base = Some 9 } ∷ record { words = 8; global = false; named = 2; base = None } ∷ []

abbrev store : ℕ → Op
store a = Store a (Number (pos 0)) (Held 1)

abbrev load_of : ℕ → Op
load_of a = Load 5 a (Number (pos 0)) false

pub load_behind_store : may_pass kinds (store 0) (load_of 0) ≡ false
load_behind_store = refl

pub load_past_another : may_pass kinds (store 0) (load_of 2) ≡ true
load_past_another = refl

pub load_past_what_was_handed_over : may_pass kinds (store 1) (load_of 2) ≡ true
load_past_what_was_handed_over = refl

pub handed_behind_a_global : may_pass kinds (store 0) (load_of 1) ≡ false
handed_behind_a_global = refl

-- ---- why a value may not be raised that is read on the other side, nor one that the test is of: by flows that then end otherwise

abbrev forks : List Op → List Op → Graph
forks before behind = graph
    (block (Compute Mov 0 (Number (pos 5)) (Number (pos 0)) ∷ Compute (ToBranch Lt) 2 (Held 0) (Number (pos 4)) ∷ before) (Split 2 1 2)
    ∷ block behind (Return (Held 0))
    ∷ block [] (Return (Held 0))
    ∷ [])

abbrev write : Op
write = Compute Mov 0 (Number (pos 9)) (Number (pos 0))

pub side_is_kept : graph_run (flow (forks [] (write ∷ []))) [] 2 ≡ Outcome.Ends (pos 5) []
side_is_kept = refl

pub side_is_lost : graph_run (flow (raised (forks [] (write ∷ [])) 1 1)) [] 2 ≡ Outcome.Ends (pos 9) []
side_is_lost = refl

pub side_is_refused : can_raise (rows ([] ∷ [] ∷ (0 ∷ []) ∷ [])) (forks [] (write ∷ [])) 1 1 ≡ false
side_is_refused = refl

abbrev test : Op
test = Compute (ToBranch Lt) 2 (Number (pos 1)) (Number (pos 4))

abbrev test_forks : Graph
test_forks = graph
    (block (Compute (ToBranch Lt) 2 (Number (pos 5)) (Number (pos 4)) ∷ []) (Split 2 1 2)
    ∷ block (test ∷ []) (Return (Number (pos 1)))
    ∷ block [] (Return (Number (pos 0)))
    ∷ [])

pub test_is_kept : graph_run (flow test_forks) [] 2 ≡ Outcome.Ends (pos 0) []
test_is_kept = refl

pub test_is_lost : graph_run (flow (raised test_forks 1 1)) [] 2 ≡ Outcome.Ends (pos 1) []
test_is_lost = refl

pub test_is_refused : can_raise (rows []) test_forks 1 1 ≡ false
test_is_refused = refl

-- ---- one operation of both ways of a split: it is read behind both, and yet may end the block that splits

abbrev ways : List Op → List Op → List Op → Graph
ways above first second = graph
    (block (Compute Mov 0 (Number (pos 5)) (Number (pos 0)) ∷ Compute (ToBranch Lt) 2 (Held 0) (Number (pos 4)) ∷ above) (Split 2 1 2)
    ∷ block first (Goto 3)
    ∷ block second (Goto 3)
    ∷ block [] (Return (Held 0))
    ∷ [])

abbrev read_behind : ℕ → ℕ → Bool
read_behind = rows ([] ∷ (0 ∷ []) ∷ (0 ∷ []) ∷ (0 ∷ []) ∷ [])

pub both_ways_raised : raised (ways [] (count ∷ []) (count ∷ begin_sum ∷ [])) 1 2 ≡ ways (count ∷ []) [] (begin_sum ∷ [])
both_ways_raised = refl

pub can_both_ways : can_raise read_behind (ways [] (count ∷ []) (count ∷ begin_sum ∷ [])) 1 2 ≡ true
can_both_ways = refl

pub one_way_is_refused : can_raise read_behind (ways [] (count ∷ []) (count ∷ begin_sum ∷ [])) 1 1 ≡ false
one_way_is_refused = refl

pub other_way_is_refused : can_raise read_behind (ways [] (count ∷ []) (begin_sum ∷ [])) 1 2 ≡ false
other_way_is_refused = refl

-- past what stands before it in the second
abbrev both : Move
both = record { block = 1; place = 0; other = 2; other_place = 1 }

pub can_past : can_lift_all read_behind (ways [] (count ∷ []) (begin_sum ∷ count ∷ [])) (both ∷ []) ≡ true
can_past = refl

pub raised_past : all_lifted (ways [] (count ∷ []) (begin_sum ∷ count ∷ [])) (both ∷ []) ≡ ways (count ∷ []) [] (begin_sum ∷ [])
raised_past = refl

-- were it in one way alone, the other would end otherwise
pub way_is_kept : graph_run (flow (ways [] (count ∷ []) [])) [] 3 ≡ Outcome.Ends (pos 5) []
unfolding int_wrap sum_of product_of
way_is_kept = refl

pub way_is_lost : graph_run (flow (raised (ways [] (count ∷ []) []) 1 2)) [] 3 ≡ Outcome.Ends (pos 6) []
unfolding int_wrap sum_of product_of
way_is_lost = refl
