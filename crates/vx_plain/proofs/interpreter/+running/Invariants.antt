-- The room is the measure of the recursion, the turns left that of a loop. What a loop has done and what is still to do
-- are the whole.
use Rattle.std.proofs.Common.{◌≡◌, ◌++◌, drop, map}
use Rattle.std.specs.Option.{option_map}
use Rattle.vx_ast.specs.Meaning.{NumberArgument, With, value, and_then, does, turns, turns_first, test_of, after_body}
use Rattle.vx_plain.specs.Interpreting.{calls_at, spot_at}
use Rattle.vx_plain.specs.Kept.{store_of}
use Rattle.vx_ast.specs.View.{tree_of, row_in, items_of, all_in, code_of, step_of}
use Rattle.vx_plain.proofs.InterpreterLoops.{SoFar}
use Rattle.vx_plain.proofs.interpreter.+running.Given as goal

abbrev pub decreases-evaluate : goal.decreases-evaluate
decreases-evaluate l = l.room

abbrev pub decreases-evaluate_row : goal.decreases-evaluate_row
decreases-evaluate_row l = l.room

abbrev pub decreases-evaluate_arguments : goal.decreases-evaluate_arguments
decreases-evaluate_arguments l = l.room

abbrev pub decreases-call : goal.decreases-call
decreases-call l = l.room

abbrev pub decreases-locate : goal.decreases-locate
decreases-locate l = l.room

abbrev pub decreases-act : goal.decreases-act
decreases-act l = l.room

abbrev pub decreases-declare : goal.decreases-declare
decreases-declare l = l.room

abbrev pub decreases-declare_one : goal.decreases-declare_one
decreases-declare_one l = l.room

abbrev pub decreases-execute_all : goal.decreases-execute_all
decreases-execute_all l = l.room

abbrev pub decreases-execute : goal.decreases-execute
decreases-execute l = l.room

abbrev pub decreases-begin : goal.decreases-begin
decreases-begin l = l.room

abbrev pub decreases-repeat_while : goal.decreases-repeat_while
decreases-repeat_while l = l.room

abbrev pub decreases-repeat_do : goal.decreases-repeat_do
decreases-repeat_do l = l.room

abbrev pub decreases-repeat_for : goal.decreases-repeat_for
decreases-repeat_for l = l.room

abbrev pub decreases-holds : goal.decreases-holds
decreases-holds l = l.room

abbrev pub decreases-advance : goal.decreases-advance
decreases-advance l = l.room

-- the values so far, and then those of the rest, are the values of the row
abbrev pub invariant-evaluate_row-loop-e : goal.invariant-evaluate_row-loop-e
invariant-evaluate_row-loop-e l =
    value (spot_at l.program l.at) (calls_at l.program l.at) (row_in l.row) (store_of l.initial.store)
    ≡ and_then (value (spot_at l.program l.at) (calls_at l.program l.at) (row_in (drop l.e-index l.row)) (store_of l.store)) (λ xs t. With (map NumberArgument l.numbers.items ++ xs) t)

abbrev pub invariant-evaluate_arguments-loop-argument : goal.invariant-evaluate_arguments-loop-argument
invariant-evaluate_arguments-loop-argument l = SoFar (spot_at l.program l.at) (calls_at l.program l.at) l.row l.argument-index l.numbers.items l.arrays.items (store_of l.initial.store) (store_of l.store)

abbrev pub invariant-declare-loop-item : goal.invariant-declare-loop-item
invariant-declare-loop-item l =
    does (spot_at l.program l.at) (calls_at l.program l.at) l.at.turns (items_of l.items) (store_of l.initial.store)
    ≡ does (spot_at l.program l.at) (calls_at l.program l.at) l.at.turns (items_of (drop l.item-index l.items)) (store_of l.store)

abbrev pub invariant-execute_all-loop-s : goal.invariant-execute_all-loop-s
invariant-execute_all-loop-s l =
    does (spot_at l.program l.at) (calls_at l.program l.at) l.at.turns (all_in l.all) (store_of l.initial.store)
    ≡ does (spot_at l.program l.at) (calls_at l.program l.at) l.at.turns (all_in (drop l.s-index l.all)) (store_of l.store)

abbrev pub decreases-repeat_while-loop-left : goal.decreases-repeat_while-loop-left
decreases-repeat_while-loop-left l = l.left

abbrev pub invariant-repeat_while-loop-left : goal.invariant-repeat_while-loop-left
invariant-repeat_while-loop-left l =
    turns l.at.turns (value (spot_at l.program l.at) (calls_at l.program l.at) (tree_of l.test)) (does (spot_at l.program l.at) (calls_at l.program l.at) l.at.turns (code_of l.body)) (store_of l.initial.store)
    ≡ turns l.left (value (spot_at l.program l.at) (calls_at l.program l.at) (tree_of l.test)) (does (spot_at l.program l.at) (calls_at l.program l.at) l.at.turns (code_of l.body)) (store_of l.store)

abbrev pub decreases-repeat_do-loop-left : goal.decreases-repeat_do-loop-left
decreases-repeat_do-loop-left l = l.left

abbrev pub invariant-repeat_do-loop-left : goal.invariant-repeat_do-loop-left
invariant-repeat_do-loop-left l =
    turns_first l.at.turns (value (spot_at l.program l.at) (calls_at l.program l.at) (tree_of l.test)) (does (spot_at l.program l.at) (calls_at l.program l.at) l.at.turns (code_of l.body)) (store_of l.initial.store)
    ≡ turns_first l.left (value (spot_at l.program l.at) (calls_at l.program l.at) (tree_of l.test)) (does (spot_at l.program l.at) (calls_at l.program l.at) l.at.turns (code_of l.body)) (store_of l.store)

abbrev pub decreases-repeat_for-loop-left : goal.decreases-repeat_for-loop-left
decreases-repeat_for-loop-left l = l.left

abbrev pub invariant-repeat_for-loop-left : goal.invariant-repeat_for-loop-left
invariant-repeat_for-loop-left l =
    turns l.at.turns (test_of (spot_at l.program l.at) (calls_at l.program l.at) (option_map tree_of l.test)) (λ t. after_body (does (spot_at l.program l.at) (calls_at l.program l.at) l.at.turns (code_of l.body) t) (does (spot_at l.program l.at) (calls_at l.program l.at) l.at.turns (step_of l.step))) (store_of l.initial.store)
    ≡ turns l.left (test_of (spot_at l.program l.at) (calls_at l.program l.at) (option_map tree_of l.test)) (λ t. after_body (does (spot_at l.program l.at) (calls_at l.program l.at) l.at.turns (code_of l.body) t) (does (spot_at l.program l.at) (calls_at l.program l.at) l.at.turns (step_of l.step))) (store_of l.store)
