-- Worked rows: ways from place to place of a layout, and how many cycles a call and its return take on the default machine.
use Rattle.std.proofs.Common.{◌≡◌, ◌+◌, ℕ, suc, pos, neg_ℤ, true, Some, List, [], ◌∷◌, ◌++◌, refl}
use Rattle.vx_base.specs.declared.outcome.Trap.TheVariants.{Index}
use Rattle.vx_flow.specs.declared.graph.Bank.TheVariants.{General}
use Rattle.vx_base.specs.declared.arithmetic.Code.TheVariants.{Add, Mov}
use Rattle.vx_flow.specs.declared.graph.Op.TheVariants.{Compute}
use Rattle.vx_flow.specs.declared.graph.Operand.TheVariants.{Held, Number}
use Rattle.vx_isa.specs.declared.operation.Operation.{Operation}
use Rattle.vx_isa.specs.declared.operation.Operation.TheVariants.{BranchOn, Call as Calls, Compute as Computes, Goto, Move, Return as Leaves, Store as Stores}
use Rattle.vx_isa.specs.declared.operation.Register.TheVariants.{General as InGeneral}
use Rattle.vx_isa.specs.declared.operation.Source.TheVariants.{Held as From, Number as Immediate}
use Rattle.vx_isa.specs.declared.program.Word.{Word}
use Rattle.vx_isa.specs.Machine.{cycles_of}
use Rattle.vx_isa.specs.Numbers.{narrow, vex}
use Rattle.vx_mixed.specs.declared.layout.VirtualWord.{VirtualWord}
use Rattle.vx_mixed.specs.declared.layout.Laid.TheVariants.{Plain}
use Rattle.vx_mixed.specs.declared.layout.VirtualWord.TheVariants.{Planned, Drain, Transfer, Call, Return, Ends}
use Rattle.vx_regs.specs.declared.map.Kept.TheVariants.{InRegister}
use Rattle.vx_target.specs.Target.{Target, most_transfers, most_spared, answer, stack_on, past, one, waits, word_words, argument_words, leave_or_lower, call_words, back_words, entry_words, return_words}

-- three values in registers, of which two are saved round a call, and the first is a parameter; the layout of every function has
-- these words, and word p of function f begins at place 10 + p
abbrev laid : List VirtualWord → Target
laid words = record {
  machine = vex 1;
  graph = λ f. record { blocks = []; banks = []; parameters = 0 ∷ []; arrays = [] };
  layout = λ f. record { banks = General ∷ General ∷ General ∷ []; homes = record { clusters = [] }; words = words; entry = 0; regions = 0 };
  maps = λ f. record { values = InRegister 11 ∷ InRegister 12 ∷ InRegister 13 ∷ [] };
  globals = 0;
  frame = 4;
  slot = λ f v. suc v;
  array_at = λ f a. 0;
  saved = λ f p. 0 ∷ 1 ∷ [];
  brought = λ f. 0 ∷ [];
  entry = λ f. 1;
  starts = λ f p. 10 + p;
  landing = λ f p to. 0;
  back = λ f p. 0;
  depth_trap = 0;
}

-- a transfer needs a word where it does not go to the next place, or where empty cycles stand there

to_next : word_words (laid (Transfer 1 ∷ Ends Index ∷ [])) 0 0 (Transfer 1) ≡ []
unfolding most_transfers
to_next = refl

to_itself : word_words (laid (Transfer 0 ∷ Ends Index ∷ [])) 0 0 (Transfer 0) ≡ one (Goto 10) ∷ []
unfolding most_transfers
to_itself = refl

to_another : word_words (laid (Transfer 2 ∷ Ends Index ∷ Ends Index ∷ [])) 0 0 (Transfer 2) ≡ one (Goto 12) ∷ []
unfolding most_transfers
to_another = refl

to_empty_cycles : word_words (laid (Transfer 1 ∷ Drain 1 ∷ Ends Index ∷ [])) 0 0 (Transfer 1) ≡ one (Goto 11) ∷ []
unfolding most_transfers
to_empty_cycles = refl

-- the last of some empty cycles is the goto behind them

before_goto : word_words (laid (Drain 3 ∷ Transfer 0 ∷ [])) 0 0 (Drain 3) ≡ waits 2 ∷ []
unfolding most_transfers
before_goto = refl

one_before_goto : word_words (laid (Drain 1 ∷ Transfer 0 ∷ [])) 0 0 (Drain 1) ≡ []
unfolding most_transfers
one_before_goto = refl

before_next : word_words (laid (Drain 3 ∷ Transfer 2 ∷ Ends Index ∷ [])) 0 0 (Drain 3) ≡ waits 3 ∷ []
unfolding most_transfers
before_next = refl

before_return : word_words (laid (Drain 1 ∷ Return (Number (pos 0)) ∷ [])) 0 0 (Drain 1) ≡ waits 1 ∷ []
before_return = refl

-- a jump goes past transfers, and past no other word; in a cycle of transfers it stays

past_transfer : past (laid (Ends Index ∷ Transfer 0 ∷ [])) 0 1 ≡ 0
unfolding most_transfers
past_transfer = refl

past_two_transfers : past (laid (Ends Index ∷ Transfer 2 ∷ Transfer 0 ∷ [])) 0 1 ≡ 0
unfolding most_transfers
past_two_transfers = refl

past_empty_cycles : past (laid (Ends Index ∷ Drain 1 ∷ Transfer 0 ∷ [])) 0 1 ≡ 1
unfolding most_transfers
past_empty_cycles = refl

past_cycle : past (laid (Ends Index ∷ Transfer 2 ∷ Transfer 1 ∷ [])) 0 1 ≡ 1
unfolding most_transfers
past_cycle = refl

-- so does the goto of a transfer, and a test
through_two : word_words (laid (Transfer 2 ∷ Ends Index ∷ Transfer 3 ∷ Transfer 1 ∷ [])) 0 2 (Transfer 3) ≡ one (Goto 11) ∷ []
unfolding most_transfers
through_two = refl

to_two : word_words (laid (Ends Index ∷ Transfer 3 ∷ Ends Index ∷ Transfer 4 ∷ Transfer 0 ∷ [])) 0 1 (Transfer 3) ≡ one (Goto 10) ∷ []
unfolding most_transfers
to_two = refl

-- by way of another transfer to the next place, which needs no word
back_to_next : word_words (laid (Transfer 2 ∷ Ends Index ∷ Transfer 1 ∷ [])) 0 0 (Transfer 2) ≡ []
unfolding most_transfers
back_to_next = refl

in_cycle : word_words (laid (Transfer 2 ∷ Ends Index ∷ Transfer 0 ∷ [])) 0 0 (Transfer 2) ≡ one (Goto 12) ∷ []
unfolding most_transfers
in_cycle = refl

-- what comes to the next place only past more transfers has its goto, and so has an empty cycle before it
waits_before_passed : word_words (laid (Drain 2 ∷ Transfer 3 ∷ Ends Index ∷ Transfer 0 ∷ [])) 0 0 (Drain 2) ≡ waits 1 ∷ []
unfolding most_transfers
waits_before_passed = refl

-- a call with two values saved and one argument

abbrev lasts : List Word → ℕ
lasts [] = 0
lasts (word ∷ words) = cycles_of word + lasts words

-- where the function that is called calls nothing, or calls
abbrev leaf : Target
leaf = laid (Return (Number (pos 0)) ∷ [])

abbrev caller : Target
caller = laid (Call 0 [] (Some 2) ∷ Return (Number (pos 0)) ∷ [])

call_lasts : lasts (call_words caller 0 0 0 (Number (pos 7) ∷ [])) ≡ 5
call_lasts = refl

-- the only argument is stored in the word of the call, and of two the last one; where there is one slot, before it
abbrev seven : Operation
seven = Stores 0 (pos 4) (stack_on 0) (Immediate (pos 7))

abbrev eight : Operation
eight = Stores 0 (pos 8) (stack_on 0) (Immediate (pos 8))

beside_call : argument_words caller 0 0 (0 ∷ []) (Number (pos 7) ∷ []) ≡ record { ops = seven ∷ Calls 1 ∷ []; idle = 0 } ∷ []
beside_call = refl

last_beside_call : argument_words caller 0 0 (0 ∷ 1 ∷ []) (Number (pos 7) ∷ Number (pos 8) ∷ []) ≡ one seven ∷ record { ops = eight ∷ Calls 1 ∷ []; idle = 0 } ∷ []
last_beside_call = refl

before_call : argument_words (record caller { machine = narrow }) 0 0 (0 ∷ []) (Number (pos 7) ∷ []) ≡ one seven ∷ one (Calls 1) ∷ []
before_call = refl

-- the branch for the depth stands beside the step of the stack pointer, which goes down by the 16 bytes of a frame
abbrev down_on : ℕ → Operation
down_on k = Computes k Add (InGeneral (stack_on k)) (From (stack_on k)) (Immediate (neg_ℤ (pos 16)))

beside_branch : leave_or_lower caller ≡ record { ops = BranchOn 0 true 0 ∷ down_on 0 ∷ []; idle = 0 } ∷ []
beside_branch = refl

-- on two clusters both stack pointers do
down_on_both : leave_or_lower (record caller { machine = vex 2 }) ≡ record { ops = BranchOn 0 true 0 ∷ down_on 0 ∷ down_on 1 ∷ []; idle = 0 } ∷ []
down_on_both = refl

-- where there is one slot, or a step takes 2 cycles, the branch stands alone
behind_branch : leave_or_lower (record caller { machine = narrow }) ≡ one (BranchOn 0 true 0) ∷ one (down_on 0) ∷ []
behind_branch = refl

slow_behind_branch : leave_or_lower (record caller { machine = record (vex 1) { latency_alu = 2 } }) ≡ one (BranchOn 0 true 0) ∷ one (down_on 0) ∷ waits 1 ∷ []
slow_behind_branch = refl

leaf_entry_lasts : lasts (entry_words leaf 0) ≡ 3
unfolding most_transfers most_spared
leaf_entry_lasts = refl

caller_entry_lasts : lasts (entry_words caller 0) ≡ 3
unfolding most_transfers most_spared
caller_entry_lasts = refl

leaf_return_lasts : lasts (return_words leaf 0 (Number (pos 0))) ≡ 1
leaf_return_lasts = refl

-- where a move takes 2 cycles it is waited for
slow_leaf_return : return_words (record leaf { machine = record (vex 1) { latency_alu = 2 } }) 0 (Number (pos 0)) ≡ one (Move 0 answer (Immediate (pos 0))) ∷ waits 1 ∷ one Leaves ∷ []
slow_leaf_return = refl

caller_return_lasts : lasts (return_words caller 0 (Number (pos 0))) ≡ 5
caller_return_lasts = refl

back_lasts : lasts (back_words caller 0 0 (Some 2)) ≡ 6
unfolding most_transfers most_spared
back_lasts = refl

-- what was reloaded is in flight until a word names it: of two the first one is in flight for one cycle more, the other one for two
abbrev moved : ℕ → VirtualWord
moved v = Planned 0 0 (Plain (Compute Mov 2 (Held v) (Number (pos 0))) 0 ∷ [])

abbrev before_moved : ℕ → Target
before_moved v = laid (Call 0 [] (Some 2) ∷ moved v ∷ Return (Number (pos 0)) ∷ [])

another_is_named : lasts (back_words (before_moved 2) 0 0 (Some 2)) ≡ 5
unfolding most_transfers most_spared
another_is_named = refl

first_is_named : lasts (back_words (before_moved 0) 0 0 (Some 2)) ≡ 5
unfolding most_transfers most_spared
first_is_named = refl

second_is_named : lasts (back_words (before_moved 1) 0 0 (Some 2)) ≡ 6
unfolding most_transfers most_spared
second_is_named = refl

-- and while a word goes there
second_behind_goto : lasts (back_words (laid (Call 0 [] (Some 2) ∷ Transfer 3 ∷ Return (Number (pos 0)) ∷ moved 1 ∷ Return (Number (pos 0)) ∷ [])) 0 0 (Some 2)) ≡ 5
unfolding most_transfers most_spared
second_behind_goto = refl

another_behind_goto : lasts (back_words (laid (Call 0 [] (Some 2) ∷ Transfer 3 ∷ Return (Number (pos 0)) ∷ moved 2 ∷ Return (Number (pos 0)) ∷ [])) 0 0 (Some 2)) ≡ 4
unfolding most_transfers most_spared
another_behind_goto = refl

-- together
leaf_called : lasts (call_words caller 0 0 0 (Number (pos 7) ∷ []) ++ (entry_words leaf 0 ++ (return_words leaf 0 (Number (pos 0)) ++ back_words caller 0 0 (Some 2)))) ≡ 15
unfolding most_transfers most_spared
leaf_called = refl

caller_called : lasts (call_words caller 0 0 0 (Number (pos 7) ∷ []) ++ (entry_words caller 0 ++ (return_words caller 0 (Number (pos 0)) ++ back_words caller 0 0 (Some 2)))) ≡ 19
unfolding most_transfers most_spared
caller_called = refl
