-- A loop to 100 over an array of 100 words: its check is decided.
use Rattle.std.proofs.Common.{◌≡◌, ℕ, zero, suc, true, false, ℤ, pos, List, [], ◌∷◌, Some, None, refl}
use Rattle.vx_base.specs.declared.arithmetic.Compare.TheVariants.{Lt, Ltu}
use Rattle.vx_base.specs.declared.arithmetic.Code.TheVariants.{Add, And, Mov, Shl, ToBranch, ToGeneral, Mpylu, Mpyhs}
use Rattle.std.specs.Int.{int_wrap}
use Rattle.vx_base.specs.Arithmetic.{compare_of, sum_of, difference_of, product_of, shl_of}
use Rattle.vx_flow.specs.Effects.{computed}
use Rattle.vx_flow.specs.declared.graph.Operand.{Operand}
use Rattle.vx_flow.specs.declared.graph.Operand.TheVariants.{Held, Number}
use Rattle.vx_flow.specs.declared.graph.Array.{Array}
use Rattle.vx_flow.specs.declared.graph.Op.{Op}
use Rattle.vx_flow.specs.declared.graph.Op.TheVariants.{Compute, Place, Load, Store}
use Rattle.vx_flow.specs.declared.graph.Exit.TheVariants.{Goto, Split, Call}
use Rattle.vx_flow.specs.declared.graph.Block.{Block}
use Rattle.vx_claims.specs.declared.intervals.Interval.{Interval}
use Rattle.vx_claims.specs.declared.fact.Fact.{Fact}
use Rattle.vx_claims.specs.declared.fact.Fact.TheVariants.{Between, Equals, Never}
use Rattle.vx_claims.specs.Facts.{decided}
use Rattle.vx_claims.specs.Forming.{after_all}
use Rattle.vx_claims.specs.declared.claim.Claim.{Claim}
use Rattle.vx_claims.specs.Claims.{nothing}
use Rattle.vx_narrow.specs.Checking.{lie_in, is_entry_checked, is_block_checked}
use Rattle.vx_narrow.specs.Shortening.{improved_all, shift_of, shift_below}

abbrev begins : Block
begins = record { ops = Compute Mov 0 (Number (pos 0)) (Number (pos 0)) ∷ []; exit = Goto 1 }

abbrev tests : Block
tests = record { ops = Compute (ToBranch Lt) 1 (Held 0) (Number (pos 100)) ∷ []; exit = Split 1 2 3 }

abbrev checks : Block
checks = record { ops = Compute (ToBranch Ltu) 2 (Held 0) (Number (pos 100)) ∷ []; exit = Split 2 4 5 }

abbrev steps : Block
steps = record { ops = Compute Add 0 (Held 0) (Number (pos 1)) ∷ []; exit = Goto 1 }

abbrev claims : ℕ → List Fact
claims zero = []
claims (suc zero) = Between 0 (record { low = pos 0; high = pos 100 }) ∷ []
claims (suc (suc zero)) = Between 0 (record { low = pos 0; high = pos 99 }) ∷ []
claims (suc (suc (suc zero))) = []
claims (suc (suc (suc (suc zero)))) = Between 0 (record { low = pos 0; high = pos 99 }) ∷ []
claims (suc (suc (suc (suc (suc zero))))) = []
claims (suc (suc (suc (suc (suc (suc b)))))) = []

abbrev of_facts : List Fact → Claim
of_facts fs = record { facts = fs; accesses = [] }

abbrev at_start : (ℕ → List Fact) → ℕ → Claim
at_start claims b = of_facts (claims b)

-- of no parameter is anything given
abbrev nothing_given : ℕ → List Interval
nothing_given f = []

one : is_block_checked [] nothing_given (at_start claims) 0 begins ≡ true
one = refl

two : is_block_checked [] nothing_given (at_start claims) 1 tests ≡ true
two = refl

three : is_block_checked [] nothing_given (at_start claims) 2 checks ≡ true
three = refl

four : is_block_checked [] nothing_given (at_start claims) 4 steps ≡ true
four = refl

gone : decided (after_all [] (of_facts (claims 2)) checks.ops) 2 ≡ Some true
gone = refl

-- what is not so

abbrev wide : ℕ → List Fact
wide zero = []
wide (suc zero) = Between 0 (record { low = pos 0; high = pos 100 }) ∷ []
wide (suc (suc zero)) = []
wide (suc (suc (suc zero))) = []
wide (suc (suc (suc (suc zero)))) = Between 0 (record { low = pos 0; high = pos 100 }) ∷ []
wide (suc (suc (suc (suc (suc zero))))) = []
wide (suc (suc (suc (suc (suc (suc b)))))) = []

five : is_block_checked [] nothing_given (at_start wide) 4 steps ≡ false
five = refl

-- a sum that may wrap
abbrev top : ℕ → List Fact
top zero = []
top (suc zero) = Between 0 (record { low = pos 1; high = pos 2147483647 }) ∷ []
top (suc (suc zero)) = []
top (suc (suc (suc zero))) = []
top (suc (suc (suc (suc zero)))) = Between 0 (record { low = pos 0; high = pos 2147483647 }) ∷ []
top (suc (suc (suc (suc (suc zero))))) = []
top (suc (suc (suc (suc (suc (suc b)))))) = []

six : is_block_checked [] nothing_given (at_start top) 4 steps ≡ false
six = refl

unknown : decided (after_all [] nothing checks.ops) 2 ≡ None
unknown = refl

-- the end of the last of 8 turns: the counter is 8, so no run goes back, and of the block on that way nothing is asked
abbrev last_turn : Block
last_turn = record { ops = Compute Add 0 (Held 0) (Number (pos 1)) ∷ Compute (ToBranch Lt) 1 (Held 0) (Number (pos 8)) ∷ []; exit = Split 1 1 2 }

abbrev goes_back : Block
goes_back = record { ops = []; exit = Goto 2 }

abbrev turns : Interval → ℕ → List Fact
turns i zero = Between 0 i ∷ []
turns i (suc zero) = Never ∷ []
turns i (suc (suc b)) = Between 0 (record { low = pos 8; high = pos 8 }) ∷ []

abbrev at_seven : Interval
at_seven = record { low = pos 7; high = pos 7 }

ends_there : is_block_checked [] nothing_given (at_start (turns at_seven)) 0 last_turn ≡ true
ends_there = refl

never_back : is_block_checked [] nothing_given (at_start (turns at_seven)) 1 goes_back ≡ true
never_back = refl

-- not where it may be 7
may_go_back : is_block_checked [] nothing_given (at_start (turns (record { low = pos 6; high = pos 7 }))) 0 last_turn ≡ false
may_go_back = refl

-- i * 64 + j with i and j below 64, in the three operations of a product: inside an array of 4096 words
abbrev index : Block
index = record {
  ops =
      Compute Mpylu 2 (Held 0) (Number (pos 64)) ∷ Compute Mpyhs 3 (Held 0) (Number (pos 64)) ∷ Compute Add 4 (Held 2) (Held 3) ∷ Compute Add 5 (Held 4) (Held 1)
      ∷ Compute (ToBranch Ltu) 6 (Held 5) (Number (pos 4096)) ∷ [];
  exit = Split 6 1 2;
}

abbrev both_below : List Fact
both_below = Between 0 (record { low = pos 0; high = pos 63 }) ∷ Between 1 (record { low = pos 0; high = pos 63 }) ∷ []

matrix : decided (after_all [] (of_facts both_below) index.ops) 6 ≡ Some true
unfolding int_wrap sum_of difference_of product_of
matrix = refl

-- why inputs and numbers must have 32 bits: 2 ^ 32 + 5 passes a check against 10, and is not below 10
passes : compare_of Ltu (pos 4294967301) (pos 10) ≡ true
unfolding int_wrap
passes = refl

is_below : compare_of Lt (pos 4294967301) (pos 10) ≡ false
is_below = refl

-- why a decided compare may not become a number where states must stay equal: what is undefined lies in every interval
stays_undefined : computed (ToGeneral Lt) (computed And None (Some (pos 7))) (Some (pos 8)) ≡ None
stays_undefined = refl

-- the product is the last of the three, in one operation: with 48, and with a power of 2

abbrev three_by : ℤ → List Op
three_by n = Compute Mpylu 2 (Number n) (Held 0) ∷ Compute Mpyhs 3 (Number n) (Held 0) ∷ Compute Add 4 (Held 2) (Held 3) ∷ []

abbrev and_then : ℤ → Op → List Op
and_then n op = Compute Mpylu 2 (Number n) (Held 0) ∷ Compute Mpyhs 3 (Number n) (Held 0) ∷ op ∷ []

small : improved_all [] nothing (three_by (pos 48)) ≡ and_then (pos 48) (Compute Mpylu 4 (Held 0) (Number (pos 48)))
unfolding shift_of shift_below shl_of int_wrap
small = refl

power : improved_all [] nothing (three_by (pos 64)) ≡ and_then (pos 64) (Compute Shl 4 (Held 0) (Number (pos 6)))
unfolding shift_of shift_below shl_of int_wrap
power = refl

-- what was moved is read where it came from, and the test still bounds both
copied : decided (after_all [] (of_facts (Between 0 (record { low = pos 0; high = pos 9 }) ∷ Equals 0 Mov (Held 8) (Number (pos 0)) ∷ [])) (Compute (ToBranch Ltu) 2 (Held 0) (Number (pos 10)) ∷ [])) 2 ≡ Some true
copied = refl

-- a number of 17 bits stays
large : improved_all [] nothing (three_by (pos 65537)) ≡ three_by (pos 65537)
unfolding shift_of shift_below shl_of int_wrap
large = refl

-- the place of the element behind is 4 bytes behind, unless the array is stored to

abbrev one_global : List Array
one_global = record { words = 8; global = true; named = 0; base = None } ∷ []

abbrev two_places : Op → List Op
two_places last = Place 2 0 (Held 0) ∷ Compute Add 1 (Held 0) (Number (pos 1)) ∷ last ∷ []

behind : improved_all one_global nothing (two_places (Place 3 0 (Held 1))) ≡ two_places (Compute Add 3 (Held 2) (Number (pos 4)))
unfolding product_of int_wrap
behind = refl

stays : improved_all one_global nothing (Store 0 (Held 4) (Held 5) ∷ two_places (Place 3 0 (Held 1))) ≡ Store 0 (Held 4) (Held 5) ∷ two_places (Place 3 0 (Held 1))
stays = refl

-- a word that was stored is not loaded, nor is one that was loaded, unless its array was stored to between
abbrev accesses : List Op
accesses =
    Place 1 7 (Held 0) ∷ Load 2 7 (Held 1) false ∷ Place 3 7 (Held 0) ∷ Load 4 7 (Held 3) false ∷ Store 8 (Held 1) (Held 4) ∷ Load 5 7 (Held 1) false ∷ Store 7 (Held 6) (Held 0) ∷ Load 9 7 (Held 1) false
    ∷ Load 10 7 (Held 6) false ∷ Place 11 7 (Held 0) ∷ Load 12 7 (Held 11) false ∷ []

words : improved_all [] nothing accesses ≡ Place 1 7 (Held 0) ∷ Load 2 7 (Held 1) false ∷ Place 3 7 (Held 0) ∷ Compute Mov 4 (Held 2) (Number (pos 0)) ∷ Store 8 (Held 1) (Held 2) ∷ Compute Mov 5 (Held 2) (Number (pos 0)) ∷ Store 7 (Held 6) (Held 0) ∷ Load 9 7 (Held 1) false
    ∷ Compute Mov 10 (Held 0) (Number (pos 0)) ∷ Place 11 7 (Held 0) ∷ Compute Mov 12 (Held 9) (Number (pos 0)) ∷ []
words = refl

-- two arrays that were handed over, and one of the function's own
abbrev handed_over : List Array
handed_over =
    record { words = 0; global = false; named = 0; base = Some 20 } ∷ record { words = 0; global = false; named = 1; base = Some 21 } ∷ record { words = 4; global = false; named = 2; base = None } ∷ []

abbrev loaded_over : ℕ → Op → List Op
loaded_over a last = Load 2 0 (Held 1) false ∷ Store a (Held 3) (Held 4) ∷ last ∷ []

-- a store to one of those that were handed over may change the words of the other
may_be_one : improved_all handed_over nothing (loaded_over 1 (Load 5 0 (Held 1) false)) ≡ loaded_over 1 (Load 5 0 (Held 1) false)
may_be_one = refl

-- one to the own array does not
is_no_other : improved_all handed_over nothing (loaded_over 2 (Load 5 0 (Held 1) false)) ≡ loaded_over 2 (Compute Mov 5 (Held 2) (Number (pos 0)))
is_no_other = refl

-- a parameter to which every call passes 0 to 7: a check against 8 is decided

abbrev below_eight : Interval
below_eight = record { low = pos 0; high = pos 7 }

abbrev given_of_one : ℕ → List Interval
given_of_one zero = []
given_of_one (suc zero) = below_eight ∷ []
given_of_one (suc (suc f)) = []

abbrev at_entry : Claim
at_entry = of_facts (Between 0 below_eight ∷ [])

enters : is_entry_checked (given_of_one 1) (0 ∷ []) at_entry ≡ true
enters = refl

parameter : decided (after_all [] at_entry (Compute (ToBranch Ltu) 1 (Held 0) (Number (pos 8)) ∷ [])) 1 ≡ Some true
parameter = refl

-- what the entry may not claim: less, or where nothing is given

enters_less : is_entry_checked (given_of_one 1) (0 ∷ []) (of_facts (Between 0 (record { low = pos 1; high = pos 7 }) ∷ [])) ≡ false
enters_less = refl

enters_unknown : is_entry_checked (given_of_one 2) (0 ∷ []) at_entry ≡ false
enters_unknown = refl

-- of a value that is a parameter twice the first place counts
twice : lie_in (0 ∷ 0 ∷ []) (below_eight ∷ record { low = pos 9; high = pos 9 } ∷ []) ≡ Between 0 below_eight ∷ []
twice = refl

-- what a call may pass

abbrev calls_one : Operand → Block
calls_one x = record { ops = []; exit = Call 1 (x ∷ []) None 1 }

seven : is_block_checked [] given_of_one (at_start (λ b. [])) 0 (calls_one (Number (pos 7))) ≡ true
seven = refl

eight : is_block_checked [] given_of_one (at_start (λ b. [])) 0 (calls_one (Number (pos 8))) ≡ false
eight = refl

any : is_block_checked [] given_of_one (at_start (λ b. [])) 0 (calls_one (Held 3)) ≡ false
any = refl

bounded : is_block_checked [] given_of_one (at_start (λ b. Between 3 below_eight ∷ [])) 0 (calls_one (Held 3)) ≡ true
bounded = refl
