-- Worked runs of the word machine, by computation.
use Rattle.std.proofs.Common.{◌≡◌, ℕ, true, pos, [], ◌∷◌, refl}
use Rattle.std.specs.Int.{int_wrap}
use Rattle.std.specs.Fmt.{digits}
use Rattle.vx_base.specs.Outcome.{Ends, Goes, Stuck}
use Rattle.vx_base.specs.declared.outcome.Reason.TheVariants.{Overfull}
use Rattle.vx_base.specs.Arithmetic.{sum_of}
use Rattle.vx_base.specs.declared.arithmetic.Code.TheVariants.{Add, ToBranch}
use Rattle.vx_base.specs.declared.arithmetic.Compare.TheVariants.{Eq}
use Rattle.vx_isa.specs.declared.operation.GeneralRegister.{GeneralRegister}
use Rattle.vx_isa.specs.declared.operation.Register.TheVariants.{General, Branch}
use Rattle.vx_isa.specs.declared.operation.Source.TheVariants.{Held, Number}
use Rattle.vx_isa.specs.declared.operation.Operation.{Operation}
use Rattle.vx_isa.specs.declared.operation.Operation.TheVariants.{Compute, Move, OutText, OutDecimal, BranchOn, Halt}
use Rattle.vx_isa.specs.declared.program.Word.{Word}
use Rattle.vx_isa.specs.declared.program.WordProgram.{WordProgram}
use Rattle.vx_isa.specs.Numbers.{Numbers, vex}
use Rattle.vx_isa.specs.Machine.{words_run}

abbrev r3 : GeneralRegister
r3 = record { cluster = 0; number = 3 }

abbrev alone : Operation → Word
alone op = record { ops = op ∷ []; idle = 0 }

-- prints 2 + 3 and ends with 0
abbrev five : WordProgram
five = record {
  version = 1;
  memory = 0;
  start = [];
  texts = (10 ∷ []) ∷ [];
  words = alone (Move 0 r3 (Number (pos 2))) ∷ alone (Compute 0 Add (General r3) (Held r3) (Number (pos 3))) ∷ alone (OutDecimal (Held r3)) ∷ alone (OutText 0) ∷ alone (Move 0 r3 (Number (pos 0))) ∷ alone (Halt (Held r3)) ∷ [];
}

five_early : words_run (vex 1) (1 ∷ []) five [] 6 ≡ Ends (pos 0) (53 ∷ 10 ∷ [])
unfolding sum_of int_wrap digits
five_early = refl

five_late : words_run (vex 1) (16 ∷ []) five [] 6 ≡ Ends (pos 0) (53 ∷ 10 ∷ [])
unfolding sum_of int_wrap digits
five_late = refl

five_mixed : words_run (vex 1) (1 ∷ 2 ∷ 3 ∷ []) five [] 6 ≡ Ends (pos 0) (53 ∷ 10 ∷ [])
unfolding sum_of int_wrap digits
five_mixed = refl

five_goes : words_run (vex 1) (16 ∷ []) five [] 3 ≡ Goes (53 ∷ [])
unfolding sum_of int_wrap digits
five_goes = refl

-- two branches in a word, both on a register that is 1: the first of the list that is taken wins. Words of version 1 have one
-- branch on every machine.

abbrev both_taken : ℕ → WordProgram
both_taken version = record {
  version = version;
  memory = 0;
  start = [];
  texts = [];
  words =
      alone (Compute 0 (ToBranch Eq) (Branch (record { cluster = 0; number = 0 })) (Number (pos 0)) (Number (pos 0)))
      ∷ record { ops = []; idle = 0 }
      ∷ record { ops = BranchOn 0 true 3 ∷ BranchOn 0 true 4 ∷ []; idle = 0 }
      ∷ alone (Halt (Number (pos 1))) ∷ alone (Halt (Number (pos 2))) ∷ [];
}

abbrev of_two : Numbers
of_two = record (vex 1) { branches = 2 }

first_taken_wins : words_run of_two (1 ∷ []) (both_taken 2) [] 9 ≡ Ends (pos 1) []
first_taken_wins = refl

one_branch_is_overfull : words_run (vex 1) (1 ∷ []) (both_taken 2) [] 9 ≡ Stuck Overfull 2 []
one_branch_is_overfull = refl

version_1_is_overfull : words_run of_two (1 ∷ []) (both_taken 1) [] 9 ≡ Stuck Overfull 2 []
version_1_is_overfull = refl

version_1_is_overfull_on_one : words_run (vex 1) (1 ∷ []) (both_taken 1) [] 9 ≡ Stuck Overfull 2 []
version_1_is_overfull_on_one = refl
