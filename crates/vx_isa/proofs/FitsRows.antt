-- Words at the edge of what is well formed and what fits, by computation.
use Rattle.std.proofs.Common.{◌≡◌, ℕ, pos, true, false, List, [], ◌∷◌, map, refl}
use Rattle.vx_base.specs.Outcome.{Stuck}
use Rattle.vx_base.specs.declared.outcome.Reason.TheVariants.{Overfull}
use Rattle.vx_base.specs.declared.arithmetic.Code.TheVariants.{Add, Mpylu}
use Rattle.vx_isa.specs.declared.operation.GeneralRegister.{GeneralRegister}
use Rattle.vx_isa.specs.declared.operation.Register.TheVariants.{General}
use Rattle.vx_isa.specs.declared.operation.Source.TheVariants.{Held, Number}
use Rattle.vx_isa.specs.declared.operation.Operation.{Operation}
use Rattle.vx_isa.specs.declared.operation.Operation.TheVariants.{Compute, Move, OutDecimal, Goto, BranchOn, Call, Return, ToLink}
use Rattle.vx_isa.specs.declared.program.WordProgram.{WordProgram}
use Rattle.vx_isa.specs.Numbers.{Numbers, is_machine, vex, narrow}
use Rattle.vx_isa.specs.Fits.{is_bad_word, fits}
use Rattle.vx_isa.specs.Machine.{words_run}

abbrev register : ℕ → ℕ → GeneralRegister
register k n = record { cluster = k; number = n }

-- `cK mov $rK.n = 1`
abbrev one : ℕ → ℕ → Operation
one k n = Move k (register k n) (Number (pos 1))

-- `c1 mov $r1.n = $r0.3`
abbrev across : ℕ → Operation
across n = Move 1 (register 1 n) (Held (register 0 3))

-- five moves need five issue slots of one cluster, or those of two

abbrev five : List Operation
five = one 0 3 ∷ one 0 4 ∷ one 0 5 ∷ one 0 6 ∷ one 0 7 ∷ []

five_are_well_formed : is_bad_word (vex 1) five ≡ false
five_are_well_formed = refl

five_do_not_fit : fits (vex 1) five ≡ false
five_do_not_fit = refl

five_fit_on_two : fits (vex 2) (one 0 3 ∷ one 0 4 ∷ one 1 5 ∷ one 1 6 ∷ one 1 7 ∷ []) ≡ true
five_fit_on_two = refl

-- two products and not three, whatever slots are left
three_products_do_not_fit : fits (vex 1) (Compute 0 Mpylu (General (register 0 3)) (Number (pos 1)) (Number (pos 1)) ∷ Compute 0 Mpylu (General (register 0 4)) (Number (pos 1)) (Number (pos 1)) ∷ Compute 0 Mpylu (General (register 0 5)) (Number (pos 1)) (Number (pos 1)) ∷ []) ≡ false
three_products_do_not_fit = refl

-- two copies across and not three
two_copies_fit : fits (vex 2) (across 3 ∷ across 4 ∷ []) ≡ true
two_copies_fit = refl

three_copies_do_not_fit : fits (vex 2) (across 3 ∷ across 4 ∷ across 5 ∷ []) ≡ false
three_copies_do_not_fit = refl

-- one operation that is observable and one that controls
print_and_jump_fit : fits (vex 1) (OutDecimal (Number (pos 1)) ∷ Goto 0 ∷ []) ≡ true
print_and_jump_fit = refl

two_jumps_do_not_fit : fits (vex 1) (Goto 0 ∷ BranchOn 0 true 0 ∷ []) ≡ false
two_jumps_do_not_fit = refl

-- two branches on a machine of two; nothing else beside a branch, and not three

abbrev of_two : Numbers
of_two = record (vex 1) { branches = 2 }

two_branches_do_not_fit_one : fits (vex 1) (BranchOn 0 true 0 ∷ BranchOn 1 false 0 ∷ []) ≡ false
two_branches_do_not_fit_one = refl

two_branches_fit : fits of_two (BranchOn 0 true 0 ∷ BranchOn 1 false 0 ∷ []) ≡ true
two_branches_fit = refl

jump_beside_branch_does_not_fit : fits of_two (BranchOn 0 true 0 ∷ Goto 0 ∷ []) ≡ false
jump_beside_branch_does_not_fit = refl

call_beside_branch_does_not_fit : fits of_two (Call 0 ∷ BranchOn 0 true 0 ∷ []) ≡ false
call_beside_branch_does_not_fit = refl

jump_alone_fits : fits of_two (Return ∷ []) ≡ true
jump_alone_fits = refl

three_branches_do_not_fit : fits of_two (BranchOn 0 true 0 ∷ BranchOn 1 false 0 ∷ BranchOn 2 true 0 ∷ []) ≡ false
three_branches_do_not_fit = refl

three_branches_are_no_machine : is_machine (record (vex 1) { branches = 3 }) ≡ false
three_branches_are_no_machine = refl

-- words that are not well formed: a cluster that is not there, a register past its file, register 0 twice, the link
-- twice, a source of another cluster

absent_cluster : is_bad_word (vex 1) (one 1 3 ∷ []) ≡ true
absent_cluster = refl

past_the_file : is_bad_word narrow (one 0 16 ∷ []) ≡ true
past_the_file = refl

zero_twice : is_bad_word (vex 1) (one 0 0 ∷ one 0 0 ∷ []) ≡ true
zero_twice = refl

link_twice : is_bad_word (vex 1) (Call 0 ∷ ToLink (Number (pos 0)) ∷ []) ≡ true
link_twice = refl

foreign_source : is_bad_word (vex 2) (Compute 0 Add (General (register 0 3)) (Held (register 1 3)) (Number (pos 1)) ∷ []) ≡ true
foreign_source = refl

-- what a run answers

abbrev program : ℕ → List (List Operation) → WordProgram
program memory words = record { version = 1; memory = memory; start = []; texts = []; words = map (λ ops. record { ops = ops; idle = 0 }) words }

overfull_at_0 : words_run (vex 1) (16 ∷ []) (program 0 (five ∷ [])) [] 1 ≡ Stuck Overfull 0 []
overfull_at_0 = refl
