-- Programs at the edge of what is sound, by computation.
use Rattle.std.proofs.Common.{◌≡◌, ℕ, pos, negsuc, true, false, List, [], ◌∷◌, refl}
use Rattle.vx_base.specs.declared.arithmetic.Compare.TheVariants.{Lt}
use Rattle.vx_base.specs.declared.arithmetic.Code.TheVariants.{Add, ToBranch}
use Rattle.vx_isa.specs.declared.operation.Register.{Register}
use Rattle.vx_isa.specs.declared.operation.Register.TheVariants.{General, Branch}
use Rattle.vx_isa.specs.declared.operation.Source.TheVariants.{Number}
use Rattle.vx_isa.specs.declared.operation.Operation.{Operation}
use Rattle.vx_isa.specs.declared.operation.Operation.TheVariants.{Compute, OutText, Goto, Halt}
use Rattle.vx_isa.specs.declared.program.Word.{Word}
use Rattle.vx_isa.specs.declared.program.WordProgram.{WordProgram}
use Rattle.vx_isa.specs.Sound.{is_start, is_sound, is_sound_operation}

abbrev word : ℕ → List Operation → Word
word idle ops = record { ops = ops; idle = idle }

abbrev program : ℕ → List Word → WordProgram
program memory words = record { version = 1; memory = memory; start = []; texts = []; words = words }

abbrev ends : Word
ends = word 0 (Halt (Number (pos 0)) ∷ [])

-- a place of the program, and the place behind it
jump_back : is_sound (program 0 (ends ∷ word 0 (Goto 1 ∷ []) ∷ [])) ≡ true
jump_back = refl

jump_past_the_end : is_sound (program 0 (ends ∷ word 0 (Goto 2 ∷ []) ∷ [])) ≡ false
jump_past_the_end = refl

absent_text : is_sound (program 0 (word 0 (OutText 0 ∷ []) ∷ [])) ≡ false
absent_text = refl

-- empty times
longest_pause : is_sound (program 0 (word 255 [] ∷ [])) ≡ true
longest_pause = refl

pause_too_long : is_sound (program 0 (word 256 [] ∷ [])) ≡ false
pause_too_long = refl

pause_with_operation : is_sound (program 0 (word 1 (Halt (Number (pos 0)) ∷ []) ∷ [])) ≡ false
pause_with_operation = refl

-- memory and start list
greatest_memory : is_sound (program 134217728 []) ≡ true
greatest_memory = refl

memory_too_large : is_sound (program 134217732 []) ≡ false
memory_too_large = refl

half_a_word : is_sound (program 6 []) ≡ false
half_a_word = refl

ascending : is_start 8 0 ((0, pos 7) ∷ (4, negsuc 0) ∷ []) ≡ true
ascending = refl

twice : is_start 8 0 ((4, pos 7) ∷ (4, pos 7) ∷ []) ≡ false
twice = refl

zero_written : is_start 8 0 ((4, pos 0) ∷ []) ≡ false
zero_written = refl

-- the destination that a code has
abbrev into : Register → Operation
into to = Compute 0 (ToBranch Lt) to (Number (pos 0)) (Number (pos 1))

compare_to_branch : is_sound_operation 0 0 (into (Branch (record { cluster = 0; number = 7 }))) ≡ true
compare_to_branch = refl

compare_to_general : is_sound_operation 0 0 (into (General (record { cluster = 0; number = 7 }))) ≡ false
compare_to_general = refl

sum_to_branch : is_sound_operation 0 0 (Compute 0 Add (Branch (record { cluster = 0; number = 7 })) (Number (pos 0)) (Number (pos 1))) ≡ false
sum_to_branch = refl

-- versions 1 and 2 alone

second_version : is_sound (record (program 0 []) { version = 2 }) ≡ true
second_version = refl

no_version : is_sound (record (program 0 []) { version = 0 }) ≡ false
no_version = refl

third_version : is_sound (record (program 0 []) { version = 3 }) ≡ false
third_version = refl
