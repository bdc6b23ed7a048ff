-- When a program of words is sound: its words, texts and memory are those that the word text can spell.
use Rattle.std.specs.Prelude.{◌≡◌, ◌≢◌, ◌↔◌, ◌⊎◌, ◌<◌, ◌≤◌, All, slice_index_or, ℕ, zero, ◌+◌, ◌%◌, ℤ, pos, Bool, true, false, ◌&&◌, ◌||◌, ◌==◌, nat_lt, nat_le, List, [], ◌∷◌, length}
use Rattle.std.specs.List.{list_all}
use Rattle.vx_base.specs.declared.arithmetic.Code.{Code}
use Rattle.vx_base.specs.declared.arithmetic.Code.TheVariants.{ToBranch, Mov}
use Rattle.vx_isa.specs.declared.operation.GeneralRegister.{GeneralRegister}
use Rattle.vx_isa.specs.declared.operation.BranchRegister.{BranchRegister}
use Rattle.vx_isa.specs.declared.operation.Register.{Register}
use Rattle.vx_isa.specs.declared.operation.Register.TheVariants.{General, Branch}
use Rattle.vx_isa.specs.declared.operation.Source.{Source}
use Rattle.vx_isa.specs.declared.operation.Source.TheVariants.{Held, Number}
use Rattle.vx_isa.specs.declared.operation.Operation.{Operation}
use Rattle.vx_isa.specs.declared.operation.Operation.TheVariants.{Compute, Move, Select, Load, Store, Input, More, OutText, OutDecimal, OutByte, Goto, BranchOn, Call, Return, FromLink, ToLink, EndByTrap, Halt}
use Rattle.vx_isa.specs.declared.program.Word.{Word}
use Rattle.vx_isa.specs.declared.program.WordProgram.{WordProgram}

-- a text can name clusters 0 to 3, general registers 0 to 63 and branch registers 0 to 7
abbrev pub can_name_cluster : ℕ → Bool
can_name_cluster k = nat_le k 3

abbrev pub can_name : GeneralRegister → Bool
can_name r = can_name_cluster r.cluster && nat_le r.number 63

abbrev pub can_name_branch : BranchRegister → Bool
can_name_branch r = can_name_cluster r.cluster && nat_le r.number 7

abbrev pub can_spell : Source → Bool
can_spell (Held r) = can_name r
can_spell (Number z) = true

-- a compare to a branch register writes one, every other code a general register; a move has a form of its own
abbrev pub is_destination : Code → Register → Bool
is_destination Mov to = false
is_destination (ToBranch compare) (Branch r) = can_name_branch r
is_destination (ToBranch compare) to = false
is_destination code (General r) = can_name r
is_destination code to = false

-- the operands are of the operation's form, and what it names is there
abbrev pub is_sound_operation : (words texts : ℕ) → Operation → Bool
is_sound_operation words texts (Compute k code to a b) = can_name_cluster k && is_destination code to && can_spell a && can_spell b
is_sound_operation words texts (Move k to a) = can_name_cluster k && can_name to && can_spell a
is_sound_operation words texts (Select k to t a b) = can_name_cluster k && can_name to && can_name_branch t && can_spell a && can_spell b
is_sound_operation words texts (Load k to o r d) = can_name_cluster k && can_name to && can_name r
is_sound_operation words texts (Store k o r a) = can_name_cluster k && can_name r && can_spell a
is_sound_operation words texts (Input to) = can_name to
is_sound_operation words texts (More to) = can_name to
is_sound_operation words texts (OutText n) = nat_lt n texts
is_sound_operation words texts (OutDecimal a) = can_spell a
is_sound_operation words texts (OutByte a) = can_spell a
is_sound_operation words texts (Goto p) = nat_lt p words
is_sound_operation words texts (BranchOn t w p) = nat_le t 7 && nat_lt p words
is_sound_operation words texts (Call p) = nat_lt p words
is_sound_operation words texts Return = true
is_sound_operation words texts (FromLink to) = can_name to
is_sound_operation words texts (ToLink a) = can_spell a
is_sound_operation words texts (EndByTrap k) = true
is_sound_operation words texts (Halt a) = can_spell a

-- an empty time is at most 255 cycles, and a word with an operation has none
abbrev pub is_sound_word : (words texts : ℕ) → Word → Bool
is_sound_word words texts w =
    nat_le w.idle 255 && ((w.idle == 0) || (length w.ops == 0)) && list_all (is_sound_operation words texts) w.ops

abbrev pub is_not_zero : ℤ → Bool
is_not_zero (pos zero) = false
is_not_zero z = true

-- the words that do not start as 0: addresses ascending from a least one, multiples of 4, below the memory's end
abbrev pub is_start : (memory least : ℕ) → List (ℕ × ℤ) → Bool
is_start memory least [] = true
is_start memory least (p ∷ ps) = nat_le least p.0 && (p.0 % 4 == 0) && nat_lt p.0 memory && is_not_zero p.1 && is_start memory (p.0 + 1) ps

-- the versions of the word text: of at most one branch a word, and of at most as many as the machine has
abbrev pub is_version : ℕ → Bool
is_version n = (n == 1) || (n == 2)

abbrev pub is_sound : WordProgram → Bool
is_sound w =
    is_version w.version && (w.memory % 4 == 0) && nat_le w.memory 134217728 && is_start w.memory 0 w.start
    && list_all (is_sound_word (length w.words) (length w.texts)) w.words

-- the same in words; that an operation has operands of its form stays the test above

pub record IsSound (p : WordProgram) : Type 0 where
  pub version : (p.version ≡ 1) ⊎ (p.version ≡ 2)
  pub memory : (p.memory % 4 ≡ 0) × (p.memory ≤ 134217728)
  pub start : All (λ s. (s.0 % 4 ≡ 0) × (s.0 < p.memory) × (s.1 ≢ pos 0)) p.start
  pub ascending : (i j : ℕ) (d : ℕ × ℤ) → i < j → j < length p.start → (slice_index_or p.start i d).0 < (slice_index_or p.start j d).0
  pub idle : All (λ w. (w.idle ≤ 255) × ((w.idle ≡ 0) ⊎ (w.ops ≡ []))) p.words
  pub operations : All (λ w. All (λ op. is_sound_operation (length p.words) (length p.texts) op ≡ true) w.ops) p.words

abbrev pub SoundInWords : Type 0
SoundInWords = (p : WordProgram) → (is_sound p ≡ true) ↔ IsSound p
