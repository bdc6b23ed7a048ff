-- The lines that a text of words may have, each with its text, and where each of them may stand: said of the lines of the whole
-- text and of those before it, given without their line feeds.
use Rattle.std.specs.Prelude.{◌≡◌, ◌≢◌, ◌⊎◌, All, ℕ, ◌+◌, ◌%◌, ◌<◌, ◌≤◌, ◌==◌, not, ℤ, pos, Bool, true, List, [], ◌∷◌, ◌++◌, length, take, codes, decimal, Some, count_by}
use Rattle.std.specs.List.{prefix_len}
use Rattle.std.specs.Str.{bytes_eq}
use Rattle.vx_isa.specs.declared.operation.Operation.{Operation}
use Rattle.vx_isa.specs.Range.{fits_signed, fits_operation}
use Rattle.vx_words.specs.Spelling.{target_of, operation_text, version_text, start_text, quoted_text, idle_text, place_text}
use Rattle.vx_reader.specs.Reading.{has_operands}
use Rattle.vx_reader.specs.Text.{word_count}

pub data Line : Type 0 where
  -- the version of the text
  Version : ℕ → Line
  -- the bytes of the memory
  Memory : ℕ → Line
  -- a word of the memory: its address and its value
  Start : ℕ × ℤ → Line
  -- the bytes of a text
  Quoted : List ℕ → Line
  -- the place of a word
  Label : ℕ → Line
  Operates : Operation → Line
  -- an empty time, in cycles
  Idle : ℕ → Line
  WordEnd : Line
  End : Line

abbrev pub text_of : Line → List ℕ
text_of (Version v) = version_text v
text_of (Memory n) = codes ".memory " ++ decimal n
text_of (Start entry) = start_text entry
text_of (Quoted bytes) = quoted_text bytes
text_of (Label p) = place_text p
text_of (Operates op) = operation_text op
text_of (Idle n) = idle_text n
text_of WordEnd = codes ";;"
text_of End = codes ".end"

-- the registers and clusters of the operation are those that a text can name, and its numbers have 32 bits
pub record IsSpellable (op : Operation) : Type 0 where
  pub operands : has_operands op ≡ true
  pub numbers : fits_operation op ≡ true

-- the text is one of these lines
abbrev pub IsAmong : List ℕ → List (List ℕ) → Type 0
IsAmong text [] = ⊥
IsAmong text (l ∷ ls) = (text ≡ l) ⊎ IsAmong text ls

-- the last one of these lines
pub record IsLast (before : List (List ℕ)) (line : Line) : Type 0 where
  pub front : List (List ℕ)
  pub is : before ≡ front ++ text_of line ∷ []

-- what stands in a line before its first blank
abbrev pub is_no_blank : ℕ → Bool
is_no_blank c = not (c == 32)

abbrev pub first_field : List ℕ → List ℕ
first_field text = take (prefix_len is_no_blank text) text

-- how many of these lines are texts
abbrev pub is_quoted : List ℕ → Bool
is_quoted text = bytes_eq (first_field text) (codes ".text")

abbrev pub text_count : List (List ℕ) → ℕ
text_count ls = count_by is_quoted ls

-- some operation of the text names the place
pub record IsNamed (all : List (List ℕ)) (p : ℕ) : Type 0 where
  pub op : Operation
  pub spellable : IsSpellable op
  pub stands : IsAmong (operation_text op) all
  pub names : target_of op ≡ Some p

-- the versions of a text
abbrev pub IsVersion : ℕ → Type 0
IsVersion v = (v ≡ 1) ⊎ (v ≡ 2)

-- the version alone stands before
pub record BehindVersion (before : List (List ℕ)) : Type 0 where
  pub number : ℕ
  pub known : IsVersion number
  pub is : before ≡ text_of (Version number) ∷ []

-- the last line is the size of the memory or a word of it
pub data InMemory (before : List (List ℕ)) : Type 0 where
  behind_size : (n : ℕ) → IsLast before (Memory n) → InMemory before
  behind_start : (entry : ℕ × ℤ) → IsLast before (Start entry) → InMemory before

-- a text may stand here: behind the memory, its words and other texts
pub data TextsBegin (before : List (List ℕ)) : Type 0 where
  behind_memory : InMemory before → TextsBegin before
  behind_text : (bytes : List ℕ) → IsLast before (Quoted bytes) → TextsBegin before

-- no word is begun, and one may begin
pub data IsBetweenWords (before : List (List ℕ)) : Type 0 where
  behind_texts : TextsBegin before → IsBetweenWords before
  behind_word : IsLast before WordEnd → IsBetweenWords before

-- the next line of a word may be its first one, its label aside: behind its label, or where no operation names its place
pub data BeginsWord (all before : List (List ℕ)) : Type 0 where
  behind_label : (p : ℕ) → IsLast before (Label p) → BeginsWord all before
  unnamed : IsBetweenWords before → (IsNamed all (word_count before) → ⊥) → BeginsWord all before

-- a word of the memory stands behind the size of the memory or behind a word at a lower address
pub data IsAscending (before : List (List ℕ)) (address : ℕ) : Type 0 where
  lowest : (n : ℕ) → IsLast before (Memory n) → IsAscending before address
  higher : (entry : ℕ × ℤ) → IsLast before (Start entry) → entry.0 < address → IsAscending before address

pub record StartStands (before : List (List ℕ)) (entry : ℕ × ℤ) : Type 0 where
  pub ascending : IsAscending before entry.0
  pub size : ℕ
  pub memory : IsAmong (text_of (Memory size)) before
  pub small : size ≤ 134217728
  pub multiple : entry.0 % 4 ≡ 0
  pub below : entry.0 < size
  pub not_zero : entry.1 ≢ pos 0
  pub fits : fits_signed entry.1 ≡ true

pub data OperationStands (all before : List (List ℕ)) : Type 0 where
  begins : BeginsWord all before → OperationStands all before
  goes_on : (op : Operation) → IsLast before (Operates op) → OperationStands all before

pub data WordEnds (all before : List (List ℕ)) : Type 0 where
  empty : BeginsWord all before → WordEnds all before
  behind_operation : (op : Operation) → IsLast before (Operates op) → WordEnds all before
  behind_idle : (n : ℕ) → IsLast before (Idle n) → WordEnds all before

-- the line may stand behind these lines in the text of all those
abbrev pub MayStand : (all before : List (List ℕ)) → Line → Type 0
MayStand all before (Version v) = (before ≡ []) × IsVersion v
MayStand all before (Memory n) = BehindVersion before × (n % 4 ≡ 0) × (n ≤ 134217728)
MayStand all before (Start entry) = StartStands before entry
MayStand all before (Quoted bytes) = All (λ b. b < 256) bytes × TextsBegin before
MayStand all before (Label p) = IsBetweenWords before × (p ≡ word_count before) × IsNamed all p
MayStand all before (Operates op) = IsSpellable op × OperationStands all before
MayStand all before (Idle n) = BeginsWord all before × (1 ≤ n) × (n ≤ 255)
MayStand all before WordEnd = WordEnds all before
MayStand all before End = IsBetweenWords before × (length all ≡ length before + 1)
