-- Why a text of words is refused: the causes of a faulty line, said of the text, and the first fault of a text.
use Rattle.std.specs.Prelude.{◌≡◌, ◌⊎◌, All, ℕ, ◌+◌, ◌%◌, ◌<◌, ◌≤◌, Bool, true, List, ◌∷◌, ◌++◌, length, codes, decimal}
use Rattle.std.specs.List.{list_all, flat_map}
use Rattle.std.specs.Str.Parse.{digits_value}
use Rattle.vx_isa.specs.declared.operation.Operation.{Operation}
use Rattle.vx_isa.specs.declared.operation.Operation.TheVariants.{OutText}
use Rattle.vx_reader.specs.declared.form.Form.{Form}
use Rattle.vx_words.specs.Spelling.{body_text, line}
use Rattle.vx_reader.specs.Forms.{form_name}
use Rattle.vx_reader.specs.Reading.{is_number, branch_front}
use Rattle.vx_reader.specs.Text.{Fault, word_count, is_not_feed}
use Rattle.vx_causes.specs.Lines.{Line, Label, text_of, IsSpellable, IsAmong, first_field, text_count, MayStand}

pub data Cause : Type 0 where
  Repeated : Cause
  MemoryTooLarge : Cause
  UnknownOperation : Cause
  BadOperand : Cause
  UnknownLabel : Cause
  BadLine : Cause

-- the number of its V code
abbrev pub code_of : Cause → ℕ
code_of BadLine = 1
code_of UnknownOperation = 2
code_of BadOperand = 3
code_of UnknownLabel = 4
code_of Repeated = 5
code_of MemoryTooLarge = 6

-- of the causes that a line has the one of the least rank is answered
abbrev pub rank : Cause → ℕ
rank Repeated = 0
rank MemoryTooLarge = 1
rank UnknownOperation = 2
rank BadOperand = 3
rank UnknownLabel = 4
rank BadLine = 5

-- a line before it begins with the same field
pub record FieldStood (before : List (List ℕ)) (text : List ℕ) : Type 0 where
  pub other : List ℕ
  pub stood : IsAmong other before
  pub same : first_field other ≡ first_field text

-- the directive, or the label of the same number, stood before
pub data IsRepeated (before : List (List ℕ)) (text : List ℕ) : Type 0 where
  version : first_field text ≡ codes ".vexwords" → FieldStood before text → IsRepeated before text
  memory : first_field text ≡ codes ".memory" → FieldStood before text → IsRepeated before text
  label : (p : ℕ) → text ≡ text_of (Label p) → IsAmong text before → IsRepeated before text

-- the size of the memory, a number of any length without leading zeros, is a multiple of 4 and too large
pub record IsTooLarge (text : List ℕ) : Type 0 where
  pub digits : List ℕ
  pub is : text ≡ codes ".memory " ++ digits
  pub number : is_number digits ≡ true
  pub multiple : digits_value 10 digits % 4 ≡ 0
  pub large : 134217728 < digits_value 10 digits

-- the line begins with `cK` and a blank, K from 0 to 3; the rest stands behind them
pub record OnCluster (text rest : List ℕ) : Type 0 where
  pub cluster : ℕ
  pub small : cluster ≤ 3
  pub is : text ≡ codes "c" ++ decimal cluster ++ codes " " ++ rest

-- its first field is the name of an operation
pub record IsKnown (rest : List ℕ) : Type 0 where
  pub form : Form
  pub named : form_name form ≡ first_field rest

-- it is this operation with its operands
pub record IsOperation (rest : List ℕ) (op : Operation) : Type 0 where
  pub spellable : IsSpellable op
  pub is : rest ≡ body_text op

-- it prints a text that does not stand before it
pub record NamesNoText (before : List (List ℕ)) (rest : List ℕ) : Type 0 where
  pub number : ℕ
  pub is : IsOperation rest (OutText number)
  pub missing : text_count before ≤ number

-- what stands before the place, where an operation names one
pub data IsJump (front : List ℕ) : Type 0 where
  goes : front ≡ codes "goto L" → IsJump front
  branches : (t : ℕ) (at_one : Bool) → t ≤ 7 → front ≡ branch_front t at_one → IsJump front
  calls : front ≡ codes "call $l0.0 = L" → IsJump front

-- it is an operation that names this place, a number of any length without leading zeros
pub record NamesPlace (rest : List ℕ) (place : ℕ) : Type 0 where
  pub front : List ℕ
  pub digits : List ℕ
  pub is : rest ≡ front ++ digits
  pub jump : IsJump front
  pub number : is_number digits ≡ true
  pub value : digits_value 10 digits ≡ place

-- it has the form of an operation
pub data HasForm (rest : List ℕ) : Type 0 where
  operates : (op : Operation) → IsOperation rest op → HasForm rest
  jumps : (place : ℕ) → NamesPlace rest place → HasForm rest

-- it names a place that is no word of the text
pub record NamesNoPlace (all : List (List ℕ)) (rest : List ℕ) : Type 0 where
  pub place : ℕ
  pub names : NamesPlace rest place
  pub missing : word_count all ≤ place

-- the line, behind those before it in the text of all those, has this cause to be faulty
abbrev pub Applies : Cause → (all before : List (List ℕ)) → (text : List ℕ) → Type 0
Applies Repeated all before text = IsRepeated before text
Applies MemoryTooLarge all before text = IsTooLarge text
Applies UnknownOperation all before text = (rest : List ℕ) × OnCluster text rest × (IsKnown rest → ⊥)
Applies BadOperand all before text =
    (rest : List ℕ) × OnCluster text rest × IsKnown rest × ((HasForm rest → ⊥) ⊎ NamesNoText before rest)
Applies UnknownLabel all before text = (rest : List ℕ) × OnCluster text rest × NamesNoPlace all rest
Applies BadLine all before text = (l : Line) → MayStand all before l → text ≡ text_of l → ⊥

-- the line is faulty, and this is the first cause
pub record FirstCause (all before : List (List ℕ)) (text : List ℕ) (cause : Cause) : Type 0 where
  pub applies : Applies cause all before text
  pub first : (other : Cause) → rank other < rank cause → Applies other all before text → ⊥

-- no line of these is faulty, each behind those before it in the text of all those
abbrev pub AreFaultless : (all lines : List (List ℕ)) → Type 0
AreFaultless all lines = (before : List (List ℕ)) (text : List ℕ) (behind : List (List ℕ)) → lines ≡ before ++ text ∷ behind → (cause : Cause) → Applies cause all before text → ⊥

-- the bytes are these lines, each with a line feed behind it
pub record AreLines (bytes : List ℕ) (lines : List (List ℕ)) : Type 0 where
  pub is : bytes ≡ flat_map line lines
  pub whole : All (λ l. list_all is_not_feed l ≡ true) lines

-- the bytes end with a line feed, `.end` and a line feed
pub record EndsWell (bytes : List ℕ) : Type 0 where
  pub front : List ℕ
  pub is : bytes ≡ front ++ codes "\n.end\n"

-- the first faulty line, counted from 1
pub record FirstFaulty (bytes : List ℕ) (fault : Fault) : Type 0 where
  pub ends : EndsWell bytes
  pub all : List (List ℕ)
  pub lines : AreLines bytes all
  pub before : List (List ℕ)
  pub text : List ℕ
  pub behind : List (List ℕ)
  pub split : all ≡ before ++ text ∷ behind
  pub faultless : AreFaultless all before
  pub cause : Cause
  pub first : FirstCause all before text cause
  pub fault_is : fault ≡ record { code = code_of cause; line = length before + 1 }

-- the fault of a text: V7 at line 0 where it has no end, and else that of its first faulty line
pub data IsFault (bytes : List ℕ) (fault : Fault) : Type 0 where
  no_end : (EndsWell bytes → ⊥) → fault ≡ record { code = 7; line = 0 } → IsFault bytes fault
  faulty : FirstFaulty bytes fault → IsFault bytes fault
