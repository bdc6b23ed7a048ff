-- What a line adds to what stood before it, or the code of its fault. A line is given without its line feed.
use Rattle.std.specs.Prelude.{◌≡◌, ℕ, ◌+◌, ◌-◌, ◌*◌, ◌%◌, ◌^◌, ◌<◌, ◌≤◌, ◌⊎◌, ℤ, Bool, true, false, ◌&&◌, ◌||◌, ◌==◌, not, nat_lt, nat_le, slice_index, slice_index_or, if◌then◌else◌, List, [], ◌∷◌, ◌++◌, length, take, drop, Result, Ok, Err, codes}
use Rattle.std.specs.List.{prefix_len}
use Rattle.std.specs.Option.{option_map_or}
use Rattle.std.specs.Str.{bytes_eq}
use Rattle.vx_isa.specs.declared.operation.Operation.{Operation}
use Rattle.vx_isa.specs.Sound.{is_not_zero}
use Rattle.vx_isa.specs.Operations.{cluster_of}
use Rattle.vx_reader.specs.declared.before.Stage.{Stage}
use Rattle.vx_reader.specs.declared.before.Stage.TheVariants.{Start, Version, Memory, Texts, WordEnd, Label, Operations, Idle}
use Rattle.vx_reader.specs.declared.before.Before.{Before}
use Rattle.vx_reader.specs.declared.quoted.Escape.{Escape}
use Rattle.vx_reader.specs.declared.quoted.Escape.TheVariants.{Plain, Backslash, FirstDigit, LastDigit}
use Rattle.vx_words.specs.Spelling.{target_of, place_text, start_text, quoted_text, idle_text}
use Rattle.vx_reader.specs.Fields.{number_at, signed_at}
use Rattle.vx_reader.specs.Reading.{is_number, texts_named, is_field, operation_of}

-- nothing stood before the first line
abbrev pub beginning : Before
beginning = record { stage = Start; version = 0; memory = 0; start = []; least = 0; texts = []; words = []; ops = []; idle = 0 }

abbrev pub is_start_stage : Stage → Bool
is_start_stage Start = true
is_start_stage stage = false

abbrev pub is_version_stage : Stage → Bool
is_version_stage Version = true
is_version_stage stage = false

abbrev pub is_memory_stage : Stage → Bool
is_memory_stage Memory = true
is_memory_stage stage = false

-- no word is begun, and one may begin here
abbrev pub is_between_words : Stage → Bool
is_between_words Memory = true
is_between_words Texts = true
is_between_words WordEnd = true
is_between_words stage = false

abbrev pub is_label_stage : Stage → Bool
is_label_stage Label = true
is_label_stage stage = false

abbrev pub is_operations_stage : Stage → Bool
is_operations_stage Operations = true
is_operations_stage stage = false

abbrev pub is_idle_stage : Stage → Bool
is_idle_stage Idle = true
is_idle_stage stage = false

-- the place of the word that is begun, or of the next one, is named by an operation of the text
abbrev pub is_marked : List Bool → Before → Bool
is_marked marks s = slice_index_or marks (length s.words) false

-- the first line of a word, its label aside, may stand here: behind its label, or where it has none
abbrev pub begins_word : List Bool → Before → Bool
begins_word marks s = is_label_stage s.stage || (is_between_words s.stage && not (is_marked marks s))

abbrev pub accepted : Bool → Before → Result Before ℕ
accepted fits s = if fits then Ok s else Err 1

-- directives

-- the first line of a text: it says one of the two versions
abbrev pub is_version_line : List ℕ → Bool
is_version_line text = bytes_eq text (codes ".vexwords 1") || bytes_eq text (codes ".vexwords 2")

-- the version that it says
abbrev pub version_of : List ℕ → ℕ
version_of text = if bytes_eq text (codes ".vexwords 2") then 2 else 1

unfoldable pub version_step : Before → List ℕ → Result Before ℕ
version_step s text =
    if is_start_stage s.stage then accepted (is_version_line text) (record s { stage = Version; version = version_of text }) else Err 5

abbrev pub value_from : ℕ → List ℕ → ℕ
value_from n [] = n
value_from n (c ∷ cs) = value_from (10 * n + (c - 48)) cs

-- n counts what value is, or, past 32 bits, that it is past them, and what a division by 4 leaves
abbrev pub Counts : (n value : ℕ) → Type 0
Counts n value = (n < 2 ^ 34) × ((n ≡ value) ⊎ ((4294967296 ≤ n) × (4294967296 ≤ value) × (n % 4 ≡ value % 4)))

-- a size of a memory, whole words, not too large
abbrev pub is_size : List ℕ → Bool
is_size digits = is_number digits && (value_from 0 digits % 4 == 0)

unfoldable pub memory_step : Before → List ℕ → Result Before ℕ
memory_step s digits =
    if is_start_stage s.stage || is_version_stage s.stage
    then (if is_size digits && nat_lt 134217728 (value_from 0 digits) then Err 6
    else accepted (is_size digits && is_version_stage s.stage) (record s { stage = Memory; memory = value_from 0 digits }))
    else Err 5

-- `.word A = V`
unfoldable pub entry_at : List ℕ → ℕ × ℤ
entry_at text = let a = number_at (drop 6 text) in (a.0, (signed_at (drop 3 a.1)).0)

abbrev pub is_entry : Before → ℕ × ℤ → Bool
is_entry s entry =
    is_memory_stage s.stage && nat_le s.least entry.0 && (entry.0 % 4 == 0) && nat_lt entry.0 s.memory && is_not_zero entry.1

unfoldable pub start_step : Before → List ℕ → Result Before ℕ
start_step s text =
    let entry = entry_at text in
    accepted (is_entry s entry && bytes_eq (start_text entry) text) (record s { start = s.start ++ entry ∷ []; least = entry.0 + 1 })

-- `.text "BYTES"`

abbrev pub hexadecimal_value : ℕ → ℕ
hexadecimal_value c = (if nat_lt c 58 then c - 48 else c - 87) % 16

-- what a byte of a quoted text leads to, and the byte that is complete with it
abbrev pub next_escape : Escape → ℕ → Escape
next_escape Plain c = if c == 92 then Backslash else Plain
next_escape Backslash c = FirstDigit
next_escape FirstDigit c = LastDigit (hexadecimal_value c)
next_escape (LastDigit high) c = Plain

abbrev pub complete_byte : Escape → ℕ → List ℕ
complete_byte Plain c = if c == 92 then [] else c ∷ []
complete_byte Backslash c = []
complete_byte FirstDigit c = []
complete_byte (LastDigit high) c = (16 * high + hexadecimal_value c) ∷ []

-- the value that is kept is one of a digit
abbrev pub IsDigitValue : Escape → Type 0
IsDigitValue Plain = Unit {0}
IsDigitValue Backslash = Unit {0}
IsDigitValue FirstDigit = Unit {0}
IsDigitValue (LastDigit high) = high < 16

abbrev pub unquoted_from : Escape → List ℕ → List ℕ
unquoted_from escape [] = []
unquoted_from escape (c ∷ cs) = complete_byte escape c ++ unquoted_from (next_escape escape c) cs

-- the bytes that a text can only stand for, behind `.text "` and before the last byte
unfoldable pub unquoted : List ℕ → List ℕ
unquoted text = let rest = drop 7 text in unquoted_from Plain (take (length rest - 1) rest)

abbrev pub is_text_stage : Stage → Bool
is_text_stage Memory = true
is_text_stage Texts = true
is_text_stage stage = false

unfoldable pub text_step : Before → List ℕ → Result Before ℕ
text_step s text =
    let bytes = unquoted text in
    accepted (is_text_stage s.stage && bytes_eq (quoted_text bytes) text) (record s { stage = Texts; texts = s.texts ++ bytes ∷ [] })

-- words

-- the label of the place stood before
abbrev pub label_stood : List Bool → Before → ℕ → Bool
label_stood marks s p =
    slice_index_or marks p false
    && (nat_lt p (length s.words) || ((p == length s.words) && (is_label_stage s.stage || is_operations_stage s.stage || is_idle_stage s.stage)))

unfoldable pub label_by : List Bool → Before → ℕ → Result Before ℕ
label_by marks s p =
    if label_stood marks s p then Err 5
    else accepted (is_between_words s.stage && (p == length s.words) && is_marked marks s) (record s { stage = Label })

unfoldable pub label_step : List Bool → Before → List ℕ → Result Before ℕ
label_step marks s text = let p = (number_at (drop 1 text)).0 in if bytes_eq (place_text p) text then label_by marks s p else Err 1

unfoldable pub idle_step : List Bool → Before → List ℕ → Result Before ℕ
idle_step marks s text =
    let n = (number_at (drop 5 text)).0 in
    accepted (begins_word marks s && nat_le 1 n && nat_le n 255 && bytes_eq (idle_text n) text) (record s { stage = Idle; idle = n })

unfoldable pub word_end_step : List Bool → Before → Result Before ℕ
word_end_step marks s =
    accepted (begins_word marks s || is_operations_stage s.stage || is_idle_stage s.stage)
    (record s { stage = WordEnd; words = s.words ++ record { ops = s.ops; idle = s.idle } ∷ []; ops = []; idle = 0 })

-- the operation names a place that is no word of the text
abbrev pub is_beyond : ℕ → Operation → Bool
is_beyond total op = option_map_or (λ p. nat_le total p) (target_of op) false

unfoldable pub operation_by_stage : List Bool → ℕ → Before → ℕ → Operation → Result Before ℕ
operation_by_stage marks total s k op =
    if nat_lt (length s.texts) (texts_named op) then Err 3
    else (if is_beyond total op then Err 4
    else accepted ((k == cluster_of op) && (begins_word marks s || is_operations_stage s.stage))
    (record s { stage = Operations; ops = s.ops ++ op ∷ [] }))

abbrev pub operation_added : List Bool → ℕ → Before → ℕ → Result Operation ℕ → Result Before ℕ
operation_added marks total s k (Ok op) = operation_by_stage marks total s k op
operation_added marks total s k (Err code) = Err code

unfoldable pub operation_step : List Bool → ℕ → Before → ℕ → List ℕ → Result Before ℕ
operation_step marks total s k text = operation_added marks total s k (operation_of k text)

-- `cK` and a blank begin the line, K from 0 to 3
abbrev pub is_operation_line : List ℕ → Bool
is_operation_line text =
    (slice_index text 0 == 99) && nat_le 48 (slice_index text 1) && nat_le (slice_index text 1) 51 && (slice_index text 2 == 32)

abbrev pub line_cluster : List ℕ → ℕ
line_cluster text = slice_index text 1 - 48

-- what a line adds; marks says for each place whether an operation of the text names it, total counts the words of the text
unfoldable pub step : List Bool → ℕ → Before → List ℕ → Result Before ℕ
step marks total s text =
    let field = take (prefix_len is_field text) text in
    if is_operation_line text then operation_step marks total s (line_cluster text) (drop 3 text)
    else (if bytes_eq text (codes ";;") then word_end_step marks s
    else (if bytes_eq field (codes ".vexwords") then version_step s text
    else (if bytes_eq field (codes ".memory") then memory_step s (drop 8 text)
    else (if bytes_eq field (codes ".word") then start_step s text
    else (if bytes_eq field (codes ".text") then text_step s text
    else (if bytes_eq field (codes "xnop") then idle_step marks s text
    else label_step marks s text))))))
