-- The program that bytes are the text of, and which line of other bytes is the first that is faulty.
use Rattle.std.specs.Prelude.{◌≡◌, ℕ, zero, suc, ◌+◌, ◌-◌, Bool, false, ◌==◌, not, nat_eq, if◌then◌else◌, List, [], ◌∷◌, length, take, drop, Option, Some, None, Result, Ok, Err, count_by, codes}
use Rattle.std.specs.List.{list_any, ends_with}
use Rattle.std.specs.Option.{option_map_or}
use Rattle.std.specs.Str.{bytes_eq}
use Rattle.vx_isa.specs.declared.operation.Operation.{Operation}
use Rattle.vx_isa.specs.declared.program.WordProgram.{WordProgram}
use Rattle.vx_isa.specs.Operations.{cluster_of}
use Rattle.vx_reader.specs.declared.before.Before.{Before}
use Rattle.vx_reader.specs.declared.fault.WordsFault.{WordsFault}
use Rattle.vx_reader.specs.declared.fault.WordsFault.TheVariants.{Bad, NoMemory}
use Rattle.vx_words.specs.Spelling.{names}
use Rattle.vx_reader.specs.Reading.{operation_of}
use Rattle.vx_reader.specs.Steps.{beginning, is_between_words, is_operation_line, line_cluster, step}

-- lines

abbrev pub cons_first : ℕ → List (List ℕ) → List (List ℕ)
cons_first c [] = (c ∷ []) ∷ []
cons_first c (l ∷ ls) = (c ∷ l) ∷ ls

-- the lines of a text, without their line feeds
abbrev pub lines : List ℕ → List (List ℕ)
lines [] = []
lines (c ∷ cs) = if c == 10 then [] ∷ lines cs else cons_first c (lines cs)

abbrev pub is_not_feed : ℕ → Bool
is_not_feed c = not (c == 10)

-- as many words as lines `;;`
abbrev pub is_word_end : List ℕ → Bool
is_word_end text = bytes_eq text (codes ";;")

abbrev pub word_count : List (List ℕ) → ℕ
word_count ls = count_by is_word_end ls

abbrev pub on_its_cluster : ℕ → Result Operation ℕ → Option Operation
on_its_cluster k (Ok op) = if k == cluster_of op then Some op else None
on_its_cluster k (Err code) = None

-- the operation of a line that has the full form of one
unfoldable pub line_operation : List ℕ → Option Operation
line_operation text =
    if is_operation_line text then on_its_cluster (line_cluster text) (operation_of (line_cluster text) (drop 3 text)) else None

abbrev pub line_names : ℕ → List ℕ → Bool
line_names p text = option_map_or (names p) (line_operation text) false

-- for each of so many places from p on, whether an operation of the text names it
abbrev pub marks_from : ℕ → ℕ → List (List ℕ) → List Bool
marks_from p zero ls = []
marks_from p (suc n) ls = list_any (line_names p) ls ∷ marks_from (p + 1) n ls

-- faults

-- a faulty line, counted from 1, with the number of its V code
pub record Fault : Type 0 where
  pub code : ℕ
  pub line : ℕ

abbrev pub followed : ℕ → Result Before ℕ → (Before → Result Before Fault) → Result Before Fault
followed n (Ok s) f = f s
followed n (Err c) f = Err (record { code = c; line = n })

-- the lines from line n on, behind what stood before
abbrev pub run_lines : List Bool → ℕ → ℕ → Before → List (List ℕ) → Result Before Fault
run_lines marks total n s [] = Ok s
run_lines marks total n s (l ∷ ls) = followed n (step marks total s l) (λ t. run_lines marks total (n + 1) t ls)

abbrev pub program_of : Before → WordProgram
program_of s = record { version = s.version; memory = s.memory; start = s.start; texts = s.texts; words = s.words }

-- the last line, `.end`, may stand where no word is begun
abbrev pub ended : ℕ → Result Before Fault → Result WordProgram Fault
ended n (Ok s) = if is_between_words s.stage then Ok (program_of s) else Err (record { code = 1; line = n })
ended n (Err f) = Err f

abbrev pub end_bytes : List ℕ
end_bytes = codes "\n.end\n"

-- the program of a text, or the first faulty line. A number over 4294967295 counts as that; a text of less than
-- 4 GiB has fewer words.
unfoldable pub reading : List ℕ → Result WordProgram Fault
reading bytes =
    if ends_with nat_eq bytes end_bytes
    then (let ls = lines (take (length bytes - 5) bytes) in
    ended (length ls + 1) (run_lines (marks_from 0 (word_count ls + 1) ls) (word_count ls) 1 beginning ls))
    else Err (record { code = 7; line = 0 })

abbrev pub fault_in : {X : Type 0} → Result X Fault → Option Fault
fault_in (Ok x) = None
fault_in (Err f) = Some f

-- the first faulty line of a text that is no program's
abbrev pub text_fault : List ℕ → Option Fault
text_fault bytes = fault_in (reading bytes)

-- What a function returned, seen by view, is what reading gives, unless memory ran out.
abbrev pub Refuses : {Y : Type 0} → WordsFault → Result Y Fault → Type 0
Refuses (Bad c n) read = read ≡ Err (record { code = c; line = n })
Refuses NoMemory read = Unit {0}

abbrev pub Reads : {X Y : Type 0} → (X → Y) → Result X WordsFault → Result Y Fault → Type 0
Reads view (Ok x) read = read ≡ Ok (view x)
Reads view (Err e) read = Refuses e read

-- what a reader answers of a text: a program where no line is faulty, and else the first faulty line, unless memory
-- ran out
abbrev pub Finds : {X : Type 0} → Result X WordsFault → Option Fault → Type 0
Finds (Ok x) found = found ≡ None
Finds (Err (Bad c n)) found = found ≡ Some (record { code = c; line = n })
Finds (Err NoMemory) found = Unit {0}
