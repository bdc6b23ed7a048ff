-- Laws of the word text, each the clause of a public function.
use Rattle.std.specs.Prelude.{◌≡◌, ℕ, ◌^◌, ◌<◌, true, List, length, None}
use Rattle.vx_isa.specs.declared.program.WordProgram.{WordProgram}
use Rattle.vx_isa.specs.Sound.{is_sound}
use Rattle.vx_words.specs.Spelling.{spelling, Spells}
use Rattle.vx_isa.specs.Range.{is_in_range}
use Rattle.vx_reader.specs.Text.{text_fault}

-- the program is sound, and its numbers fit their types
abbrev pub IsProgram : WordProgram → Type 0
IsProgram w = (is_sound w ≡ true) × (is_in_range w ≡ true)

-- no two programs have one text
abbrev pub SpellingIsInjective : Type 0
SpellingIsInjective = (v w : WordProgram) → IsProgram v → IsProgram w → spelling v ≡ spelling w → v ≡ w

-- no line of a program's text is faulty
abbrev pub SpelledIsFaultless : Type 0
SpelledIsFaultless = (bytes : List ℕ) (w : WordProgram) → IsProgram w → bytes ≡ spelling w → text_fault bytes ≡ None

-- a text of less than 4 GiB without a faulty line is a sound program's
abbrev pub FaultlessIsSpelled : Type 0
FaultlessIsSpelled = (bytes : List ℕ) → length bytes < 2 ^ 32 → text_fault bytes ≡ None → (w : WordProgram) × Spells bytes w
