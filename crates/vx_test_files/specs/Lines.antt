-- The lines of a text of bytes. A line feed, the byte 10, ends a line; the last line of a text may lack one.
use Rattle.std.specs.Prelude.{◌≡◌, ◌==◌, ℕ, Bool, true, false, List, [], ◌∷◌, ◌++◌, if◌then◌else◌}
use Rattle.std.specs.List.{flat_map}

-- a line without its line feed, and whether it has one
pub record TextLine : Type 0 where
  pub bytes : List ℕ
  pub ended : Bool

-- a line as it stands in its text
abbrev pub line_text : TextLine → List ℕ
line_text line = if line.ended then line.bytes ++ 10 ∷ [] else line.bytes

-- the lines once a byte that is no line feed stands before them
abbrev pub lines_after : ℕ → List TextLine → List TextLine
lines_after byte [] = record { bytes = byte ∷ []; ended = false } ∷ []
lines_after byte (line ∷ lines) = record { bytes = byte ∷ line.bytes; ended = line.ended } ∷ lines

-- the lines of a text, first line first
abbrev pub lines_of : List ℕ → List TextLine
lines_of [] = []
lines_of (byte ∷ text) = if byte == 10 then record { bytes = []; ended = true } ∷ lines_of text else lines_after byte (lines_of text)

-- a law, the clause of a public function: the lines of a text, as they stand in it, make up the text
abbrev pub LinesMakeTheText : Type 0
LinesMakeTheText = (text : List ℕ) → flat_map line_text (lines_of text) ≡ text
