-- The places of the words of the regions, from marks at which the words of layouts stand.
use Rattle.std.specs.Prelude.{◌≡◌, ◌<◌, ◌++◌, ℕ, suc, if◌then◌else◌, List, [], ◌∷◌, length, map, slice_index_or}
use Rattle.vx_flow.specs.Rows.{row_at}
use Rattle.vx_flow.specs.Walk.{numbers}
use Rattle.vx_mixed.specs.declared.layout.VirtualWord.{VirtualWord}
use Rattle.vx_mixed.specs.declared.layout.VWords.{VWords}
use Rattle.vx_layout.specs.Numbered.{is_word_of}
use Rattle.vx_target.specs.declared.finished.TracePlaces.{TracePlaces}
use Rattle.vx_slots.specs.declared.program.FunctionPlaces.{FunctionPlaces}
use Rattle.vx_slots.specs.Seen.{no_places}

-- the mark of a word, where it is one of region r
abbrev pub mark_in : (r : ℕ) → VirtualWord → (mark : ℕ) → List ℕ
mark_in r word mark = if is_word_of r word then mark ∷ [] else []

-- the marks of those words that are, where the first one is at place p
abbrev pub marks_in : (marks : List ℕ) (r p : ℕ) → List VirtualWord → List ℕ
marks_in marks r p [] = []
marks_in marks r p (word ∷ words) = mark_in r word (slice_index_or marks p 0) ++ marks_in marks r (suc p) words

-- those of each region of a layout
abbrev pub rows_of : (marks : List ℕ) → VWords → List (List ℕ)
rows_of marks l = map (λ r. marks_in marks r 0 l.words) (numbers 0 l.regions)

abbrev pub traced : List ℕ → TracePlaces
traced places = record { places = places }

-- those of all layouts, of which the first one is that of function f
abbrev pub all_traces : List FunctionPlaces → (f : ℕ) → List VWords → List TracePlaces
all_traces places f [] = []
all_traces places f (l ∷ ls) = map traced (rows_of (slice_index_or places f no_places).marks l) ++ all_traces places (suc f) ls

-- a word with this mark is put behind those of its region
pub record Noted (word : VirtualWord) (mark : ℕ) (old new : List (List ℕ)) : Type 0 where
  pub size : length new ≡ length old
  pub each : (r : ℕ) → r < length old → row_at new r ≡ row_at old r ++ mark_in r word mark
