-- The laws of refused texts of words, each the clause of a public function.
use Rattle.std.specs.Prelude.{◌≡◌, ℕ, ◌^◌, ◌<◌, List, length, Some}
use Rattle.vx_reader.specs.Text.{Fault, text_fault}
use Rattle.vx_causes.specs.Causes.{IsFault}

-- what a reader finds in a text of less than 4 GiB is its fault
abbrev pub FoundIsFault : Type 0
FoundIsFault = (bytes : List ℕ) → length bytes < 2 ^ 32 → (fault : Fault) → text_fault bytes ≡ Some fault → IsFault bytes fault

-- and the fault of a text is what a reader finds
abbrev pub FaultIsFound : Type 0
FaultIsFound = (bytes : List ℕ) → length bytes < 2 ^ 32 → (fault : Fault) → IsFault bytes fault → text_fault bytes ≡ Some fault
