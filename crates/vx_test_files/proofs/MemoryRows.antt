-- Worked values of the definitions on files in memory and on lines, by computation.
use Rattle.std.proofs.Common.{◌≡◌, ℕ, Bool, true, false, List, [], ◌∷◌, None, Some, refl}
use Rattle.vx_io.specs.Outside.{held_with}
use Rattle.vx_test_files.specs.Memory.{NamedFile, content_in, DepotMemory, next_fails, after_read, after_replace}
use Rattle.vx_test_files.specs.Lines.{TextLine, lines_of}

-- two files, of the names "a" and "b"
abbrev files : List NamedFile
files = record { name = 97 ∷ []; content = 1 ∷ 2 ∷ [] } ∷ record { name = 98 ∷ []; content = [] } ∷ []

held : (content_in files (97 ∷ []) ≡ Some (1 ∷ 2 ∷ [])) × (content_in files (98 ∷ []) ≡ Some []) × (content_in files (97 ∷ 98 ∷ []) ≡ None)
held = (refl, refl, refl)

replaced : (held_with (98 ∷ []) (7 ∷ []) (content_in files) (98 ∷ []) ≡ Some (7 ∷ []))
    × (held_with (98 ∷ []) (7 ∷ []) (content_in files) (97 ∷ []) ≡ Some (1 ∷ 2 ∷ []))
    × (held_with (99 ∷ []) [] (content_in files) (99 ∷ []) ≡ Some [])
replaced = (refl, refl, refl)

-- the third call fails
abbrev depot : ℕ → DepotMemory
depot calls = record { files = files; failing = 3 ∷ []; calls = calls; failed_reads = 0; failed_replaces = 0 }

failures : (next_fails (depot 1) ≡ false) × (next_fails (depot 2) ≡ true) × (next_fails (depot 3) ≡ false)
    × ((after_read (depot 2)).failed_reads ≡ 1) × ((after_read (depot 1)).failed_reads ≡ 0)
    × ((after_replace (depot 2) files).failed_replaces ≡ 1) × ((after_replace (depot 2) files).failed_reads ≡ 0)
failures = (refl, refl, refl, refl, refl, refl, refl)

abbrev line : List ℕ → Bool → TextLine
line bytes ended = record { bytes = bytes; ended = ended }

-- "", "ab", "ab\n", "\n\nc"
lines : (lines_of [] ≡ []) × (lines_of (97 ∷ 98 ∷ []) ≡ line (97 ∷ 98 ∷ []) false ∷ []) × (lines_of (97 ∷ 98 ∷ 10 ∷ []) ≡ line (97 ∷ 98 ∷ []) true ∷ [])
    × (lines_of (10 ∷ 10 ∷ 99 ∷ []) ≡ line [] true ∷ line [] true ∷ line (99 ∷ []) false ∷ [])
lines = (refl, refl, refl, refl)
