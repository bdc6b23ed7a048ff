-- What the replacing of the files of `compile` says.
use Rattle.std.specs.Prelude.{◌≡◌, ◌≢◌, ◌⊎◌, ℕ, List, Option, Some, None}
use Rattle.vx_io.specs.Outside.{with_file, ReplacesPartly}
use Rattle.vx_status.specs.declared.status.Status.{Status}
use Rattle.vx_status.specs.declared.status.Status.TheVariants.{Done, WriteFault, NoMemory}
use Rattle.vx_files.specs.Effects.{Effect, ReplacesRose, SameFiles}

-- what the replacing of a file by a text says
abbrev pub WriteAnswers : (name text : List ℕ) → Effect → Status → Type 0
WriteAnswers name text e Done = e.after ≡ with_file e.before name text
WriteAnswers name text e WriteFault = ReplacesRose e × ReplacesPartly e.before e.after name text
WriteAnswers name text e NoMemory = SameFiles e
WriteAnswers name text e status = ⊥

-- the same from the files on in which a first file was replaced
abbrev pub once_written : (name text : List ℕ) → Effect → Effect
once_written name text e = record e { before = with_file e.before name text }

-- what the replacing of the output's file by the one text says, and then that of the report's file by the other, where one is asked
abbrev pub ReportAnswers : (out text : List ℕ) → Option (List ℕ) → (report : List ℕ) → Effect → Status → Type 0
ReportAnswers out text None report e status = WriteAnswers out text e status
ReportAnswers out text (Some name) report e status = ((status ≢ Done) × WriteAnswers out text e status) ⊎ WriteAnswers name report (once_written out text e) status
