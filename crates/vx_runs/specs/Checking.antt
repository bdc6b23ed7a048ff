-- What `check` does: the program that the text of words spells is checked for the machine of the command, and what is found is told.
use Rattle.std.specs.Prelude.{◌≡◌, ◌⊎◌, ℕ, Bool, true, false, List, codes, None, IfSome, Result, Ok, Err}
use Rattle.vx_io.specs.Outside.{PutsFront, with_bytes}
use Rattle.vx_words.specs.Spelling.{Spells}
use Rattle.vx_check.specs.Checked.{Checks}
use Rattle.vx_check.specs.declared.verdict.Verdict.{Verdict}
use Rattle.vx_check.specs.declared.verdict.Verdict.TheVariants.{Yes, Unfit as UnfitAt, Pending as PendingAt}
use Rattle.vx_status.specs.declared.status.Breach.{Breach}
use Rattle.vx_status.specs.declared.status.Breach.TheVariants.{Unfit, Pending}
use Rattle.vx_status.specs.declared.status.Status.{Status}
use Rattle.vx_status.specs.declared.status.Status.TheVariants.{Done, WriteFault, NoMemory, NotStrict}
use Rattle.vx_command.specs.Command.{Checking}
use Rattle.vx_files.specs.Held.{DefaultUnless}
use Rattle.vx_files.specs.Effects.{Effect, ReadsRose, SameFiles}
use Rattle.vx_runs.specs.Simulated.{Loaded, loading, is_named, Stops, Streams, OutRose}

-- what is found where a word breaks what a strict program keeps
abbrev pub verdict_of : Breach → (place : ℕ) → Verdict
verdict_of Unfit place = UnfitAt place
verdict_of Pending place = PendingAt place

-- the status of what is found
abbrev pub status_of_verdict : Verdict → Status
status_of_verdict Yes = Done
status_of_verdict (UnfitAt place) = NotStrict Unfit place
status_of_verdict (PendingAt place) = NotStrict Pending place

-- the line of a strict program
abbrev pub strict_line : List ℕ
strict_line = codes "strict\n"

-- only that line is put on the output
abbrev pub puts_strict : Status → Bool
puts_strict Done = true
puts_strict WriteFault = true
puts_strict status = false

-- what was read is what the files hold, the file of the words is the text of the program, and this is what is found of it
pub record Checked (asked : Checking) (e : Effect) (verdict : Verdict) : Type 0 where
  pub loaded : Loaded
  pub loads : IfSome e.before (λ held. loading held asked.words asked.machine None ≡ Ok loaded)
  pub spells : IfSome e.before (λ held. IfSome (held asked.words) (λ content. Spells content loaded.program))
  pub machine_is : DefaultUnless asked.machine loaded.machine
  pub checks : Checks loaded.machine loaded.program verdict

-- of a checked program its status says what was found, and of any other the reading of the files
abbrev pub CheckingAnswers : Checking → Effect → Streams → Status → Type 0
CheckingAnswers asked e s Done = Checked asked e Yes × (s.out_after ≡ with_bytes s.out_before strict_line)
CheckingAnswers asked e s WriteFault = Checked asked e Yes × OutRose s × PutsFront s.out_before s.out_after strict_line
CheckingAnswers asked e s (NotStrict breach place) = Checked asked e (verdict_of breach place)
CheckingAnswers asked e s status = Stops (is_named asked.machine None) (λ held. loading held asked.words asked.machine None) e status

-- no file ever changes
abbrev pub CheckAnswers : Checking → Effect → Streams → Status → Type 0
CheckAnswers asked e s status = SameFiles e × CheckingAnswers asked e s status

-- where nothing fails: the status of the step that stops the command, or of what is found; want of memory is the one free answer

abbrev pub CheckDue : Result Loaded Status → Status → Type 0
CheckDue (Err why) status = status ≡ why
CheckDue (Ok x) status = (verdict : Verdict) × Checks x.machine x.program verdict × (status ≡ status_of_verdict verdict)

abbrev pub CheckCompletes : Checking → Effect → Streams → Status → Type 0
CheckCompletes asked e s status = (ReadsRose e → ⊥) → (OutRose s → ⊥) → IfSome e.before (λ held. CheckDue (loading held asked.words asked.machine None) status ⊎ (status ≡ NoMemory))

-- what the steps hand on

-- what is put of what is found: of a strict program its line, whole or a front of it, and of any other nothing
pub data PutsVerdict (verdict : Verdict) (s : Streams) (status : Status) : Type 0 where
  whole : verdict ≡ Yes → status ≡ Done → s.out_after ≡ with_bytes s.out_before strict_line → PutsVerdict verdict s status
  cut : verdict ≡ Yes → status ≡ WriteFault → OutRose s → PutsFront s.out_before s.out_after strict_line → PutsVerdict verdict s status
  broken : (breach : Breach) (place : ℕ) → verdict ≡ verdict_of breach place → status ≡ NotStrict breach place → PutsVerdict verdict s status

-- what was read is checked, and what is found is put, or memory is wanted
abbrev pub LoadedChecked : Loaded → Streams → Status → Type 0
LoadedChecked x s status = (status ≡ NoMemory) ⊎ ((verdict : Verdict) × Checks x.machine x.program verdict × PutsVerdict verdict s status)
