-- The answers of `sim` from those of its steps, and what they exclude where nothing fails.
use Rattle.std.proofs.Common.{◌≡◌, ◌⊎◌, inl, inr, ℕ, List, Option, Some, None, true, Bool, Result, Err, IfSome, MatchOption, refl, sym, subst}
use Rattle.vx_io.specs.Outside.{Files, Rose}
use Rattle.vx_io.specs.declared.role.Role.{Role}
use Rattle.vx_io.specs.declared.role.Role.TheVariants.{Machine as TheMachine, Input as TheInput}
use Rattle.vx_probe.specs.Times.{Times}
use Rattle.vx_status.specs.declared.status.Status.{Status}
use Rattle.vx_status.specs.declared.status.Status.TheVariants.{Done, Trapped, Usage, Source, Limit, Words, Profile, Machine, NoFile, ReadFault, WriteFault, Stopped, Input, Stuck, NoMemory, NotStrict}
use Rattle.vx_command.specs.Command.{Simulation}
use Rattle.vx_runs.specs.Boxes.{Boxes, Chosen, chosen}
use Rattle.vx_machine.specs.declared.description.MachineFault.TheVariants.{Bad}
use Rattle.vx_files.specs.Held.{Refused, found_in, input_in}
use Rattle.vx_files.specs.Effects.{Effect, ReadsRose, OfFile}
use Rattle.vx_runs.specs.Simulated.{loading, words_in, is_named, IsTooLong, Stops, Streams, OutRose, ErrRose, Loads, RunEnds, RunCut, RunAnswers, BoxAnswers, SimAnswers, Due, RunCompletes, SimCompletes}
use Rattle.vx_runs.proofs.Since.{rose_since, Since}

-- where nothing fails

told : (P : Files → Type 0) (b : Option Files) (held : Files) → b ≡ Some held → IfSome b P → P held
told P b held is h = subst (λ o. IfSome o P) is h

told_or : (Q : Type 0) (P : Files → Type 0) (b : Option Files) (held : Files) → b ≡ Some held → MatchOption b Q P → P held
told_or Q P b held is h = subst (λ o. MatchOption o Q P) is h

told_of : (P : Files → Type 0) (Q : List ℕ → Type 0) (b : Option Files) (held : Files) → b ≡ Some held → OfFile b P Q → P held
told_of P Q b held is h = subst (λ o. OfFile o P Q) is h

-- what stops a command is what the files come to, or want of memory
module _ {A : Type 0} (named : Role → Bool) (found : Files → Result A Status) (e : Effect) (held : Files) (is : e.before ≡ Some held) (quiet_reads : ReadsRose e → ⊥) where
  fault : (Q : List ℕ → Type 0) (status : Status) → OfFile e.before (λ h. found h ≡ Err status) Q → (found held ≡ Err status) ⊎ (status ≡ NoMemory)
  fault Q status a = inl (told_of (λ h. found h ≡ Err status) Q e.before held is a)

  pub stops_held : (status : Status) → Stops named found e status → (found held ≡ Err status) ⊎ (status ≡ NoMemory)
  stops_held Done a = absurd a
  stops_held (Trapped trap) a = absurd a
  stops_held Usage a = absurd a
  stops_held (Source code line column) a = absurd a
  stops_held (Limit number count) a = inl (told (λ h. found h ≡ Err (Limit number count)) e.before held is a.1)
  stops_held (Words code line) a = fault (λ content. words_in (Some content) ≡ Err (Words code line)) (Words code line) a
  stops_held (Profile code line) a = absurd a
  stops_held (Machine code field) a = fault (λ content. found_in (Some content) ≡ Refused (Bad code field)) (Machine code field) a.1
  stops_held (NoFile role) a = inl (told_or (ReadsRose e) (λ h. found h ≡ Err (NoFile role)) e.before held is a.1)
  stops_held (ReadFault role) a = absurd (quiet_reads a.1)
  stops_held WriteFault a = absurd a
  stops_held Stopped a = absurd a
  stops_held (Input place) a = fault (λ content. input_in (Some content) ≡ Err (Input place)) (Input place) a.1
  stops_held (Stuck reason place) a = absurd a
  stops_held (NotStrict breach place) a = absurd a
  stops_held NoMemory a = inr refl

due_stop : (asked : Simulation) (times : Times) (held : Files) (status : Status) → loading held asked.words asked.machine asked.input ≡ Err status →
    Due asked times (loading held asked.words asked.machine asked.input) status
due_stop asked times held status is = subst (λ r. Due asked times r status) (sym is) refl

due_run : (asked : Simulation) (boxes : Chosen) (e : Effect) (s : Streams) (held : Files) (status : Status) → e.before ≡ Some held → RunEnds asked boxes e s status →
    Due asked boxes.times (loading held asked.words asked.machine asked.input) status
due_run asked boxes e s held status is r =
    let l : Loads held asked r.loaded = told (λ h. Loads h asked r.loaded) e.before held is r.loads in
    subst (λ x. Due asked boxes.times x status) (sym l.is) r.status_is

not_cut : (asked : Simulation) (boxes : Chosen) (e : Effect) (s : Streams) → (OutRose s → ⊥) → (ErrRose s → ⊥) → RunCut asked boxes e s → ⊥
not_cut asked boxes e s quiet_out quiet_err r = elim r.cut [ inl cut ↦ quiet_out cut.rose | inr cut ↦ quiet_err cut.rose ]

module _ (asked : Simulation) (boxes : Chosen) (e : Effect) (s : Streams) (held : Files) (is : e.before ≡ Some held) (quiet_reads : ReadsRose e → ⊥) (quiet_out : OutRose s → ⊥) (quiet_err : ErrRose s → ⊥) where
  abbrev Dues : Status → Type 0
  Dues status = Due asked boxes.times (loading held asked.words asked.machine asked.input) status ⊎ (status ≡ NoMemory)

  stop : (status : Status) → Stops (is_named asked.machine asked.input) (λ h. loading h asked.words asked.machine asked.input) e status → Dues status
  stop status a = elim (stops_held (is_named asked.machine asked.input) (λ h. loading h asked.words asked.machine asked.input) e held is quiet_reads status a) [
    | inl why ↦ inl (due_stop asked boxes.times held status why)
    | inr memory ↦ inr memory
  ]

  dues : (status : Status) → RunAnswers asked boxes e s status → Dues status
  dues Done a = inl (due_run asked boxes e s held Done is a)
  dues (Trapped trap) a = inl (due_run asked boxes e s held (Trapped trap) is a)
  dues WriteFault a = absurd (not_cut asked boxes e s quiet_out quiet_err a)
  dues Stopped a = inl (due_run asked boxes e s held Stopped is a)
  dues (Stuck reason place) a = inl (due_run asked boxes e s held (Stuck reason place) is a)
  dues status a = stop status a

run_completes : (asked : Simulation) (boxes : Chosen) (e : Effect) (s : Streams) (status : Status) (b : Option Files) → e.before ≡ b → (ReadsRose e → ⊥) → (OutRose s → ⊥) → (ErrRose s → ⊥) →
    RunAnswers asked boxes e s status → IfSome b (λ held. Due asked boxes.times (loading held asked.words asked.machine asked.input) status ⊎ (status ≡ NoMemory))
run_completes asked boxes e s status None is quiet_reads quiet_out quiet_err a = tt
run_completes asked boxes e s status (Some held) is quiet_reads quiet_out quiet_err a = dues asked boxes e s held is quiet_reads quiet_out quiet_err status a

pub box_completes : (answers due : Chosen → Type 0) (boxes : Option Chosen) (status : Status) → ((these : Chosen) → answers these → due these) → BoxAnswers answers boxes status → BoxAnswers due boxes status
box_completes answers due None status more a = a
box_completes answers due (Some boxes) status more a = more boxes a

pub sim_completes : (asked : Simulation) (boxes : Boxes) (e : Effect) (s : Streams) (status : Status) → SimAnswers asked boxes e s status → SimCompletes asked boxes e s status
sim_completes asked boxes e s status a = λ quiet_reads quiet_out quiet_err.
    box_completes (λ these. RunAnswers asked these e s status) (RunCompletes asked e status) (chosen asked.timing asked.probe boxes) status
    (λ these h. run_completes asked these e s status e.before refl quiet_reads quiet_out quiet_err h) a.1

-- the reading of files that stops

module _ {A B : Type 0} (named named' : Role → Bool) (found : Files → Result A Status) (found' : Files → Result B Status) (e f : Effect)
    (names : (role : Role) → named role ≡ true → named' role ≡ true) (since : Since e f)
    (stops : (held : Files) → f.before ≡ Some held → (status : Status) → found held ≡ Err status → found' held ≡ Err status) where
  told_on : (status : Status) (b : Option Files) → f.before ≡ b → IfSome b (λ held. found held ≡ Err status) → IfSome b (λ held. found' held ≡ Err status)
  told_on status None is h = tt
  told_on status (Some held) is h = stops held is status h

  on : (status : Status) → IfSome e.before (λ held. found held ≡ Err status) → IfSome f.before (λ held. found' held ≡ Err status)
  on status h = told_on status f.before refl (subst (λ b. IfSome b (λ held. found held ≡ Err status)) (sym since.before) h)

  said_on : (Q : List ℕ → Type 0) (status : Status) (b : Option Files) → f.before ≡ b → OfFile b (λ held. found held ≡ Err status) Q → OfFile b (λ held. found' held ≡ Err status) Q
  said_on Q status None is h = h
  said_on Q status (Some held) is h = stops held is status h

  of_file_on : (Q : List ℕ → Type 0) (status : Status) → OfFile e.before (λ held. found held ≡ Err status) Q → OfFile f.before (λ held. found' held ≡ Err status) Q
  of_file_on Q status h = said_on Q status f.before refl (subst (λ b. OfFile b (λ held. found held ≡ Err status) Q) (sym since.before) h)

  too_long_on : (status : Status) → IsTooLong named status → IsTooLong named' status
  too_long_on status h = record { role = h.role; among = names h.role h.among; status_is = h.status_is }

  rose_on : ReadsRose e → ReadsRose f
  rose_on rose = rose_since f.reads_before e.reads_before f.reads_after since.reads (subst (λ n. Rose e.reads_before n) (sym since.reads_after) rose)

  missing_on : (status : Status) (b : Option Files) → f.before ≡ b → MatchOption b (ReadsRose e) (λ held. found held ≡ Err status) → MatchOption b (ReadsRose f) (λ held. found' held ≡ Err status)
  missing_on status None is h = rose_on h
  missing_on status (Some held) is h = stops held is status h

  pub stops_on : (status : Status) → Stops named found e status → Stops named' found' f status
  stops_on Done a = absurd a
  stops_on (Trapped trap) a = absurd a
  stops_on Usage a = absurd a
  stops_on (Source code line column) a = absurd a
  stops_on (Limit number count) a = (too_long_on (Limit number count) a.0, on (Limit number count) a.1)
  stops_on (Words code line) a = of_file_on (λ content. words_in (Some content) ≡ Err (Words code line)) (Words code line) a
  stops_on (Profile code line) a = absurd a
  stops_on (Machine code field) a = (names TheMachine a.0, of_file_on (λ content. found_in (Some content) ≡ Refused (Bad code field)) (Machine code field) a.1)
  stops_on (NoFile role) a =
      (names role a.0, missing_on (NoFile role) f.before refl (subst (λ b. MatchOption b (ReadsRose e) (λ held. found held ≡ Err (NoFile role))) (sym since.before) a.1))
  stops_on (ReadFault role) a = (names role a.0, rose_on a.1)
  stops_on WriteFault a = absurd a
  stops_on Stopped a = absurd a
  stops_on (Input place) a = (names TheInput a.0, of_file_on (λ content. input_in (Some content) ≡ Err (Input place)) (Input place) a.1)
  stops_on (Stuck reason place) a = absurd a
  stops_on (NotStrict breach place) a = absurd a
  stops_on NoMemory a = tt
