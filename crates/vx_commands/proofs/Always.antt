-- Over no files the one status is that of the missing file, and over files with all names it is another. Of `soak` the one status
-- without boxes is that of the missing box, and with the box it is another.
use Rattle.std.proofs.Common.{◌≡◌, ◌≢◌, ◌⊎◌, inl, inr, ℕ, List, [], ◌∷◌, Option, Some, None, Err, Result, Ok, ℤ, refl, sym, ◌∙◌, ap, subst, ⊎_elim}
use Rattle.std.specs.Prelude.{codes}
use Rattle.std.proofs.lemmas.Bool.{cases_eq}
use Rattle.vx_io.specs.Outside.{Files}
use Rattle.vx_io.specs.declared.role.Role.{Role}
use Rattle.vx_io.specs.declared.role.Role.TheVariants.{Source as TheSource, Words as TheWords, Profile as TheProfile, Machine as TheMachine, Input as TheInput}
use Rattle.vx_isa.specs.declared.program.WordProgram.{WordProgram}
use Rattle.vx_isa.specs.Numbers.{Numbers}
use Rattle.vx_machine.specs.declared.description.MachineFault.{MachineFault}
use Rattle.vx_machine.specs.declared.description.MachineFault.TheVariants.{Bad, NoMemory as NoRoom}
use Rattle.vx_machine.specs.Descriptions.{reading as reading_machine}
use Rattle.vx_profile.specs.declared.fault.ProfileFault.{ProfileFault}
use Rattle.vx_profile.specs.declared.fault.ProfileFault.TheVariants.{BadLine, CountTooLarge, NoMemory as NoRoomForCounts}
use Rattle.vx_reader.specs.Text.{Fault as WordFault, reading}
use Rattle.vx_status.specs.declared.status.Status.{Status}
use Rattle.vx_status.specs.declared.status.Status.TheVariants.{Done, Trapped, Usage, Source, Limit, Words, Profile, Machine, NoFile, ReadFault, WriteFault, Stopped, Input, Stuck, NoMemory, NotStrict}
use Rattle.vx_status.specs.Status.{number_of}
use Rattle.vx_command.specs.Command.{Compilation, Execution, Profiling, Soaking, Command, Compile, Simulate, Execute, Count, Soak, Check}
use Rattle.vx_files.specs.InputText.{input_reading}
use Rattle.vx_probe.specs.Times.{always}
use Rattle.vx_runs.specs.Boxes.{Boxes, Chosen, chosen}
use Rattle.vx_files.specs.Held.{MachineFound, Is, Refused, TooLong, Missing, found_by, machine_found, input_as, input_found, RefusesProfile, status_of_profile}
use Rattle.vx_files.specs.Effects.{Effect, ReadsRose, SourceAnswers, ProfileAnswers, MachineAnswers, InputAnswers}
use Rattle.vx_commands.specs.Answers.{CompileAnswers, CompileEnds}
use Rattle.vx_runs.specs.Simulated.{Streams, BoxAnswers, Due, and_then, words_as, machine_as, with_input, loading, loading_machine, loading_input, RunAnswers, RunCompletes}
use Rattle.vx_commands.specs.Executed.{ExecEnds, ExecutionCompletes, ExecutionAnswers}
use Rattle.vx_runs.specs.Counted.{CountsAnswers, CountsEnd}
use Rattle.vx_runs.specs.Checking.{CheckDue}
use Rattle.vx_commands.specs.Soaked.{SoakedAnswers}
use Rattle.vx_commands.specs.Always.{MayAnswer, CanRead, NoStatusIsAlways, NoStatusOfSoakIsAlways}
use Rattle.vx_runs.proofs.Told.{told, told_or, not_missing}

-- no file, and an empty one under each name
abbrev nothing : Files
nothing name = None

abbrev all_empty : Files
all_empty name = Some []

-- the role of the file that a command reads first
abbrev first_role : Command → Role
first_role (Compile asked) = TheSource
first_role (Simulate asked) = TheWords
first_role (Execute asked) = TheSource
first_role (Count asked) = TheSource
first_role (Soak asked) = TheSource
first_role (Check asked) = TheWords

of_chosen : (P : Chosen → Type 0) (o : Option Chosen) (these : Chosen) (status : Status) → o ≡ Some these → BoxAnswers P o status → P these
of_chosen P o these status is h = subst (λ z. BoxAnswers P z status) is h

-- where no file is there, the status is that of the missing file
missing : (command : Command) (boxes : Boxes) (status : Status) → CanRead command boxes → MayAnswer command boxes nothing status → (status ≡ NoFile (first_role command)) ⊎ (status ≡ NoMemory)
missing (Compile asked) boxes status can m =
    (told (λ held. CompileEnds asked held status) m.effect.before nothing m.told (m.completes m.no_read_failed m.no_replacing_failed)).missing refl
missing (Simulate asked) boxes status can m =
    told (λ held. Due asked can.0.times (loading held asked.words asked.machine asked.input) status ⊎ (status ≡ NoMemory)) m.effect.before nothing m.told
    (of_chosen (RunCompletes asked m.effect status) (chosen asked.timing asked.probe boxes) can.0 status can.1 (m.completes m.no_read_failed m.no_output_failed m.no_line_failed))
missing (Execute asked) boxes status can m =
    (told (λ held. ExecEnds asked can.0.times held status) m.effect.before nothing m.told
    (of_chosen (ExecutionCompletes asked m.effect status) (chosen asked.timing asked.probe boxes) can.0 status can.1 (m.completes m.no_read_failed m.no_output_failed m.no_line_failed))).missing refl
missing (Count asked) boxes status can m =
    (told (λ held. CountsEnd asked held status) m.effect.before nothing m.told (m.completes m.no_read_failed m.no_output_failed)).missing refl
missing (Soak asked) boxes status can m = absurd can
missing (Check asked) boxes status can m =
    told (λ held. CheckDue (loading held asked.words asked.machine None) status ⊎ (status ≡ NoMemory)) m.effect.before nothing m.told (m.completes m.no_read_failed m.no_output_failed)

-- no file is missing where all are there, whatever they read as
module _ (role : Role) where
  no_machine : (machine : Option (List ℕ)) → machine_found all_empty machine ≡ Missing → ⊥
  no_machine None h = absurd (cc)
  no_machine (Some name) h = by (reading_machine []) h
    where
      by : (r : Result Numbers MachineFault) → found_by r ≡ Missing → ⊥
      by (Ok numbers) e = absurd (cc)
      by (Err fault) e = absurd (cc)

  no_input : (input : Option (List ℕ)) → input_found all_empty input ≡ Err (NoFile role) → ⊥
  no_input None h = absurd (cc)
  no_input (Some name) h = by (input_reading []) h
    where
      by : (r : Result (List ℤ) ℕ) → input_as r ≡ Err (NoFile role) → ⊥
      by (Ok numbers) e = absurd (cc)
      by (Err place) e = absurd (cc)

  no_profile : (profile : Option (List ℕ)) → RefusesProfile all_empty profile (NoFile role) → ⊥
  no_profile None h = absurd h
  no_profile (Some name) (inl h) = let e = h.status_is in absurd (cc)
  no_profile (Some name) (inr h) = by h.fault h.status_is
    where
      by : (fault : ProfileFault) → NoFile role ≡ status_of_profile fault → ⊥
      by (BadLine line) e = absurd (cc)
      by (CountTooLarge line) e = absurd (cc)
      by NoRoomForCounts e = absurd (cc)

  from_input : (program : WordProgram) (m : Numbers) (input : Option (List ℕ)) → loading_input all_empty program m input ≡ Err (NoFile role) → ⊥
  from_input program m input h = by (input_found all_empty input) refl h
    where
      by : (r : Result (List ℤ) Status) → input_found all_empty input ≡ r → and_then r (λ numbers. Ok (with_input program m numbers)) ≡ Err (NoFile role) → ⊥
      by (Ok numbers) is e = absurd (cc)
      by (Err why) is e = let w : why ≡ NoFile role = cc in no_input input (is ∙ ap Err w)

  from_machine : (program : WordProgram) (machine input : Option (List ℕ)) → loading_machine all_empty program machine input ≡ Err (NoFile role) → ⊥
  from_machine program machine input h = by (machine_found all_empty machine) refl h
    where
      by : (found : MachineFound) → machine_found all_empty machine ≡ found → and_then (machine_as found) (λ m. loading_input all_empty program m input) ≡ Err (NoFile role) → ⊥
      by (Is m) is e = from_input program m input e
      by (Refused (Bad code field)) is e = absurd (cc)
      by (Refused NoRoom) is e = absurd (cc)
      by TooLong is e = absurd (cc)
      by Missing is e = no_machine machine is

  all_load : (words : List ℕ) (machine input : Option (List ℕ)) → loading all_empty words machine input ≡ Err (NoFile role) → ⊥
  all_load words machine input h = by (reading []) h
    where
      by : (read : Result WordProgram WordFault) → and_then (words_as read) (λ program. loading_machine all_empty program machine input) ≡ Err (NoFile role) → ⊥
      by (Ok program) e = from_machine program machine input e
      by (Err fault) e = absurd (cc)

-- so no answer says that one is

module _ (e : Effect) (told_is : e.before ≡ Some all_empty) where
  of_source : (source : List ℕ) (role : Role) → SourceAnswers source e (NoFile role) → ⊥
  of_source source role a = not_missing (Some []) [] refl (told_or (ReadsRose e) (λ held. held source ≡ None) e.before all_empty told_is a.2)

  of_profile : (profile : Option (List ℕ)) (role : Role) → ProfileAnswers profile e (NoFile role) → ⊥
  of_profile profile role a = no_profile role profile (told_or (ReadsRose e) (λ held. RefusesProfile held profile (NoFile role)) e.before all_empty told_is a.2)

  of_machine : (machine : Option (List ℕ)) (role : Role) → MachineAnswers machine e (NoFile role) → ⊥
  of_machine machine role a = no_machine role machine (told_or (ReadsRose e) (λ held. machine_found held machine ≡ Missing) e.before all_empty told_is a.2)

  of_input : (input : Option (List ℕ)) (role : Role) → InputAnswers input e (NoFile role) → ⊥
  of_input input role a = no_input TheInput input (told_or (ReadsRose e) (λ held. input_found held input ≡ Err (NoFile TheInput)) e.before all_empty told_is a.2)

  of_compile : (asked : Compilation) (role : Role) → CompileAnswers asked e (NoFile role) → ⊥
  of_compile asked TheSource a = of_source asked.source TheSource a
  of_compile asked TheWords a = absurd a
  of_compile asked TheProfile a = of_profile asked.profile TheProfile a.answers
  of_compile asked TheMachine a = of_machine asked.machine TheMachine a.answers
  of_compile asked TheInput a = absurd a

  of_execution : (asked : Execution) (s : Streams) (these : Chosen) (role : Role) → ExecutionAnswers asked e s (NoFile role) these → ⊥
  of_execution asked s these TheSource a = of_source asked.source TheSource a
  of_execution asked s these TheWords a = absurd a
  of_execution asked s these TheProfile a = of_profile asked.profile TheProfile a.answers
  of_execution asked s these TheMachine a = of_machine asked.machine TheMachine a.answers
  of_execution asked s these TheInput a = of_input asked.input TheInput a.answers

  of_counts : (asked : Profiling) (s : Streams) (role : Role) → CountsAnswers asked e s (NoFile role) → ⊥
  of_counts asked s TheSource a = of_source asked.source TheSource a
  of_counts asked s TheWords a = absurd a
  of_counts asked s TheProfile a = absurd a
  of_counts asked s TheMachine a = absurd a
  of_counts asked s TheInput a = of_input asked.input TheInput a.answers

there : (command : Command) (boxes : Boxes) (role : Role) → CanRead command boxes → MayAnswer command boxes all_empty (NoFile role) → ⊥
there (Compile asked) boxes role can m = of_compile m.effect m.told asked role m.answers
there (Simulate asked) boxes role can m =
    let answers = of_chosen (λ these. RunAnswers asked these m.effect m.streams (NoFile role)) (chosen asked.timing asked.probe boxes) can.0 (NoFile role) can.1 m.answers.1 in
    all_load role asked.words asked.machine asked.input (told_or (ReadsRose m.effect) (λ held. loading held asked.words asked.machine asked.input ≡ Err (NoFile role)) m.effect.before all_empty m.told answers.1)
there (Execute asked) boxes role can m =
    of_execution m.effect m.told asked m.streams can.0 role
    (of_chosen (λ these. ExecutionAnswers asked m.effect m.streams (NoFile role) these) (chosen asked.timing asked.probe boxes) can.0 (NoFile role) can.1 m.answers.1)
there (Count asked) boxes role can m = of_counts m.effect m.told asked m.streams role m.answers.1
there (Soak asked) boxes role can m = absurd can
there (Check asked) boxes role can m =
    let answers = m.answers.1 in
    all_load role asked.words asked.machine None (told_or (ReadsRose m.effect) (λ held. loading held asked.words asked.machine None ≡ Err (NoFile role)) m.effect.before all_empty m.told answers.1)

-- a status is that of a missing file, or its number is another

data IsMissing (status : Status) : Type 0 where
  missing_file : (role : Role) → status ≡ NoFile role → IsMissing status
  of_another : number_of status ≢ 8 → IsMissing status

is_missing : (status : Status) → IsMissing status
is_missing (NoFile role) = missing_file role refl
is_missing Done = of_another (λ h. absurd (cc))
is_missing (Trapped trap) = of_another (λ h. absurd (cc))
is_missing Usage = of_another (λ h. absurd (cc))
is_missing (Source code line column) = of_another (λ h. absurd (cc))
is_missing (Limit number count) = of_another (λ h. absurd (cc))
is_missing (Words code line) = of_another (λ h. absurd (cc))
is_missing (Profile code line) = of_another (λ h. absurd (cc))
is_missing (Machine code field) = of_another (λ h. absurd (cc))
is_missing (ReadFault role) = of_another (λ h. absurd (cc))
is_missing WriteFault = of_another (λ h. absurd (cc))
is_missing Stopped = of_another (λ h. absurd (cc))
is_missing (Input place) = of_another (λ h. absurd (cc))
is_missing (Stuck reason place) = of_another (λ h. absurd (cc))
is_missing (NotStrict breach place) = of_another (λ h. absurd (cc))
is_missing NoMemory = of_another (λ h. absurd (cc))

pub no_status_is_always : NoStatusIsAlways
no_status_is_always command boxes number can wanted =
    ⊎_elim
    (λ e. (all_empty, λ status is m. over_all status (is ∙ e) m (is_missing status)))
    (λ n. (nothing, λ status is m. ⊎_elim (λ s. n (sym is ∙ ap number_of s)) (λ s. wanted (sym is ∙ ap number_of s)) (missing command boxes status can m)))
    (cases_eq number 8)
  where
    over_all : (status : Status) → number_of status ≡ 8 → MayAnswer command boxes all_empty status → IsMissing status → ⊥
    over_all status is m (missing_file role e) = there command boxes role can (subst (MayAnswer command boxes all_empty) e m)
    over_all status is m (of_another n) = n is

-- `soak`: no box, and one that is called `late`

abbrev no_boxes : Boxes
no_boxes = record { probes = []; timings = [] }

abbrev late : Chosen
late = record { times = always 0; watches = [] }

abbrev late_box : Boxes
late_box = record { probes = []; timings = record { name = codes "late"; times = late.times } ∷ [] }

is_late : chosen (codes "late") None late_box ≡ Some late
is_late = refl

not_usage : (asked : Soaking) (s : Streams) (status : Status) → number_of status ≡ 2 → SoakedAnswers asked s status late → ⊥
not_usage asked s Usage is a = a
not_usage asked s Done is a = absurd (cc)
not_usage asked s (Trapped trap) is a = absurd (cc)
not_usage asked s (Source code line column) is a = a
not_usage asked s (Limit number count) is a = a
not_usage asked s (Words code line) is a = a
not_usage asked s (Profile code line) is a = a
not_usage asked s (Machine code field) is a = a
not_usage asked s (NoFile role) is a = a
not_usage asked s (ReadFault role) is a = a
not_usage asked s WriteFault is a = absurd (cc)
not_usage asked s Stopped is a = absurd (cc)
not_usage asked s (Input place) is a = a
not_usage asked s (Stuck reason place) is a = a
not_usage asked s NoMemory is a = absurd (cc)
not_usage asked s (NotStrict breach place) is a = a

pub no_status_of_soak_is_always : NoStatusOfSoakIsAlways
no_status_of_soak_is_always asked number wanted =
    ⊎_elim
    (λ e. (late_box, λ held status is m. not_usage asked m.streams status (is ∙ e) (of_chosen (SoakedAnswers asked m.streams status) (chosen (codes "late") None late_box) late status is_late m.answers.1)))
    (λ n. (no_boxes, λ held status is m. ⊎_elim (λ s. n (sym is ∙ ap number_of s)) (λ s. wanted (sym is ∙ ap number_of s)) m.answers.1))
    (cases_eq number 2)
