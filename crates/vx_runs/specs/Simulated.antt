-- What `sim` does: the word machine, of the program that the text of words spells, on the machine and the input of the
-- command, with the first boxes of the asked names.
use Rattle.std.specs.Prelude.{◌≡◌, ◌≤◌, ◌⊎◌, ℕ, ◌++◌, Bool, true, false, ℤ, List, [], ◌∷◌, codes, is_some, Option, Some, None, IfSome, MatchOption, Result, Ok, Err}
use Rattle.std.specs.List.{flat_map}
use Rattle.std.specs.Fmt.{signed_decimal}
use Rattle.vx_base.specs.Outcome.{Outcome, Ends, Traps, Goes, Stuck as StuckAt, Wrong, Begins, output_of}
use Rattle.vx_io.specs.Outside.{Files, Rose, with_bytes}
use Rattle.vx_io.specs.declared.role.Role.{Role}
use Rattle.vx_io.specs.declared.role.Role.TheVariants.{Source as TheSource, Words as TheWords, Profile as TheProfile, Machine as TheMachine, Input as TheInput}
use Rattle.vx_isa.specs.declared.program.WordProgram.{WordProgram}
use Rattle.vx_isa.specs.Numbers.{Numbers}
use Rattle.vx_isa.specs.Machine.{State, start, issuing_machine, words_from}
use Rattle.vx_machine.specs.declared.description.MachineFault.TheVariants.{Bad, NoMemory as NoRoom}
use Rattle.vx_probe.specs.Times.{Times, list_of}
use Rattle.vx_probe.specs.Watch.{Watch, shown_all}
use Rattle.vx_probe.specs.declared.event.Event.{Event}
use Rattle.vx_sim.specs.Passed.{events_from}
use Rattle.vx_words.specs.Spelling.{Spells}
use Rattle.vx_reader.specs.Text.{Fault, reading}
use Rattle.vx_status.specs.declared.status.Status.{Status}
use Rattle.vx_status.specs.declared.status.Status.TheVariants.{Done, Trapped, Usage, Source, Limit, Words, Profile, Machine, NoFile, ReadFault, WriteFault, Stopped, Input, Stuck, NoMemory, NotStrict}
use Rattle.vx_status.specs.Status.{Tells, TellsWith, status_line}
use Rattle.vx_command.specs.Command.{Simulation}
use Rattle.vx_runs.specs.Boxes.{Boxes, Chosen, chosen, report_line}
use Rattle.vx_files.specs.Held.{MachineFound, Is, Refused, TooLong, Missing, found_in, machine_found, file_in, input_in, input_found, DefaultUnless, EmptyUnless}
use Rattle.vx_files.specs.Effects.{Effect, ReadsRose, SameFiles, OfFile}

-- what is read before the run, or the status of the first step that stops the command

abbrev pub most_words_bytes : ℕ
most_words_bytes = 536870912

abbrev pub and_then : {A B : Type 0} → Result A Status → (A → Result B Status) → Result B Status
and_then (Ok a) more = more a
and_then (Err status) more = Err status

abbrev pub words_as : Result WordProgram Fault → Result WordProgram Status
words_as (Ok program) = Ok program
words_as (Err fault) = Err (Words fault.code fault.line)

abbrev pub words_in : Option (List ℕ) → Result WordProgram Status
words_in file = file_in TheWords most_words_bytes (Limit 9 536870913) (λ content. words_as (reading content)) file

abbrev pub machine_as : MachineFound → Result Numbers Status
machine_as (Is numbers) = Ok numbers
machine_as (Refused (Bad code field)) = Err (Machine code field)
machine_as (Refused NoRoom) = Err NoMemory
machine_as TooLong = Err (Limit 11 65537)
machine_as Missing = Err (NoFile TheMachine)

pub record Loaded : Type 0 where
  pub program : WordProgram
  pub machine : Numbers
  pub input : List ℤ

abbrev pub with_input : WordProgram → Numbers → List ℤ → Loaded
with_input program machine input = record { program = program; machine = machine; input = input }

-- what stands for the files that are not named
pub record AreDefaults (machine input : Option (List ℕ)) (x : Loaded) : Type 0 where
  pub machine_is : DefaultUnless machine x.machine
  pub input_is : EmptyUnless input x.input

-- the words, the machine and the input, each whole before the next

abbrev pub loading_input : Files → WordProgram → Numbers → Option (List ℕ) → Result Loaded Status
loading_input held program machine input = and_then (input_found held input) (λ numbers. Ok (with_input program machine numbers))

abbrev pub loading_machine : Files → WordProgram → (machine input : Option (List ℕ)) → Result Loaded Status
loading_machine held program machine input = and_then (machine_as (machine_found held machine)) (λ m. loading_input held program m input)

abbrev pub loading : Files → (words : List ℕ) → (machine input : Option (List ℕ)) → Result Loaded Status
loading held words machine input = and_then (words_in (held words)) (λ program. loading_machine held program machine input)

-- a role of the files that are named
abbrev pub is_named : (machine input : Option (List ℕ)) → Role → Bool
is_named machine input TheSource = false
is_named machine input TheWords = true
is_named machine input TheProfile = false
is_named machine input TheMachine = is_some machine
is_named machine input TheInput = is_some input

-- the status of a file that is too long: the count is one past its limit
abbrev pub status_of_too_long : Role → Status
status_of_too_long TheSource = Limit 1 1048577
status_of_too_long TheWords = Limit 9 536870913
status_of_too_long TheProfile = Limit 10 16777217
status_of_too_long TheMachine = Limit 11 65537
status_of_too_long TheInput = Limit 12 16777217

-- the status is that of a named file that is too long
pub record IsTooLong (named : Role → Bool) (status : Status) : Type 0 where
  pub role : Role
  pub among : named role ≡ true
  pub status_is : status ≡ status_of_too_long role

-- a status by which the reading of files stops a command: of the files that the depot tells; where it tells none, a fault is one
-- of some bytes of a named file, and of a file that is missing or cannot be read only the counts speak
abbrev pub Stops : {A : Type 0} → (Role → Bool) → (Files → Result A Status) → Effect → Status → Type 0
Stops named found e Done = ⊥
Stops named found e (Trapped trap) = ⊥
Stops named found e Usage = ⊥
Stops named found e (Source code line column) = ⊥
Stops named found e (Limit number count) = IsTooLong named (Limit number count) × IfSome e.before (λ held. found held ≡ Err (Limit number count))
Stops named found e (Words code line) = OfFile e.before (λ held. found held ≡ Err (Words code line)) (λ content. words_in (Some content) ≡ Err (Words code line))
Stops named found e (Profile code line) = ⊥
Stops named found e (Machine code field) =
    (named TheMachine ≡ true) × OfFile e.before (λ held. found held ≡ Err (Machine code field)) (λ content. found_in (Some content) ≡ Refused (Bad code field))
Stops named found e (NoFile role) = (named role ≡ true) × MatchOption e.before (ReadsRose e) (λ held. found held ≡ Err (NoFile role))
Stops named found e (ReadFault role) = (named role ≡ true) × ReadsRose e
Stops named found e WriteFault = ⊥
Stops named found e Stopped = ⊥
Stops named found e (Input place) = (named TheInput ≡ true) × OfFile e.before (λ held. found held ≡ Err (Input place)) (λ content. input_in (Some content) ≡ Err (Input place))
Stops named found e (Stuck reason place) = ⊥
Stops named found e (NotStrict breach place) = ⊥
Stops named found e NoMemory = Unit {0}

-- the run; the words are issued by the machine with as many branches a word as their version allows

module _ (x : Loaded) (times : Times) where
  -- the next landing time is that at the place of the timing
  abbrev pub begun : State
  begun = record (start x.program x.input) { asked = times.place }

  abbrev pub outcome_within : ℕ → Outcome
  outcome_within n = words_from (issuing_machine x.program x.machine) (list_of times) x.program n begun

  abbrev pub events_within : ℕ → List Event
  events_within n = events_from (issuing_machine x.program x.machine) (list_of times) x.program n begun

-- the status of an outcome
abbrev pub IsStatusOf : Outcome → Status → Type 0
IsStatusOf (Ends z out) status = status ≡ Done
IsStatusOf (Traps k out) status = status ≡ Trapped k
IsStatusOf (Goes out) status = status ≡ Stopped
IsStatusOf (StuckAt why p out) status = status ≡ Stuck why p
IsStatusOf (Wrong out) status = ⊥

-- each probe's text of its list over the events, a line each
abbrev pub reports_of : List Watch → List Event → List ℕ
reports_of watches events = flat_map (λ w. report_line (shown_all events w)) watches

abbrev pub result_line : ℤ → List ℕ
result_line z = codes "result " ++ signed_decimal z ++ 10 ∷ []

-- the bytes that the two sinks tell before the call and after it, and their counts of faults
pub record Streams : Type 0 where
  pub out_before : Option (List ℕ)
  pub out_after : Option (List ℕ)
  pub err_before : Option (List ℕ)
  pub err_after : Option (List ℕ)
  pub out_faults_before : ℕ
  pub out_faults_after : ℕ
  pub err_faults_before : ℕ
  pub err_faults_after : ℕ

abbrev pub streams_of : {K E : Type 0} → (told : K → Option (List ℕ)) → (faults : K → ℕ) → (told' : E → Option (List ℕ)) → (faults' : E → ℕ) → (out out' : K) → (err err' : E) → Streams
streams_of told faults told' faults' out out' err err' = record {
  out_before = told out;
  out_after = told out';
  err_before = told' err;
  err_after = told' err';
  out_faults_before = faults out;
  out_faults_after = faults out';
  err_faults_before = faults' err;
  err_faults_after = faults' err';
}

abbrev pub OutRose : Streams → Type 0
OutRose s = Rose s.out_faults_before s.out_faults_after

abbrev pub ErrRose : Streams → Type 0
ErrRose s = Rose s.err_faults_before s.err_faults_after

-- a line on the error stream, and one with a line behind it and reports
abbrev pub ErrTells : (line : List ℕ) → Streams → Type 0
ErrTells line s = Tells line s.err_before s.err_after s.err_faults_before s.err_faults_after

abbrev pub ErrTellsWith : (line next reports : List ℕ) → Streams → Type 0
ErrTellsWith line next reports s = TellsWith line next reports s.err_before s.err_after s.err_faults_before s.err_faults_after

-- what the lines of a run put: the result, the line behind it and the reports; of a trap its line, the one behind it and the
-- reports; else the line of the status and the reports
abbrev pub Shows : Outcome → (line reports : List ℕ) → Streams → Type 0
Shows (Ends z out) line reports s = s.err_after ≡ with_bytes s.err_before (result_line z ++ line ++ reports)
Shows (Traps k out) line reports s = ErrTellsWith (status_line (Trapped k)) line reports s
Shows (Goes out) line reports s = ErrTellsWith (status_line Stopped) [] reports s
Shows (StuckAt why p out) line reports s = ErrTellsWith (status_line (Stuck why p)) [] reports s
Shows (Wrong out) line reports s = ⊥

-- what was read is what the files hold, and the file of the words is the text of the program
pub record Loads (held : Files) (asked : Simulation) (x : Loaded) : Type 0 where
  pub is : loading held asked.words asked.machine asked.input ≡ Ok x
  pub spells : IfSome (held asked.words) (λ content. Spells content x.program)

-- a run of what was read within the budget of the command: its output is put, whole, and its lines
pub record RunEnds (asked : Simulation) (boxes : Chosen) (e : Effect) (s : Streams) (status : Status) : Type 0 where
  pub loaded : Loaded
  pub loads : IfSome e.before (λ held. Loads held asked loaded)
  pub defaults : AreDefaults asked.machine asked.input loaded
  pub status_is : IsStatusOf (outcome_within loaded boxes.times asked.budget) status
  pub put : s.out_after ≡ with_bytes s.out_before (output_of (outcome_within loaded boxes.times asked.budget))
  pub shown : Shows (outcome_within loaded boxes.times asked.budget) [] (reports_of boxes.watches (events_within loaded boxes.times asked.budget)) s

-- the output is cut: a front of what the run prints within the budget is put, and the line of that status
pub record OutputCut (x : Loaded) (times : Times) (budget : ℕ) (s : Streams) : Type 0 where
  pub rose : OutRose s
  pub told : ErrTells (status_line WriteFault) s
  pub bound : ℕ
  pub within : bound ≤ budget
  pub front : List ℕ
  pub begins : Begins front (output_of (outcome_within x times bound))
  pub put : s.out_after ≡ with_bytes s.out_before front

abbrev pub IsEnd : Outcome → Type 0
IsEnd (Ends z out) = Unit {0}
IsEnd other = ⊥

-- a front of a line, a front of the one behind it, and a front of the reports
pub record Fronts (line next reports bytes : List ℕ) : Type 0 where
  pub front : List ℕ
  pub begins : Begins front line
  pub middle : List ℕ
  pub follows : Begins middle next
  pub back : List ℕ
  pub reported : Begins back reports
  pub is : bytes ≡ front ++ middle ++ back

-- bytes begin the lines of a run: with a result they are a front of the result, the line behind it and the reports; by a trap
-- fronts of its line, of the one behind it and of the reports; else fronts of the line of the status and of the reports
abbrev pub BeginsLines : Outcome → (line reports bytes : List ℕ) → Type 0
BeginsLines (Ends z out) line reports bytes = Begins bytes (result_line z ++ line ++ reports)
BeginsLines (Traps k out) line reports bytes = Fronts (status_line (Trapped k)) line reports bytes
BeginsLines (Goes out) line reports bytes = Fronts (status_line Stopped) [] reports bytes
BeginsLines (StuckAt why p out) line reports bytes = Fronts (status_line (Stuck why p)) [] reports bytes
BeginsLines (Wrong out) line reports bytes = ⊥

-- what was put begins the lines of a run, and a front of `write fault` stands behind it
pub record TellsFault (outcome : Outcome) (line reports : List ℕ) (s : Streams) : Type 0 where
  pub front : List ℕ
  pub begins : BeginsLines outcome line reports front
  pub back : List ℕ
  pub follows : Begins back (status_line WriteFault)
  pub put : s.err_after ≡ with_bytes s.err_before (front ++ back)

-- the output is put, whole, and the result, a line behind it or a report is not
pub record LinesCut (x : Loaded) (times : Times) (budget : ℕ) (line : List ℕ) (watches : List Watch) (probe : Option (List ℕ)) (s : Streams) : Type 0 where
  pub rose : ErrRose s
  pub wanted : IsEnd (outcome_within x times budget) ⊎ (is_some probe ≡ true)
  pub put : s.out_after ≡ with_bytes s.out_before (output_of (outcome_within x times budget))
  pub told : TellsFault (outcome_within x times budget) line (reports_of watches (events_within x times budget)) s

pub record RunCut (asked : Simulation) (boxes : Chosen) (e : Effect) (s : Streams) : Type 0 where
  pub loaded : Loaded
  pub loads : IfSome e.before (λ held. Loads held asked loaded)
  pub defaults : AreDefaults asked.machine asked.input loaded
  pub cut : OutputCut loaded boxes.times asked.budget s ⊎ LinesCut loaded boxes.times asked.budget [] boxes.watches asked.probe s

-- a run was begun
abbrev pub is_of_run : Status → Bool
is_of_run Done = true
is_of_run (Trapped trap) = true
is_of_run WriteFault = true
is_of_run Stopped = true
is_of_run (Stuck reason place) = true
is_of_run status = false

-- of a run its status says what it says, and of any other the reading of the files
abbrev pub RunAnswers : Simulation → Chosen → Effect → Streams → Status → Type 0
RunAnswers asked boxes e s Done = RunEnds asked boxes e s Done
RunAnswers asked boxes e s (Trapped trap) = RunEnds asked boxes e s (Trapped trap)
RunAnswers asked boxes e s WriteFault = RunCut asked boxes e s
RunAnswers asked boxes e s Stopped = RunEnds asked boxes e s Stopped
RunAnswers asked boxes e s (Stuck reason place) = RunEnds asked boxes e s (Stuck reason place)
RunAnswers asked boxes e s status = Stops (is_named asked.machine asked.input) (λ held. loading held asked.words asked.machine asked.input) e status

-- a box that is not there is answered Usage, unless memory is wanted
abbrev pub BoxAnswers : (Chosen → Type 0) → Option Chosen → Status → Type 0
BoxAnswers answers None status = (status ≡ Usage) ⊎ (status ≡ NoMemory)
BoxAnswers answers (Some boxes) status = answers boxes

-- no file ever changes
abbrev pub SimAnswers : Simulation → Boxes → Effect → Streams → Status → Type 0
SimAnswers asked boxes e s status = SameFiles e × BoxAnswers (λ these. RunAnswers asked these e s status) (chosen asked.timing asked.probe boxes) status

-- where nothing fails: the status of the step that stops the command, or of the outcome; want of memory is the one
-- free answer

abbrev pub Due : Simulation → Times → Result Loaded Status → Status → Type 0
Due asked times (Err why) status = status ≡ why
Due asked times (Ok x) status = IsStatusOf (outcome_within x times asked.budget) status

abbrev pub RunCompletes : Simulation → Effect → Status → Chosen → Type 0
RunCompletes asked e status boxes =
    IfSome e.before (λ held. Due asked boxes.times (loading held asked.words asked.machine asked.input) status ⊎ (status ≡ NoMemory))

abbrev pub SimCompletes : Simulation → Boxes → Effect → Streams → Status → Type 0
SimCompletes asked boxes e s status =
    (ReadsRose e → ⊥) → (OutRose s → ⊥) → (ErrRose s → ⊥) → BoxAnswers (RunCompletes asked e status) (chosen asked.timing asked.probe boxes) status
