-- What `exec` does: the word machine, of words that are compiled from the source, on the machine and the input of the
-- command, with the first boxes of the asked names; and what the source has of that run.
use Rattle.std.specs.Prelude.{◌≡◌, ◌<◌, ◌≤◌, ◌⊎◌, ℕ, true, ℤ, List, is_some, Option, Some, None, IfSome, Ok, Err}
use Rattle.vx_base.specs.Outcome.{Outcome, Ends, Traps, Goes, IsGoing, Begins, output_of}
use Rattle.vx_io.specs.Outside.{Files, with_bytes}
use Rattle.vx_io.specs.declared.role.Role.{Role}
use Rattle.vx_io.specs.declared.role.Role.TheVariants.{Source as TheSource, Profile as TheProfile, Machine as TheMachine, Input as TheInput}
use Rattle.vx_isa.specs.declared.program.WordProgram.{WordProgram}
use Rattle.vx_isa.specs.Numbers.{Numbers}
use Rattle.vx_ast.specs.Tree.{Program}
use Rattle.vx_ast.specs.Meaning.{source}
use Rattle.vx_ast.specs.Reads.{Refusal}
use Rattle.vx_ast.specs.declared.fault.SourceFault.{SourceFault}
use Rattle.vx_probe.specs.Times.{Times}
use Rattle.vx_profile.specs.declared.counts.Counts.{Counts}
use Rattle.vx_report.specs.declared.plan.Plan.{Plan}
use Rattle.vx_status.specs.declared.status.Status.{Status}
use Rattle.vx_status.specs.declared.status.Status.TheVariants.{Done, Trapped, Usage, Source, Limit, Words, Profile, Machine, NoFile, ReadFault, WriteFault, Stopped, Input, Stuck, NoMemory, NotStrict}
use Rattle.vx_command.specs.Command.{Execution}
use Rattle.vx_runs.specs.Boxes.{Boxes, Chosen, chosen}
use Rattle.vx_compiled.specs.Compiled.{Compiled}
use Rattle.vx_compiled.specs.Faithful.{Faithful}
use Rattle.vx_files.specs.Held.{AreCounts, HoldsProgram, Accepts, status_of, Is, machine_found, ProfileStands, RefusesProfile, input_found}
use Rattle.vx_files.specs.Effects.{Effect, ReadsRose, SameFiles, SourceAnswers, InputAnswers}
use Rattle.vx_commands.specs.Answers.{StopsAtProfile, StopsAtMachine}
use Rattle.vx_runs.specs.Simulated.{Loaded, with_input, machine_as, outcome_within, events_within, reports_of, AreDefaults, Streams, Shows, OutRose, ErrRose, OutputCut, LinesCut, BoxAnswers}
use Rattle.vx_runs.specs.Ending.{issued_line}
use Rattle.vx_unroll.specs.Unrolling.{UnrolledBy}
use Rattle.vx_rewrite.specs.Rewritten.{Rewritten}

-- the run

-- a run comes to this outcome within so many words, and not within fewer; one that goes on has had the whole budget
pub record Issues (run : ℕ → Outcome) (budget : ℕ) (outcome : Outcome) (issued : ℕ) : Type 0 where
  pub comes : run issued ≡ outcome
  pub within : issued ≤ budget
  pub least : (fewer : ℕ) → fewer < issued → IsGoing (run fewer)
  pub all : IsGoing outcome → issued ≡ budget

-- with some loop bound the source has this outcome
pub record SourceHas (p : Program) (input : List ℤ) (outcome : Outcome) : Type 0 where
  pub bound : ℕ
  pub is : source p input bound ≡ outcome

-- some output of the source begins so
pub record SourceBegins (p : Program) (input : List ℤ) (front : List ℕ) : Type 0 where
  pub bound : ℕ
  pub begins : Begins front (output_of (source p input bound))

-- what a run of words has to do with the source: its end is the source's end, with the same output; what goes on has put
-- a front of an output of the source
abbrev pub InSource : Program → List ℤ → Outcome → Type 0
InSource p input (Ends z out) = SourceHas p input (Ends z out)
InSource p input (Traps k out) = SourceHas p input (Traps k out)
InSource p input (Goes out) = SourceBegins p input out
InSource p input other = ⊥

-- what is read for a run: the program of the source, the profile, the machine, and the input
pub record AllHeld (held : Files) (asked : Execution) (p : Program) (m : Numbers) (numbers : List ℤ) : Type 0 where
  pub program_is : HoldsProgram held asked.source p
  pub profiled : ProfileStands held asked.profile
  pub machine_is : machine_found held asked.machine ≡ Is m
  pub input_is : input_found held asked.input ≡ Ok numbers

-- words that are compiled from the program that was read, with its loops unrolled, calls inlined and diamonds converted where that is
-- asked, and by the profile that was read, for the machine that was read and with the growth that is asked, by some plan; they do what the program does
pub record CompiledBy (told : Option Files) (profile : Option (List ℕ)) (growth : ℕ) (unroll inline select : Option ℕ) (p : Program) (m : Numbers) (w : WordProgram) : Type 0 where
  pub counts : Counts
  pub counted : IfSome told (λ held. AreCounts held profile counts)
  pub unrolled : Program
  pub turns : UnrolledBy unroll p unrolled
  pub plan : Plan
  pub compiled : Compiled unrolled counts m growth w plan
  pub rewritten : Rewritten unrolled inline select compiled.flow
  pub faithful : Faithful p m w

-- such words, with the machine and the input that were read
pub record Prepared (asked : Execution) (e : Effect) (x : Loaded) : Type 0 where
  pub source_program : Program
  pub read : IfSome e.before (λ held. AllHeld held asked source_program x.machine x.input)
  pub defaults : AreDefaults asked.machine asked.input x
  pub by : CompiledBy e.before asked.profile asked.growth asked.rewriting.unroll asked.rewriting.inline asked.rewriting.select source_program x.machine x.program

-- the run of such words comes to this outcome within the budget of the command, and so does the source; its output is
-- put, whole, and its lines, with the reports of the probes over the words that were issued
pub record Runs (asked : Execution) (boxes : Chosen) (e : Effect) (s : Streams) (outcome : Outcome) : Type 0 where
  pub words : Loaded
  pub ready : Prepared asked e words
  pub issued : ℕ
  pub issues : Issues (outcome_within words boxes.times) asked.budget outcome issued
  pub in_source : InSource ready.source_program words.input outcome
  pub put : s.out_after ≡ with_bytes s.out_before (output_of outcome)
  pub shown : Shows outcome (issued_line issued) (reports_of boxes.watches (events_within words boxes.times issued)) s

-- a front of an output of the source is put
pub record PutsFront (p : Program) (input : List ℤ) (s : Streams) : Type 0 where
  pub front : List ℕ
  pub begins : SourceBegins p input front
  pub put : s.out_after ≡ with_bytes s.out_before front

-- the output of a run of such words is cut, or it is put, whole, and a line is not, that of the words that were issued among them
pub record RunsCut (asked : Execution) (boxes : Chosen) (e : Effect) (s : Streams) : Type 0 where
  pub words : Loaded
  pub ready : Prepared asked e words
  pub fronts : PutsFront ready.source_program words.input s
  pub in_source : InSource ready.source_program words.input (outcome_within words boxes.times asked.budget)
  pub issued : ℕ
  pub issues : Issues (outcome_within words boxes.times) asked.budget (outcome_within words boxes.times asked.budget) issued
  pub cut : OutputCut words boxes.times asked.budget s ⊎ LinesCut words boxes.times asked.budget (issued_line issued) boxes.watches asked.probe s

-- the steps before the run: the source, the profile, the machine, the input, each whole before the next

-- the input of a command is looked at only where one is named, the source is accepted and the profile and the machine stand
pub record StopsAtInput (asked : Execution) (e : Effect) (status : Status) : Type 0 where
  pub named : is_some asked.input ≡ true
  pub accepted : IfSome e.before (λ held. Accepts held asked.source)
  pub profiled : IfSome e.before (λ held. ProfileStands held asked.profile)
  pub machine : Numbers
  pub machine_is : IfSome e.before (λ held. machine_found held asked.machine ≡ Is machine)
  pub answers : InputAnswers asked.input e status

abbrev pub StopsAt : Role → Execution → Effect → Status → Type 0
StopsAt TheSource asked e status = SourceAnswers asked.source e status
StopsAt TheProfile asked e status = StopsAtProfile asked.source asked.profile e status
StopsAt TheMachine asked e status = StopsAtMachine asked.source asked.profile asked.machine e status
StopsAt TheInput asked e status = StopsAtInput asked e status
StopsAt role asked e status = ⊥

-- the answers

abbrev pub ExecutionAnswers : Execution → Effect → Streams → Status → Chosen → Type 0
ExecutionAnswers asked e s Done boxes = (z : ℤ) × (out : List ℕ) × Runs asked boxes e s (Ends z out)
ExecutionAnswers asked e s (Trapped trap) boxes = (out : List ℕ) × Runs asked boxes e s (Traps trap out)
ExecutionAnswers asked e s Usage boxes = ⊥
ExecutionAnswers asked e s (Source code line column) boxes = StopsAt TheSource asked e (Source code line column)
ExecutionAnswers asked e s (Limit number count) boxes =
    StopsAt TheSource asked e (Limit number count) ⊎ StopsAt TheProfile asked e (Limit number count) ⊎ StopsAt TheMachine asked e (Limit number count) ⊎ StopsAt TheInput asked e (Limit number count)
ExecutionAnswers asked e s (Words code line) boxes = ⊥
ExecutionAnswers asked e s (Profile code line) boxes = StopsAt TheProfile asked e (Profile code line)
ExecutionAnswers asked e s (Machine code field) boxes = StopsAt TheMachine asked e (Machine code field)
ExecutionAnswers asked e s (NoFile role) boxes = StopsAt role asked e (NoFile role)
ExecutionAnswers asked e s (ReadFault role) boxes = StopsAt role asked e (ReadFault role)
ExecutionAnswers asked e s WriteFault boxes = RunsCut asked boxes e s
ExecutionAnswers asked e s Stopped boxes = (out : List ℕ) × Runs asked boxes e s (Goes out)
ExecutionAnswers asked e s (Input place) boxes = StopsAt TheInput asked e (Input place)
ExecutionAnswers asked e s (Stuck reason place) boxes = ⊥
ExecutionAnswers asked e s (NotStrict breach place) boxes = ⊥
ExecutionAnswers asked e s NoMemory boxes = Unit {0}

-- no file ever changes
abbrev pub ExecAnswers : Execution → Boxes → Effect → Streams → Status → Type 0
ExecAnswers asked boxes e s status = SameFiles e × BoxAnswers (ExecutionAnswers asked e s status) (chosen asked.timing asked.probe boxes) status

-- where nothing fails; want of memory is the one free answer

-- words of the program go on with the whole budget
pub record GoesOn (asked : Execution) (held : Files) (p : Program) (m : Numbers) (input : List ℤ) (times : Times) : Type 0 where
  pub words : WordProgram
  pub by : CompiledBy (Some held) asked.profile asked.growth asked.rewriting.unroll asked.rewriting.inline asked.rewriting.select p m words
  pub going : IsGoing (outcome_within (with_input words m input) times asked.budget)

-- as the source ends, or as its words go on
abbrev pub EndsAs : Execution → Files → Program → Numbers → List ℤ → Times → Status → Type 0
EndsAs asked held p m input times Done = (z : ℤ) × (out : List ℕ) × SourceHas p input (Ends z out)
EndsAs asked held p m input times (Trapped k) = (out : List ℕ) × SourceHas p input (Traps k out)
EndsAs asked held p m input times Stopped = GoesOn asked held p m input times
EndsAs asked held p m input times status = ⊥

pub record ExecEnds (asked : Execution) (times : Times) (held : Files) (status : Status) : Type 0 where
  pub accepted : (p : Program) (m : Numbers) (numbers : List ℤ) → AllHeld held asked p m numbers → EndsAs asked held p m numbers times status ⊎ (status ≡ NoMemory)
  pub refused : (content : List ℕ) (fault : SourceFault) → held asked.source ≡ Some content → Refusal content fault → (status ≡ status_of fault) ⊎ (status ≡ NoMemory)
  pub missing : held asked.source ≡ None → (status ≡ NoFile TheSource) ⊎ (status ≡ NoMemory)
  pub no_profile : (why : Status) → Accepts held asked.source → RefusesProfile held asked.profile why → (status ≡ why) ⊎ (status ≡ NoMemory)
  pub no_machine : (why : Status) → Accepts held asked.source → ProfileStands held asked.profile → machine_as (machine_found held asked.machine) ≡ Err why → (status ≡ why) ⊎ (status ≡ NoMemory)
  pub no_input : (m : Numbers) (why : Status) → Accepts held asked.source → ProfileStands held asked.profile → machine_found held asked.machine ≡ Is m → input_found held asked.input ≡ Err why → (status ≡ why) ⊎ (status ≡ NoMemory)

abbrev pub ExecutionCompletes : Execution → Effect → Status → Chosen → Type 0
ExecutionCompletes asked e status boxes = IfSome e.before (λ held. ExecEnds asked boxes.times held status)

abbrev pub ExecCompletes : Execution → Boxes → Effect → Streams → Status → Type 0
ExecCompletes asked boxes e s status =
    (ReadsRose e → ⊥) → (OutRose s → ⊥) → (ErrRose s → ⊥) → BoxAnswers (ExecutionCompletes asked e status) (chosen asked.timing asked.probe boxes) status
