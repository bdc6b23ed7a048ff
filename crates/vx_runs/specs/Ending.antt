-- How a run of the simulator ends, as a status and as lines.
use Rattle.std.specs.Prelude.{◌≡◌, ◌<◌, ◌⊎◌, ℕ, ◌+◌, ◌++◌, Bool, true, false, List, [], ◌∷◌, codes, decimal, length, map, Option, Some, None}
use Rattle.vx_base.specs.Outcome.{Begins, output_of}
use Rattle.vx_io.specs.Outside.{Rose, with_bytes}
use Rattle.vx_probe.specs.Times.{Times}
use Rattle.vx_probe.specs.Watch.{Watch, shown_all}
use Rattle.vx_sim.specs.Ran.{is_fault, outcome_of}
use Rattle.vx_sim.specs.declared.ended.Ended.{Ended}
use Rattle.vx_sim.specs.declared.ended.Ended.TheVariants.{Halted, Trapped as TrappedBy, Stopped as StoppedAt, Stuck as StuckAt, SinkFault}
use Rattle.vx_status.specs.declared.status.Status.{Status}
use Rattle.vx_status.specs.declared.status.Status.TheVariants.{Done, Trapped, Usage, WriteFault, Stopped, Stuck, NoMemory}
use Rattle.vx_runs.specs.declared.loaded.LoadedFiles.{LoadedFiles}
use Rattle.vx_status.specs.Status.{Tells, no_box_line, status_line}
use Rattle.vx_runs.specs.Simulated.{Loaded, with_input, outcome_within, events_within, result_line, Streams, ErrRose, Shows, OutputCut, IsEnd, IsStatusOf, reports_of, BeginsLines, TellsFault}

-- what was read, as a definition has it
abbrev pub loaded_of : LoadedFiles → Loaded
loaded_of files = with_input files.program files.machine files.input.items

abbrev pub status_as : Ended → Status
status_as (Halted z) = Done
status_as (TrappedBy trap) = Trapped trap
status_as StoppedAt = Stopped
status_as (StuckAt reason place) = Stuck reason place
status_as SinkFault = WriteFault

-- the line of an end: the result, else the line of its status
abbrev pub end_line : Ended → List ℕ
end_line (Halted z) = result_line z
end_line ended = status_line (status_as ended)

-- that of a result is put; of that of a status a front, and all of it where the count of faults did not rise
abbrev pub ShowsLine : Ended → (before after : Option (List ℕ)) → (faults faults' : ℕ) → Type 0
ShowsLine (Halted z) before after faults faults' = after ≡ with_bytes before (result_line z)
ShowsLine ended before after faults faults' = Tells (status_line (status_as ended)) before after faults faults'

-- the line of the words that a run issued, behind that of its end
abbrev pub issued_line : ℕ → List ℕ
issued_line n = codes "issued " ++ decimal n ++ 10 ∷ []

-- the line of the words that a run issued, where a command tells it
abbrev pub told_line : Bool → ℕ → List ℕ
told_line true issued = issued_line issued
told_line false issued = []

-- the line of the words behind that of an end with a result or by a trap
abbrev pub ShowsIssued : Ended → (line : List ℕ) → (before after : Option (List ℕ)) → (faults faults' : ℕ) → Type 0
ShowsIssued (Halted z) line before after faults faults' = after ≡ with_bytes before line
ShowsIssued (TrappedBy trap) line before after faults faults' = Tells line before after faults faults'
ShowsIssued ended line before after faults faults' = after ≡ before

-- the error stream, beside an output on which nothing is told
abbrev pub err_alone : (before after : Option (List ℕ)) → (faults faults' : ℕ) → Streams
err_alone before after faults faults' = record {
  out_before = None;
  out_after = None;
  err_before = before;
  err_after = after;
  out_faults_before = 0;
  out_faults_after = 0;
  err_faults_before = faults;
  err_faults_after = faults';
}

-- what the lines of an end put, whatever its output
abbrev pub ShowsEnd : Ended → (line reports : List ℕ) → (before after : Option (List ℕ)) → (faults faults' : ℕ) → Type 0
ShowsEnd ended line reports before after faults faults' = Shows (outcome_of ended []) line reports (err_alone before after faults faults')

-- bytes that begin the lines of an end were put
pub record CutsEnd (ended : Ended) (line reports : List ℕ) (before after : Option (List ℕ)) : Type 0 where
  pub front : List ℕ
  pub begins : BeginsLines (outcome_of ended []) line reports front
  pub put : after ≡ with_bytes before front

-- and behind them a front of `write fault`
abbrev pub EndFault : Ended → (line reports : List ℕ) → (before after : Option (List ℕ)) → (faults faults' : ℕ) → Type 0
EndFault ended line reports before after faults faults' = TellsFault (outcome_of ended []) line reports (err_alone before after faults faults')

abbrev pub IsHalted : Ended → Type 0
IsHalted (Halted z) = Unit {0}
IsHalted ended = ⊥

-- the run of what was read, within the budget, from where the timing stands
pub record RanWhole (x : Loaded) (times : Times) (budget : ℕ) (watches watches' : List Watch) (told told' : Option (List ℕ)) (ended : Ended) : Type 0 where
  pub outcome : outcome_within x times budget ≡ outcome_of ended (output_of (outcome_within x times budget))
  pub put : told' ≡ with_bytes told (output_of (outcome_within x times budget))
  pub seen : watches' ≡ map (shown_all (events_within x times budget)) watches

-- a front of its output is put
pub record RanPartly (x : Loaded) (times : Times) (budget : ℕ) (told told' : Option (List ℕ)) : Type 0 where
  pub bound : ℕ
  pub below : bound < budget
  pub front : List ℕ
  pub begins : Begins front (output_of (outcome_within x times (bound + 1)))
  pub put : told' ≡ with_bytes told front

pub record RunOf (x : Loaded) (times : Times) (budget : ℕ) (watches watches' : List Watch) (told told' : Option (List ℕ)) (ended : Ended) : Type 0 where
  pub whole : is_fault ended ≡ false → RanWhole x times budget watches watches' told told' ended
  pub partly : is_fault ended ≡ true → RanPartly x times budget told told'

-- the lines of an end are put, or the result, the line behind it or a report is not, and the fault is told behind them
abbrev pub Finishes : Ended → (line reports : List ℕ) → (probes : ℕ) → (before after : Option (List ℕ)) → (faults faults' : ℕ) → Status → Type 0
Finishes ended line reports probes before after faults faults' status =
    ((status ≡ status_as ended) × ShowsEnd ended line reports before after faults faults')
    ⊎ ((status ≡ WriteFault) × Rose faults faults' × (IsHalted ended ⊎ (0 < probes)) × EndFault ended line reports before after faults faults')

-- the output is put, whole, and the result, the line behind it or a report is not
pub record UnputLines (x : Loaded) (times : Times) (budget : ℕ) (tells : Bool) (watches : List Watch) (s : Streams) : Type 0 where
  pub rose : ErrRose s
  pub wanted : IsEnd (outcome_within x times budget) ⊎ (0 < length watches)
  pub put : s.out_after ≡ with_bytes s.out_before (output_of (outcome_within x times budget))
  pub told : TellsFault (outcome_within x times budget) (told_line tells (length (events_within x times budget))) (reports_of watches (events_within x times budget)) s

-- the output is put, whole, and the lines, where the command tells the words that were issued or not
pub record IsRunOf (x : Loaded) (times : Times) (budget : ℕ) (tells : Bool) (watches : List Watch) (s : Streams) (status : Status) : Type 0 where
  pub status_is : IsStatusOf (outcome_within x times budget) status
  pub put : s.out_after ≡ with_bytes s.out_before (output_of (outcome_within x times budget))
  pub shown : Shows (outcome_within x times budget) (told_line tells (length (events_within x times budget))) (reports_of watches (events_within x times budget)) s

-- the run of what was read, with its lines
abbrev pub LoadedAnswers : Loaded → Times → (budget : ℕ) → Bool → List Watch → Streams → Status → Type 0
LoadedAnswers x times budget tells watches s NoMemory = Unit {0}
LoadedAnswers x times budget tells watches s WriteFault = OutputCut x times budget s ⊎ UnputLines x times budget tells watches s
LoadedAnswers x times budget tells watches s status = IsRunOf x times budget tells watches s status

-- the line of a probe that is not there, or that memory is wanted for
abbrev pub TellsProbe : (name : Option (List ℕ)) → Status → (before after : Option (List ℕ)) → (faults faults' : ℕ) → Type 0
TellsProbe (Some name) Usage before after faults faults' = Tells (no_box_line name) before after faults faults'
TellsProbe name status before after faults faults' = Tells (status_line status) before after faults faults'
