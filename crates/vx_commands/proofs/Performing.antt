-- A command that was performed, from what its steps say.
use Rattle.std.proofs.Common.{◌≡◌, ◌∙◌, ◌⊎◌, ℕ, List, [], Bool, true, false, Option, Some, None, refl, sym, subst, arith}
use Rattle.std.specs.Prelude.{◌≢◌, ◌≤◌, codes}
use Rattle.vx_status.specs.declared.status.Status.{Status}
use Rattle.vx_status.specs.declared.status.Status.TheVariants.{Usage, NoMemory}
use Rattle.vx_status.specs.Status.{Adds, no_box_line, status_line}
use Rattle.vx_command.specs.Command.{Command, Count, Execute, Execution, Profiling, Soak, Soaking}
use Rattle.vx_probe.specs.Times.{Times}
use Rattle.vx_probe.specs.Watch.{Watch}
use Rattle.vx_runs.specs.Boxes.{Boxes, Chosen, probes_named, timing_named, unknown_name}
use Rattle.vx_files.specs.Effects.{Effect, SameFiles}
use Rattle.vx_runs.specs.Ending.{TellsProbe}
use Rattle.vx_runs.specs.Lines.{TellsRun}
use Rattle.vx_runs.specs.Simulated.{Streams, ErrTells, is_of_run}
use Rattle.vx_runs.proofs.Telling.{no_timing_told, probe_told, refused_line, run_told, these_told, timing_told}
use Rattle.vx_runs.specs.Counted.{ProfilingAnswers}
use Rattle.vx_commands.specs.Soaked.{SoakedAnswers}
use Rattle.vx_runs.specs.Summary.{puts_summary}
use Rattle.vx_runs.specs.Reading.{OnlyReads}
use Rattle.vx_commands.specs.Performed.{ExecutionPerformed, Performed, PerformedAs}
use Rattle.vx_commands.specs.Stopping.{StopsBefore}
use Rattle.vx_commands.proofs.Boxed.{exec_boxes_there, exec_no_probes, exec_no_timing, refused_answers, soak_no_timing, soak_timing_there}
use Rattle.vx_commands.proofs.Executing.{stops_told}

-- nothing was done with the files and the output
pub record IsUntouched (e : Effect) (s : Streams) : Type 0 where
  pub files : SameFiles e
  pub reads : e.reads_after ≡ e.reads_before
  pub replaces : e.replaces_after ≡ e.replaces_before
  pub output : s.out_after ≡ s.out_before
  pub faults : s.out_faults_after ≡ s.out_faults_before

same_is_least : (a b : ℕ) → b ≡ a → a ≤ b
same_is_least a b same = omega arith

module _ (command : Option Command) (boxes : Boxes) (e : Effect) (s : Streams) (status : Status) where
  -- what the words ask for
  pub performed_of : (asked : Option Command) → command ≡ asked → Performed asked boxes e s status → Performed command boxes e s status
  performed_of asked is p = subst (λ c. Performed c boxes e s status) (sym is) p

  -- the words are refused
  pub performed_refused : IsUntouched e s → ((status ≡ NoMemory) ⊎ ((status ≡ Usage) × (command ≡ None))) → (status ≢ Usage → ErrTells (status_line status) s) →
      Adds s.err_before s.err_after s.err_faults_before s.err_faults_after → Performed command boxes e s status
  performed_refused is why tells adds = record {
    answers = refused_answers command boxes e s status is.files why;
    line = refused_line command boxes s status why tells;
    nothing = λ none. is.output;
    adds = adds;
    reads_never_fall = same_is_least e.reads_before e.reads_after is.reads;
    replaces_never_fall = same_is_least e.replaces_before e.replaces_after is.replaces;
    out_never_falls = same_is_least s.out_faults_before s.out_faults_after is.faults;
  }

  -- the same where files may have been read
  pub read_refused : OnlyReads e → s.out_after ≡ s.out_before → s.out_faults_after ≡ s.out_faults_before → ((status ≡ NoMemory) ⊎ ((status ≡ Usage) × (command ≡ None))) → (status ≢ Usage → ErrTells (status_line status) s) →
      Adds s.err_before s.err_after s.err_faults_before s.err_faults_after → Performed command boxes e s status
  read_refused reads output faults why tells adds = record {
    answers = refused_answers command boxes e s status reads.files why;
    line = refused_line command boxes s status why tells;
    nothing = λ none. output;
    adds = adds;
    reads_never_fall = reads.reads;
    replaces_never_fall = reads.replaces;
    out_never_falls = same_is_least s.out_faults_before s.out_faults_after faults;
  }

  -- words that name no command, or for which there is no memory
  pub performed_none : (named : Bool) → IsUntouched e s → ((status ≡ NoMemory) ⊎ ((status ≡ Usage) × (command ≡ None))) → ErrTells (status_line status) s →
      Adds s.err_before s.err_after s.err_faults_before s.err_faults_after → PerformedAs named command boxes e s status
  performed_none named is why tells adds = record { performed = performed_refused is why (λ other. tells) adds; no_command = λ none. tells }

  -- words that name a command
  pub performed_named : (named : Bool) (asked : Option Command) → named ≡ true → command ≡ asked → Performed asked boxes e s status → PerformedAs named command boxes e s status
  performed_named named asked yes_named is p = record { performed = performed_of asked is p; no_command = λ none. let both : false ≡ true = sym none ∙ yes_named in absurd cc }

-- of an execution

-- a step before the run stops it
pub execution_stopped : (asked : Execution) (these : Chosen) (e : Effect) (s : Streams) (status told : Status) → told ≡ status → OnlyReads e → s.out_after ≡ s.out_before → s.out_faults_after ≡ s.out_faults_before →
    StopsBefore asked e status → ErrTells (status_line told) s → Adds s.err_before s.err_after s.err_faults_before s.err_faults_after → ExecutionPerformed asked these e s told
execution_stopped asked these e s status told same reads output faults stops tells adds = record {
  files = reads.files;
  answers = stops_told asked e s these status told same stops;
  line = run_told s told tells;
  nothing = λ none. output;
  adds = adds;
  reads_never_fall = reads.reads;
  replaces_never_fall = reads.replaces;
  out_never_falls = same_is_least s.out_faults_before s.out_faults_after faults;
}

module _ (asked : Execution) (boxes : Boxes) (e : Effect) (s : Streams) (status : Status) where
  pub execution_with : (times : Times) (watches : List Watch) → Some times ≡ timing_named asked.timing boxes.timings → probes_named asked.probe boxes.probes ≡ Some watches →
      ExecutionPerformed asked (record { times = times; watches = watches }) e s status → Performed (Some (Execute asked)) boxes e s status
  execution_with times watches timing probes p = record {
    answers = exec_boxes_there asked boxes e s status p.files times watches timing probes p.answers;
    line = these_told (TellsRun s) s asked.timing asked.probe boxes (unknown_name asked.timing asked.probe boxes) times watches status timing probes p.line;
    nothing = p.nothing;
    adds = p.adds;
    reads_never_fall = p.reads_never_fall;
    replaces_never_fall = p.replaces_never_fall;
    out_never_falls = p.out_never_falls;
  }

  pub execution_without_timing : IsUntouched e s → None ≡ timing_named asked.timing boxes.timings → status ≡ Usage → ErrTells (no_box_line asked.timing) s →
      Adds s.err_before s.err_after s.err_faults_before s.err_faults_after → Performed (Some (Execute asked)) boxes e s status
  execution_without_timing is none usage tells adds = record {
    answers = exec_no_timing asked boxes e s status is.files none usage;
    line = timing_told (TellsRun s) s asked.timing asked.probe boxes status none usage tells;
    nothing = λ no_run. is.output;
    adds = adds;
    reads_never_fall = same_is_least e.reads_before e.reads_after is.reads;
    replaces_never_fall = same_is_least e.replaces_before e.replaces_after is.replaces;
    out_never_falls = same_is_least s.out_faults_before s.out_faults_after is.faults;
  }

  pub execution_without_probes : (times : Times) → IsUntouched e s → Some times ≡ timing_named asked.timing boxes.timings → ((status ≡ NoMemory) ⊎ ((status ≡ Usage) × (probes_named asked.probe boxes.probes ≡ None))) →
      TellsProbe asked.probe status s.err_before s.err_after s.err_faults_before s.err_faults_after → Adds s.err_before s.err_after s.err_faults_before s.err_faults_after → Performed (Some (Execute asked)) boxes e s status
  execution_without_probes times is timing why tells adds = record {
    answers = exec_no_probes asked boxes e s status is.files why;
    line = probe_told (TellsRun s) s asked.timing asked.probe boxes times status timing why (λ t. t) tells;
    nothing = λ no_run. is.output;
    adds = adds;
    reads_never_fall = same_is_least e.reads_before e.reads_after is.reads;
    replaces_never_fall = same_is_least e.replaces_before e.replaces_after is.replaces;
    out_never_falls = same_is_least s.out_faults_before s.out_faults_after is.faults;
  }

-- of the counts

module _ (asked : Profiling) (boxes : Boxes) (e : Effect) (s : Streams) (status : Status) (reads : OnlyReads e) where
  pub count_performed : ProfilingAnswers asked e s status → is_of_run status ≡ true → ErrTells (status_line status) s → Adds s.err_before s.err_after s.err_faults_before s.err_faults_after → s.out_faults_before ≤ s.out_faults_after →
      Performed (Some (Count asked)) boxes e s status
  count_performed answers run tells adds faults = record {
    answers = answers;
    line = tells;
    nothing = λ none. let both : false ≡ true = sym none ∙ run in absurd cc;
    adds = adds;
    reads_never_fall = reads.reads;
    replaces_never_fall = reads.replaces;
    out_never_falls = faults;
  }

  pub count_stopped : s.out_after ≡ s.out_before → s.out_faults_after ≡ s.out_faults_before → ProfilingAnswers asked e s status → ErrTells (status_line status) s →
      Adds s.err_before s.err_after s.err_faults_before s.err_faults_after → Performed (Some (Count asked)) boxes e s status
  count_stopped output faults answers tells adds = record {
    answers = answers;
    line = tells;
    nothing = λ none. output;
    adds = adds;
    reads_never_fall = reads.reads;
    replaces_never_fall = reads.replaces;
    out_never_falls = same_is_least s.out_faults_before s.out_faults_after faults;
  }

-- of a made source

module _ (asked : Soaking) (boxes : Boxes) (e : Effect) (s : Streams) (status : Status) (reads : OnlyReads e) where
  pub soak_performed : (times : Times) → Some times ≡ timing_named (codes "late") boxes.timings → SoakedAnswers asked s status (record { times = times; watches = [] }) → ErrTells (status_line status) s →
      (puts_summary status ≡ false → s.out_after ≡ s.out_before) → Adds s.err_before s.err_after s.err_faults_before s.err_faults_after → s.out_faults_before ≤ s.out_faults_after → Performed (Some (Soak asked)) boxes e s status
  soak_performed times timing answers tells nothing adds faults = record {
    answers = soak_timing_there asked boxes e s status reads.files times timing answers;
    line = these_told (λ other. ErrTells (status_line other) s) s (codes "late") None boxes (codes "late") times [] status timing refl tells;
    nothing = nothing;
    adds = adds;
    reads_never_fall = reads.reads;
    replaces_never_fall = reads.replaces;
    out_never_falls = faults;
  }

  pub soak_without_timing : s.out_after ≡ s.out_before → s.out_faults_after ≡ s.out_faults_before → None ≡ timing_named (codes "late") boxes.timings → status ≡ Usage → ErrTells (no_box_line (codes "late")) s →
      Adds s.err_before s.err_after s.err_faults_before s.err_faults_after → Performed (Some (Soak asked)) boxes e s status
  soak_without_timing output faults none usage tells adds = record {
    answers = soak_no_timing asked boxes e s status reads.files none usage;
    line = no_timing_told (λ other. ErrTells (status_line other) s) s (codes "late") None boxes (codes "late") status none usage tells;
    nothing = λ other. output;
    adds = adds;
    reads_never_fall = reads.reads;
    replaces_never_fall = reads.replaces;
    out_never_falls = same_is_least s.out_faults_before s.out_faults_after faults;
  }
