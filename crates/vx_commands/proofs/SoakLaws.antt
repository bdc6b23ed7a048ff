-- The answers of `soak` from those of its steps, and what they exclude where nothing fails.
use Rattle.std.proofs.Common.{◌≡◌, ◌∙◌, ℕ, false, List, [], length, None, refl, sym, subst, ap, arith}
use Rattle.std.specs.Prelude.{All, codes}
use Rattle.vx_base.specs.Arithmetic.{IsNumber}
use Rattle.vx_base.specs.Outcome.{Outcome, Ends, Traps, Goes, IsGoing}
use Rattle.vx_io.specs.Outside.{with_bytes}
use Rattle.vx_ast.specs.Tree.{Program}
use Rattle.vx_ast.specs.Reads.{Reads}
use Rattle.vx_gen.specs.Program.{program_text}
use Rattle.vx_isa.specs.declared.program.WordProgram.{WordProgram}
use Rattle.vx_isa.specs.Numbers.{Numbers, vex}
use Rattle.vx_probe.specs.Times.{Times}
use Rattle.vx_profile.specs.Counts.{CountsOf}
use Rattle.vx_profile.specs.declared.counts.Counts.{Counts}
use Rattle.vx_report.specs.declared.plan.Plan.{Plan}
use Rattle.vx_sim.specs.Ran.{is_fault, outcome_of}
use Rattle.vx_sim.specs.declared.ended.Ended.{Ended}
use Rattle.vx_sim.specs.declared.ended.Ended.TheVariants.{Halted, Trapped as TrappedBy, Stopped as StoppedAt}
use Rattle.vx_runs.specs.declared.soak_run.ProgramSizes.{ProgramSizes}
use Rattle.vx_status.specs.declared.status.Status.{Status}
use Rattle.vx_status.specs.declared.status.Status.TheVariants.{Done, Trapped, Usage, Source, Limit, Words, Profile, Machine, NoFile, ReadFault, WriteFault, Stopped, Input, Stuck, NoMemory, NotStrict}
use Rattle.vx_compiled.specs.declared.program.FlowSize.{FlowSize}
use Rattle.vx_command.specs.Command.{Soaking}
use Rattle.vx_runs.specs.Boxes.{Boxes, Chosen, chosen}
use Rattle.vx_files.specs.Effects.{Effect}
use Rattle.vx_commands.specs.Executed.{Issues, SourceHas}
use Rattle.vx_runs.specs.Simulated.{Loaded, Streams, OutRose, with_input, outcome_within}
use Rattle.vx_commands.specs.Soaked.{Soaked, SoakRuns, SoakedAnswers, SoakAnswers, SoakGoesOn, SoakEnds, SoakCompletes, soak_growth, soaked_words, summary_of}
use Rattle.vx_runs.specs.Summary.{soak_budget, RunEndsSo, PutsEnd, whole, cut, trapped, stopped, no_memory, line_of}
use Rattle.vx_compiled.specs.Sized.{Sized}
use Rattle.vx_commands.specs.SoakSteps.{IsMade, IsMadeFrom, SoakRan, sizes_of}
use Rattle.vx_files.proofs.SourceLaws.{one_program}
use Rattle.vx_commands.proofs.Executing.{in_source, issues_of}
use Rattle.vx_runs.proofs.Simulating.{box_completes}

-- one step after the other

abbrev sized_as : (functions blocks : ℕ) → WordProgram → Plan → ProgramSizes
sized_as functions blocks w plan = record { functions = functions; blocks = blocks; traces = length plan.traces; words = length w.words; copies = plan.copies }

made_with : (p : Program) (counts : Counts) (w : WordProgram) (plan : Plan) (size : FlowSize) (sizes : ProgramSizes) → CountsOf counts [] → Sized p counts (vex 1) soak_growth w plan size → sizes ≡ sized_as size.functions size.blocks w plan →
    IsMadeFrom p (with_input w (vex 1) []) sizes
made_with p counts w plan size sizes none s same = record {
  counts = counts;
  none = none;
  plan = plan;
  compiled = s.compiled;
  words_are = refl;
  sizes_are = same ∙ ap (λ n. sized_as n size.blocks w plan) s.functions_are ∙ ap (λ n. sized_as (length s.compiled.flow.functions) n w plan) s.blocks_are;
}

pub made_from : (p : Program) (counts : Counts) (m : Numbers) (w : WordProgram) (plan : Plan) (size : FlowSize) (sizes : ProgramSizes) (x : Loaded) → CountsOf counts [] → m ≡ vex 1 → Sized p counts m soak_growth w plan size →
    sizes ≡ sized_as size.functions size.blocks w plan → x ≡ with_input w m [] → IsMadeFrom p x sizes
made_from p counts m w plan size sizes x none machine s same is =
    let made : IsMadeFrom p (with_input w (vex 1) []) sizes = made_with p counts w plan size sizes none (subst (λ k. Sized p counts k soak_growth w plan size) machine s) same in
    let loaded : x ≡ with_input w (vex 1) [] = is ∙ ap (λ k. with_input w k []) machine in
    subst (λ z. IsMadeFrom p z sizes) (sym loaded) made

pub made_of : (asked : Soaking) (p : Program) (x : Loaded) (sizes : ProgramSizes) → Reads (program_text asked.seed asked.size) p → IsMadeFrom p x sizes → IsMade asked x sizes
made_of asked p x sizes reads m = record {
  soaked = record { program = p; reads = reads; counts = m.counts; none = m.none; words = x.program; plan = m.plan; compiled = m.compiled };
  words_are = m.words_are;
  sizes_are = m.sizes_are;
}

module _ (asked : Soaking) (times : Times) (ended : Ended) (issued sum : ℕ) (soaked : Soaked asked) (r : RunEndsSo (soaked_words soaked) times ended issued sum) where
  abbrev the_boxes : Chosen
  the_boxes = record { times = times; watches = [] }

  abbrev the_run : ℕ → Outcome
  the_run = outcome_within (soaked_words soaked) times

  no_numbers : All IsNumber []
  no_numbers k d below = absurd (omega arith)

  issues : Issues the_run soak_budget (outcome_of ended r.out) issued
  issues =
      subst (λ n. Issues the_run soak_budget (outcome_of ended r.out) n) (sym r.issued_is)
      (issues_of soaked.program (soaked_words soaked) times soaked.compiled.faithful no_numbers soak_budget (outcome_of ended r.out) r.outcome)

  runs : SoakRuns asked the_boxes (outcome_of ended r.out)
  runs = record {
    soaked = soaked;
    issued = issued;
    issues = issues;
    in_source = in_source soaked.program (soaked_words soaked) times soaked.compiled.faithful no_numbers soak_budget (outcome_of ended r.out) r.outcome;
  }

  line_is : (sizes : ProgramSizes) (line : List ℕ) → sizes ≡ sizes_of soaked → line ≡ line_of sizes sum issued → line ≡ summary_of soaked r.out issued
  line_is sizes line same is = is ∙ ap (λ s. line_of s sum issued) same ∙ ap (λ n. line_of (sizes_of soaked) n issued) r.sum_is

  ran_so : (sizes : ProgramSizes) (line : List ℕ) → sizes ≡ sizes_of soaked → line ≡ line_of sizes sum issued → SoakRan asked times ended line
  unfolding runs
  ran_so sizes line same is = record { out = r.out; run = runs; line_is = line_is sizes line same is }

pub ran : (asked : Soaking) (times : Times) (ended : Ended) (issued sum : ℕ) (x : Loaded) (sizes : ProgramSizes) (line : List ℕ) → IsMade asked x sizes → RunEndsSo x times ended issued sum → line ≡ line_of sizes sum issued →
    SoakRan asked times ended line
ran asked times ended issued sum x sizes line m r is =
    ran_so asked times ended issued sum m.soaked (subst (λ z. RunEndsSo z times ended issued sum) m.words_are r) sizes line m.sizes_are is

-- the answers by what is put

module _ (asked : Soaking) (times : Times) (ended : Ended) (line : List ℕ) (s : Streams) (h : is_fault ended ≡ false → SoakRan asked times ended line) where
  abbrev boxes : Chosen
  boxes = record { times = times; watches = [] }

  at : (e : Ended) → ended ≡ e → is_fault e ≡ false → SoakRan asked times e line
  at e is no_fault = subst (λ z. SoakRan asked times z line) is (h (ap is_fault is ∙ no_fault))

  pub soaked_answers : (status : Status) → PutsEnd ended line s status → SoakedAnswers asked s status boxes
  soaked_answers status (whole z is done put quiet) =
      let r : SoakRan asked times (Halted z) line = at (Halted z) is refl in
      subst (λ t. SoakedAnswers asked s t boxes) (sym done) (record { number = z; out = r.out; run = r.run; put = put ∙ ap (with_bytes s.out_before) r.line_is; quiet = quiet })
  soaked_answers status (cut z is fault rose front) =
      let r : SoakRan asked times (Halted z) line = at (Halted z) is refl in
      subst (λ t. SoakedAnswers asked s t boxes) (sym fault) (record { rose = rose; number = z; out = r.out; run = r.run; front = rw (sym r.line_is) front })
  soaked_answers status (trapped trap is by) =
      let r : SoakRan asked times (TrappedBy trap) line = at (TrappedBy trap) is refl in
      subst (λ t. SoakedAnswers asked s t boxes) (sym by) (r.out, r.run)
  soaked_answers status (stopped is by) =
      let r : SoakRan asked times StoppedAt line = at StoppedAt is refl in
      subst (λ t. SoakedAnswers asked s t boxes) (sym by) (r.out, r.run)
  soaked_answers status (no_memory is) = subst (λ t. SoakedAnswers asked s t boxes) (sym is) tt

-- where nothing fails

module _ (asked : Soaking) (s : Streams) (these : Chosen) where
  of_source : (o : Outcome) (run : SoakRuns asked these o) (p : Program) → Reads (program_text asked.seed asked.size) p → SourceHas run.soaked.program [] o → SourceHas p [] o
  of_source o run p reads h = subst (λ q. SourceHas q [] o) (one_program (program_text asked.seed asked.size) run.soaked.program p run.soaked.reads reads) h

  goes_on : (out : List ℕ) (run : SoakRuns asked these (Goes out)) → SoakGoesOn asked these
  goes_on out run = record {
    soaked = run.soaked;
    going = subst IsGoing (sym (ap (outcome_within (soaked_words run.soaked) these.times) (sym (run.issues.all tt)) ∙ run.issues.comes)) tt;
  }

  ends : (OutRose s → ⊥) → (status : Status) → SoakedAnswers asked s status these → SoakEnds asked status these
  ends quiet Done a = λ p reads. (a.number, a.out, of_source (Ends a.number a.out) a.run p reads a.run.in_source)
  ends quiet (Trapped trap) a = λ p reads. (a.0, of_source (Traps trap a.0) a.1 p reads a.1.in_source)
  ends quiet Usage a = absurd a
  ends quiet (Source code line column) a = absurd a
  ends quiet (Limit number count) a = absurd a
  ends quiet (Words code line) a = absurd a
  ends quiet (Profile code line) a = absurd a
  ends quiet (Machine code field) a = absurd a
  ends quiet (NoFile role) a = absurd a
  ends quiet (ReadFault role) a = absurd a
  ends quiet WriteFault a = absurd (quiet a.rose)
  ends quiet Stopped a = goes_on a.0 a.1
  ends quiet (Input place) a = absurd a
  ends quiet (Stuck reason place) a = absurd a
  ends quiet (NotStrict breach place) a = absurd a
  ends quiet NoMemory a = tt

pub soak_completes : (asked : Soaking) (boxes : Boxes) (e : Effect) (s : Streams) (status : Status) → SoakAnswers asked boxes e s status → SoakCompletes asked boxes s status
soak_completes asked boxes e s status a = λ quiet.
    box_completes (SoakedAnswers asked s status) (SoakEnds asked status) (chosen (codes "late") None boxes) status (λ these h. ends asked s these quiet status h) a.1
