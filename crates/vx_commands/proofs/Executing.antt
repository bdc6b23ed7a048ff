-- The answers of `exec` from those of its run and of the steps before it.
use Rattle.std.proofs.Common.{◌≡◌, ◌∙◌, ◌⊎◌, inl, inr, ℕ, ℤ, true, List, length, is_some, Option, Some, None, Ok, IfSome, refl, sym, subst, ap}
use Rattle.std.specs.Prelude.{◌<◌, All}
use Rattle.vx_base.specs.Arithmetic.{IsNumber}
use Rattle.vx_base.specs.Outcome.{Outcome, Ends, Traps, Goes, Stuck as StuckWith, Wrong, IsOver, IsFailure, IsGoing, Begins, Within, output_of}
use Rattle.vx_io.specs.Outside.{Files, with_bytes}
use Rattle.vx_base.specs.declared.outcome.Trap.{Trap}
use Rattle.vx_base.specs.declared.outcome.Reason.{Reason}
use Rattle.vx_base.proofs.Same.{begins_on}
use Rattle.vx_isa.specs.Numbers.{Numbers}
use Rattle.vx_isa.specs.Machine.{issuing_machine, words_run}
use Rattle.vx_ast.specs.Tree.{Program}
use Rattle.vx_ast.specs.Meaning.{source}
use Rattle.vx_probe.specs.Times.{Times, list_of}
use Rattle.vx_probe.specs.Watch.{Watch}
use Rattle.vx_io.specs.declared.role.Role.TheVariants.{Source as TheSource, Words as TheWords, Profile as TheProfile, Machine as TheMachine, Input as TheInput}
use Rattle.vx_status.specs.declared.status.Status.{Status}
use Rattle.vx_status.specs.declared.status.Status.TheVariants.{Done, Trapped, Usage, Source, Limit, Words, Profile, Machine, NoFile, ReadFault, WriteFault, Stopped, Input, Stuck, NoMemory, NotStrict}
use Rattle.vx_command.specs.Command.{Execution}
use Rattle.vx_runs.specs.Boxes.{Chosen}
use Rattle.vx_compiled.specs.Faithful.{Faithful}
use Rattle.vx_files.specs.Held.{HoldsProgram, ProfileStands, Is, machine_found, input_found}
use Rattle.vx_files.specs.Effects.{Effect, SourceAnswers, MachineAnswers, InputAnswers}
use Rattle.vx_commands.specs.Answers.{StopsAtProfile, StopsAtMachine}
use Rattle.vx_runs.specs.Simulated.{Loaded, begun, outcome_within, events_within, reports_of, Streams, Shows, OutputCut, IsStatusOf}
use Rattle.vx_commands.specs.Executed.{Issues, SourceHas, SourceBegins, InSource, AllHeld, CompiledBy, Prepared, Runs, RunsCut, StopsAtInput, ExecutionAnswers}
use Rattle.vx_runs.specs.Ending.{issued_line, IsRunOf, UnputLines, LoadedAnswers}
use Rattle.vx_commands.specs.Loading.{LoadedProfile}
use Rattle.vx_commands.specs.Stopping.{LaterStops, AfterSource, StopsBefore}
use Rattle.vx_runs.specs.Rewritten.{ReadAs}
use Rattle.vx_commands.proofs.Rewriting.{compiled_back}
use Rattle.vx_runs.proofs.Issued.{issues_comes, issues_within, issues_least, issues_all, issues_seen}
use Rattle.vx_runs.proofs.Turned.{turned_of, turned_some, outcome_turned}
use Rattle.vx_runs.proofs.Runs.{no_run}
use Rattle.vx_runs.proofs.Since.{Since, told_since}
use Rattle.vx_runs.proofs.Cases.{source_cases, input_cases}
use Rattle.vx_runs.proofs.Later.{profile_since, machine_since, accepts_in, input_since}

-- a run of words in the terms of the source

module _ (p : Program) (x : Loaded) (times : Times) (faithful : Faithful p x.machine x.program) (numbers : All IsNumber x.input) where
  abbrev the_words : ℕ → Outcome
  the_words n = words_run x.machine (turned_of times) x.program x.input n

  is_words : (n : ℕ) → outcome_within x times n ≡ the_words n
  is_words n = outcome_turned x times n

  pub safe : (n : ℕ) → IsFailure (outcome_within x times n) → ⊥
  safe n f = faithful.never_stuck x.input (turned_of times) numbers (turned_some times) n (subst IsFailure (is_words n) f)

  back : Within the_words (source p x.input)
  back = (faithful.same x.input (turned_of times) numbers (turned_some times)).1

  over : (n : ℕ) (o : Outcome) → IsOver o → outcome_within x times n ≡ o → SourceHas p x.input o
  over n o ends is = let h = back.over n o ends (sym (is_words n) ∙ is) in record { bound = h.0; is = h.1 }

  pub begins : (n : ℕ) → SourceBegins p x.input (output_of (outcome_within x times n))
  begins n =
      let h = back.output n in
      record { bound = h.0; begins = subst (λ o. Begins (output_of o) (output_of (source p x.input h.0))) (sym (is_words n)) h.1 }

  pub in_source : (n : ℕ) (o : Outcome) → outcome_within x times n ≡ o → InSource p x.input o
  in_source n (Ends z out) is = over n (Ends z out) tt is
  in_source n (Traps k out) is = over n (Traps k out) tt is
  in_source n (Goes out) is = subst (λ o. SourceBegins p x.input (output_of o)) is (begins n)
  in_source n (StuckWith why place out) is = absurd (safe n (subst IsFailure (sym is) tt))
  in_source n (Wrong out) is = absurd (safe n (subst IsFailure (sym is) tt))

  -- the least number of words with which the run within a budget comes to its outcome
  pub issues_of : (budget : ℕ) (o : Outcome) → outcome_within x times budget ≡ o → Issues (outcome_within x times) budget o (length (events_within x times budget))
  issues_of budget o is = record {
    comes = issues_comes (issuing_machine x.program x.machine) (list_of times) x.program budget (begun x times) (safe budget) ∙ is;
    within = issues_within (issuing_machine x.program x.machine) (list_of times) x.program budget (begun x times) (safe budget);
    least = issues_least (issuing_machine x.program x.machine) (list_of times) x.program budget (begun x times) (safe budget);
    all = λ g. issues_all (issuing_machine x.program x.machine) (list_of times) x.program budget (begun x times) (safe budget) (subst IsGoing (sym is) g);
  }

-- the run and its lines

module _ (asked : Execution) (x : Loaded) (times : Times) (watches : List Watch) (e : Effect) (s : Streams) (ready : Prepared asked e x) (numbers : All IsNumber x.input)
    (wanted : 0 < length watches → is_some asked.probe ≡ true) where
  abbrev the_boxes : Chosen
  the_boxes = record { times = times; watches = watches }

  abbrev the_outcome : Outcome
  the_outcome = outcome_within x times asked.budget

  abbrev the_count : ℕ
  the_count = length (events_within x times asked.budget)

  no_failure : (n : ℕ) → IsFailure (outcome_within x times n) → ⊥
  no_failure n f = safe ready.source_program x times ready.by.faithful numbers n f

  shown : (o : Outcome) → the_outcome ≡ o → Shows the_outcome (issued_line the_count) (reports_of watches (events_within x times asked.budget)) s → Shows o (issued_line the_count) (reports_of watches (events_within x times the_count)) s
  shown o is h =
      subst (λ y. Shows y (issued_line the_count) (reports_of watches (events_within x times the_count)) s) is
      (subst (λ es. Shows the_outcome (issued_line the_count) (reports_of watches es) s) (sym (issues_seen (issuing_machine x.program x.machine) (list_of times) x.program asked.budget (begun x times) (no_failure asked.budget))) h)

  runs : (status : Status) (o : Outcome) → the_outcome ≡ o → IsRunOf x times asked.budget true watches s status → Runs asked the_boxes e s o
  runs status o is a = record {
    words = x;
    ready = ready;
    issued = the_count;
    issues = issues_of ready.source_program x times ready.by.faithful numbers asked.budget o is;
    in_source = in_source ready.source_program x times ready.by.faithful numbers asked.budget o is;
    put = a.put ∙ ap (λ y. with_bytes s.out_before (output_of y)) is;
    shown = shown o is a.shown;
  }

  done : (o : Outcome) → the_outcome ≡ o → IsStatusOf o Done → IsRunOf x times asked.budget true watches s Done → ExecutionAnswers asked e s Done the_boxes
  done (Ends z out) is status a = (z, out, runs Done (Ends z out) is a)
  done (Traps k out) is status a = absurd cc
  done (Goes out) is status a = absurd cc
  done (StuckWith why place out) is status a = absurd cc
  done (Wrong out) is status a = absurd status

  trapped : (trap : Trap) (o : Outcome) → the_outcome ≡ o → IsStatusOf o (Trapped trap) → IsRunOf x times asked.budget true watches s (Trapped trap) → ExecutionAnswers asked e s (Trapped trap) the_boxes
  trapped trap (Ends z out) is status a = absurd cc
  trapped trap (Traps k out) is status a = let same : k ≡ trap = cc in (out, subst (λ t. Runs asked the_boxes e s (Traps t out)) same (runs (Trapped trap) (Traps k out) is a))
  trapped trap (Goes out) is status a = absurd cc
  trapped trap (StuckWith why place out) is status a = absurd cc
  trapped trap (Wrong out) is status a = absurd status

  stopped : (o : Outcome) → the_outcome ≡ o → IsStatusOf o Stopped → IsRunOf x times asked.budget true watches s Stopped → ExecutionAnswers asked e s Stopped the_boxes
  stopped (Ends z out) is status a = absurd cc
  stopped (Traps k out) is status a = absurd cc
  stopped (Goes out) is status a = (out, runs Stopped (Goes out) is a)
  stopped (StuckWith why place out) is status a = absurd cc
  stopped (Wrong out) is status a = absurd status

  never_stuck : (why : Reason) (place : ℕ) (o : Outcome) → the_outcome ≡ o → IsStatusOf o (Stuck why place) → ⊥
  never_stuck why place (Ends z out) is status = absurd cc
  never_stuck why place (Traps k out) is status = absurd cc
  never_stuck why place (Goes out) is status = absurd cc
  never_stuck why place (StuckWith reason here out) is status = no_failure asked.budget (subst IsFailure (sym is) tt)
  never_stuck why place (Wrong out) is status = status

  cut : OutputCut x times asked.budget s ⊎ UnputLines x times asked.budget true watches s → RunsCut asked the_boxes e s
  cut (inl out) =
      let whole = begins ready.source_program x times ready.by.faithful numbers out.bound in
      record {
        words = x;
        ready = ready;
        fronts = record { front = out.front; begins = record { bound = whole.bound; begins = begins_on out.front _ _ out.begins whole.begins }; put = out.put };
        in_source = in_source ready.source_program x times ready.by.faithful numbers asked.budget the_outcome refl;
        issued = the_count;
        issues = issues_of ready.source_program x times ready.by.faithful numbers asked.budget the_outcome refl;
        cut = inl out;
      }
  cut (inr lines) = record {
    words = x;
    ready = ready;
    fronts = record { front = output_of the_outcome; begins = begins ready.source_program x times ready.by.faithful numbers asked.budget; put = lines.put };
    in_source = in_source ready.source_program x times ready.by.faithful numbers asked.budget the_outcome refl;
    issued = the_count;
    issues = issues_of ready.source_program x times ready.by.faithful numbers asked.budget the_outcome refl;
    cut = inr (record { rose = lines.rose; wanted = elim lines.wanted [ inl end ↦ inl end | inr some ↦ inr (wanted some) ]; put = lines.put; told = lines.told });
  }

  pub run_executed : (status : Status) → LoadedAnswers x times asked.budget true watches s status → ExecutionAnswers asked e s status the_boxes
  run_executed Done a = done the_outcome refl a.status_is a
  run_executed (Trapped trap) a = trapped trap the_outcome refl a.status_is a
  run_executed Usage a = absurd (no_run the_outcome Usage refl a.status_is)
  run_executed (Source code line column) a = absurd (no_run the_outcome (Source code line column) refl a.status_is)
  run_executed (Limit number count) a = absurd (no_run the_outcome (Limit number count) refl a.status_is)
  run_executed (Words code line) a = absurd (no_run the_outcome (Words code line) refl a.status_is)
  run_executed (Profile code line) a = absurd (no_run the_outcome (Profile code line) refl a.status_is)
  run_executed (Machine code field) a = absurd (no_run the_outcome (Machine code field) refl a.status_is)
  run_executed (NoFile role) a = absurd (no_run the_outcome (NoFile role) refl a.status_is)
  run_executed (ReadFault role) a = absurd (no_run the_outcome (ReadFault role) refl a.status_is)
  run_executed WriteFault a = cut a
  run_executed Stopped a = stopped the_outcome refl a.status_is a
  run_executed (Input place) a = absurd (no_run the_outcome (Input place) refl a.status_is)
  run_executed (Stuck reason place) a = absurd (never_stuck reason place the_outcome refl a.status_is)
  run_executed (NotStrict breach place) a = absurd (no_run the_outcome (NotStrict breach place) refl a.status_is)
  run_executed NoMemory a = tt

-- the steps before the run

module _ (asked : Execution) (e : Effect) (s : Streams) (boxes : Chosen) where
  at_source : (status : Status) → SourceAnswers asked.source e status → ExecutionAnswers asked e s status boxes
  at_source = source_cases asked.source e (λ t. ExecutionAnswers asked e s t boxes) (λ code line column a. a) (λ number count a. inl a) (λ a. a) (λ a. a) tt

  at_profile : (status : Status) → StopsAtProfile asked.source asked.profile e status → ExecutionAnswers asked e s status boxes
  at_profile Done a = absurd a.answers
  at_profile (Trapped trap) a = absurd a.answers
  at_profile Usage a = absurd a.answers
  at_profile (Source code line column) a = absurd a.answers
  at_profile (Limit number count) a = inr (inl a)
  at_profile (Words code line) a = absurd a.answers
  at_profile (Profile code line) a = a
  at_profile (Machine code field) a = absurd a.answers
  at_profile (NoFile TheSource) a = let is = a.answers.0 in absurd cc
  at_profile (NoFile TheWords) a = let is = a.answers.0 in absurd cc
  at_profile (NoFile TheProfile) a = a
  at_profile (NoFile TheMachine) a = let is = a.answers.0 in absurd cc
  at_profile (NoFile TheInput) a = let is = a.answers.0 in absurd cc
  at_profile (ReadFault TheSource) a = let is = a.answers.0 in absurd cc
  at_profile (ReadFault TheWords) a = let is = a.answers.0 in absurd cc
  at_profile (ReadFault TheProfile) a = a
  at_profile (ReadFault TheMachine) a = let is = a.answers.0 in absurd cc
  at_profile (ReadFault TheInput) a = let is = a.answers.0 in absurd cc
  at_profile WriteFault a = absurd a.answers
  at_profile Stopped a = absurd a.answers
  at_profile (Input place) a = absurd a.answers
  at_profile (Stuck reason place) a = absurd a.answers
  at_profile (NotStrict breach place) a = absurd a.answers
  at_profile NoMemory a = tt

  at_machine : (status : Status) → StopsAtMachine asked.source asked.profile asked.machine e status → ExecutionAnswers asked e s status boxes
  at_machine Done a = absurd a.answers
  at_machine (Trapped trap) a = absurd a.answers
  at_machine Usage a = absurd a.answers
  at_machine (Source code line column) a = absurd a.answers
  at_machine (Limit number count) a = inr (inr (inl a))
  at_machine (Words code line) a = absurd a.answers
  at_machine (Profile code line) a = absurd a.answers
  at_machine (Machine code field) a = a
  at_machine (NoFile TheSource) a = let is = a.answers.0 in absurd cc
  at_machine (NoFile TheWords) a = let is = a.answers.0 in absurd cc
  at_machine (NoFile TheProfile) a = let is = a.answers.0 in absurd cc
  at_machine (NoFile TheMachine) a = a
  at_machine (NoFile TheInput) a = let is = a.answers.0 in absurd cc
  at_machine (ReadFault TheSource) a = let is = a.answers.0 in absurd cc
  at_machine (ReadFault TheWords) a = let is = a.answers.0 in absurd cc
  at_machine (ReadFault TheProfile) a = let is = a.answers.0 in absurd cc
  at_machine (ReadFault TheMachine) a = a
  at_machine (ReadFault TheInput) a = let is = a.answers.0 in absurd cc
  at_machine WriteFault a = absurd a.answers
  at_machine Stopped a = absurd a.answers
  at_machine (Input place) a = absurd a.answers
  at_machine (Stuck reason place) a = absurd a.answers
  at_machine (NotStrict breach place) a = absurd a.answers
  at_machine NoMemory a = tt

  at_input : (status : Status) → StopsAtInput asked e status → ExecutionAnswers asked e s status boxes
  at_input =
      input_cases asked.input e (StopsAtInput asked e) (λ t. ExecutionAnswers asked e s t boxes) (λ status a. a.answers) (λ number count a. inr (inr (inr a))) (λ a. a) (λ a. a) (λ place a. a) tt

  stops_before : (status : Status) → StopsBefore asked e status → ExecutionAnswers asked e s status boxes
  stops_before status (inl memory) = subst (λ t. ExecutionAnswers asked e s t boxes) (sym memory) tt
  stops_before status (inr (inl a)) = at_source status a
  stops_before status (inr (inr (inl a))) = at_profile status a
  stops_before status (inr (inr (inr (inl a)))) = at_machine status a
  stops_before status (inr (inr (inr (inr a)))) = at_input status a

  pub stops_told : (status told : Status) → told ≡ status → StopsBefore asked e status → ExecutionAnswers asked e s told boxes
  stops_told status told same a = subst (λ t. ExecutionAnswers asked e s t boxes) (sym same) (stops_before status a)

-- one step after the other

pub later_input : (machine input : Option (List ℕ)) (numbers : Numbers) (e f : Effect) (status : Status) → Since e f → IfSome f.before (λ held. machine_found held machine ≡ Is numbers) →
    ((status ≡ NoMemory) ⊎ ((is_some input ≡ true) × InputAnswers input e status)) → LaterStops machine input f status
later_input machine input numbers e f status since found (inl memory) = inl memory
later_input machine input numbers e f status since found (inr why) = inr (inr (record { named = why.0; numbers = numbers; machine_is = found; answers = input_since input e f status since why.1 }))

pub later_machine : (machine input : Option (List ℕ)) (e : Effect) (status : Status) → is_some machine ≡ true → MachineAnswers machine e status → LaterStops machine input e status
later_machine machine input e status named a = inr (inl (record { named = named; answers = a }))

later_since : (machine input : Option (List ℕ)) (e f : Effect) (status : Status) → Since e f → LaterStops machine input e status → LaterStops machine input f status
later_since machine input e f status since (inl memory) = inl memory
later_since machine input e f status since (inr (inl none)) = inr (inl (record { named = none.named; answers = machine_since machine e f status since none.answers }))
later_since machine input e f status since (inr (inr none)) = inr (inr (record {
  named = none.named;
  numbers = none.numbers;
  machine_is = told_since e f (λ held. machine_found held machine ≡ Is none.numbers) since none.machine_is;
  answers = input_since input e f status since none.answers;
}))

pub after_profile : (profile machine input : Option (List ℕ)) (e f : Effect) (status : Status) → Since e f → IfSome f.before (λ held. ProfileStands held profile) → LaterStops machine input e status →
    AfterSource profile machine input f status
after_profile profile machine input e f status since stands stops = inr (record { profiled = stands; stops = later_since machine input e f status since stops })

stopped_later : (asked : Execution) (program : Program) (f : Effect) (status : Status) → IfSome f.before (λ held. HoldsProgram held asked.source program) →
    IfSome f.before (λ held. ProfileStands held asked.profile) → LaterStops asked.machine asked.input f status → StopsBefore asked f status
stopped_later asked program f status holds stands (inl memory) = inl memory
stopped_later asked program f status holds stands (inr (inl none)) = inr (inr (inr (inl (record {
  named = none.named;
  accepted = accepts_in asked.source program f.before holds;
  profiled = stands;
  answers = none.answers;
}))))
stopped_later asked program f status holds stands (inr (inr none)) = inr (inr (inr (inr (record {
  named = none.named;
  accepted = accepts_in asked.source program f.before holds;
  profiled = stands;
  machine = none.numbers;
  machine_is = none.machine_is;
  answers = none.answers;
}))))

pub after_source : (asked : Execution) (q : Program) (e f : Effect) (status : Status) → Since e f → ReadAs f.before asked.source asked.rewriting q →
    AfterSource asked.profile asked.machine asked.input e status → StopsBefore asked f status
after_source asked q e f status since r (inl none) = inr (inr (inl (record {
  named = none.named;
  accepted = accepts_in asked.source r.program f.before r.holds;
  answers = profile_since asked.profile e f status since none.answers;
})))
after_source asked q e f status since r (inr later) =
    stopped_later asked r.program f status r.holds (told_since e f (λ held. ProfileStands held asked.profile) since later.profiled) (later_since asked.machine asked.input e f status since later.stops)

all_held : (asked : Execution) (program : Program) (m : Numbers) (numbers : List ℤ) (b : Option Files) → IfSome b (λ held. HoldsProgram held asked.source program) → IfSome b (λ held. ProfileStands held asked.profile) →
    IfSome b (λ held. machine_found held asked.machine ≡ Is m) → IfSome b (λ held. input_found held asked.input ≡ Ok numbers) → IfSome b (λ held. AllHeld held asked program m numbers)
all_held asked program m numbers None holds stands machine input = tt
all_held asked program m numbers (Some held) holds stands machine input = record { program_is = holds; profiled = stands; machine_is = machine; input_is = input }

pub prepared : (asked : Execution) (q : Program) (x : Loaded) (e f : Effect) → Since e f → ReadAs f.before asked.source asked.rewriting q →
    LoadedProfile q asked.growth asked.rewriting.inline asked.rewriting.select e.before asked.profile asked.machine asked.input x → Prepared asked f x
prepared asked q x e f since r l = record {
  source_program = r.program;
  read = all_held asked r.program x.machine x.input f.before r.holds (told_since e f (λ held. ProfileStands held asked.profile) since l.profiled)
      (told_since e f (λ held. machine_found held asked.machine ≡ Is x.machine) since l.machine_is) (told_since e f (λ held. input_found held asked.input ≡ Ok x.input) since l.input_is);
  defaults = l.defaults;
  by = compiled_back asked.rewriting.unroll r.program q r.turns f.before asked.profile asked.growth asked.rewriting.inline asked.rewriting.select x.machine x.program
      (subst (λ b. CompiledBy b asked.profile asked.growth None asked.rewriting.inline asked.rewriting.select q x.machine x.program) (sym since.before) l.by);
}
