-- The answers of a command from those of its steps.
use Rattle.std.proofs.Common.{◌≡◌, ◌≢◌, ◌⊎◌, inl, inr, ℕ, List, Option, Some, None, is_some, option_map, Result, Ok, Err, IfOk, IfSome, refl, sym, subst, ap, ◌∙◌}
use Rattle.std.specs.Prelude.{IsSomeAnd}
use Rattle.vx_io.specs.Outside.{Files, held_with, with_file, ReplacesPartly}
use Rattle.vx_isa.specs.Numbers.{Numbers}
use Rattle.vx_ast.specs.Tree.{Program}
use Rattle.vx_io.specs.declared.role.Role.TheVariants.{Source as TheSource, Words as TheWords, Profile as TheProfile, Machine as TheMachine, Input as TheInput}
use Rattle.vx_status.specs.declared.status.Status.{Status}
use Rattle.vx_status.specs.declared.status.Status.TheVariants.{Done, Trapped, Usage, Source, Limit, Words, Profile, Machine, NoFile, ReadFault, WriteFault, Stopped, Input, Stuck, NoMemory, NotStrict}
use Rattle.vx_profile.specs.declared.counts.Counts.{Counts}
use Rattle.vx_report.specs.Report.{names_of, report_text}
use Rattle.vx_command.specs.Command.{Compilation}
use Rattle.vx_compiled.specs.Sized.{MakesTexts}
use Rattle.vx_files.proofs.ProfileFile.{stands}
use Rattle.vx_files.specs.Held.{HoldsProgram, Is, machine_found, AreCounts}
use Rattle.vx_commands.specs.Answers.{TextsOf, Compiles, Writes, WritesWords, with_report, ReportsPartly, WritesPartly, StopsAtProfile, StopsAtMachine, CompileAnswers, PutsTexts, MachineOrTexts, ProgramAnswers}
use Rattle.vx_runs.specs.Writing.{WriteAnswers, once_written, ReportAnswers}
use Rattle.vx_files.specs.Effects.{Effect, SameFiles, SourceAnswers}
use Rattle.vx_runs.proofs.Since.{Since, same_since, told_since}
use Rattle.vx_runs.specs.Rewritten.{ReadAs}
use Rattle.vx_runs.proofs.Later.{machine_since, profile_since, accepts_in, write_since}
use Rattle.vx_unroll.specs.Unrolling.{UnrolledBy}
use Rattle.vx_commands.proofs.Rewriting.{faithful_back, names_back}

-- a source that could not be read through

pub stops_at_source : (asked : Compilation) (e : Effect) (status : Status) → SourceAnswers asked.source e status → CompileAnswers asked e status
stops_at_source asked e Done a = absurd a
stops_at_source asked e Usage a = absurd a
stops_at_source asked e (Trapped trap) a = absurd a
stops_at_source asked e (Words code line) a = absurd a
stops_at_source asked e Stopped a = absurd a
stops_at_source asked e (Input place) a = absurd a
stops_at_source asked e (Stuck reason place) a = absurd a
stops_at_source asked e (NotStrict breach place) a = absurd a
stops_at_source asked e (Source code line column) a = a
stops_at_source asked e (Limit number count) a = inl a
stops_at_source asked e (Profile code line) a = absurd a
stops_at_source asked e (Machine code field) a = absurd a
stops_at_source asked e (NoFile TheSource) a = a
stops_at_source asked e (NoFile TheMachine) a = let is = a.0 in cc
stops_at_source asked e (NoFile TheWords) a = let is = a.0 in cc
stops_at_source asked e (NoFile TheProfile) a = let is = a.0 in cc
stops_at_source asked e (NoFile TheInput) a = let is = a.0 in cc
stops_at_source asked e (ReadFault TheSource) a = a
stops_at_source asked e (ReadFault TheMachine) a = let is = a.0 in cc
stops_at_source asked e (ReadFault TheWords) a = let is = a.0 in cc
stops_at_source asked e (ReadFault TheProfile) a = let is = a.0 in cc
stops_at_source asked e (ReadFault TheInput) a = let is = a.0 in cc
stops_at_source asked e WriteFault a = absurd a
stops_at_source asked e NoMemory a = inl a

-- an accepted source, and no machine

stops : (asked : Compilation) (e : Effect) (status : Status) → StopsAtMachine asked.source asked.profile asked.machine e status → CompileAnswers asked e status
stops asked e Done a = absurd a.answers
stops asked e Usage a = absurd a.answers
stops asked e (Trapped trap) a = absurd a.answers
stops asked e (Words code line) a = absurd a.answers
stops asked e Stopped a = absurd a.answers
stops asked e (Input place) a = absurd a.answers
stops asked e (Stuck reason place) a = absurd a.answers
stops asked e (NotStrict breach place) a = absurd a.answers
stops asked e (Source code line column) a = absurd a.answers
stops asked e (Limit number count) a = inr (inr a)
stops asked e (Profile code line) a = absurd a.answers
stops asked e (Machine code field) a = a
stops asked e (NoFile TheSource) a = let is = a.answers.0 in cc
stops asked e (NoFile TheWords) a = let is = a.answers.0 in cc
stops asked e (NoFile TheProfile) a = let is = a.answers.0 in cc
stops asked e (NoFile TheInput) a = let is = a.answers.0 in cc
stops asked e (NoFile TheMachine) a = a
stops asked e (ReadFault TheSource) a = let is = a.answers.0 in cc
stops asked e (ReadFault TheWords) a = let is = a.answers.0 in cc
stops asked e (ReadFault TheProfile) a = let is = a.answers.0 in cc
stops asked e (ReadFault TheInput) a = let is = a.answers.0 in cc
stops asked e (ReadFault TheMachine) a = a
stops asked e WriteFault a = absurd a.answers
stops asked e NoMemory a = inl a.answers

-- an accepted source, and no profile
at_profile : (asked : Compilation) (e : Effect) (status : Status) → StopsAtProfile asked.source asked.profile e status → CompileAnswers asked e status
at_profile asked e Done a = absurd a.answers
at_profile asked e Usage a = absurd a.answers
at_profile asked e (Trapped trap) a = absurd a.answers
at_profile asked e (Words code line) a = absurd a.answers
at_profile asked e Stopped a = absurd a.answers
at_profile asked e (Input place) a = absurd a.answers
at_profile asked e (Stuck reason place) a = absurd a.answers
at_profile asked e (NotStrict breach place) a = absurd a.answers
at_profile asked e (Source code line column) a = absurd a.answers
at_profile asked e (Limit number count) a = inr (inl a)
at_profile asked e (Profile code line) a = a
at_profile asked e (Machine code field) a = absurd a.answers
at_profile asked e (NoFile TheSource) a = let is = a.answers.0 in cc
at_profile asked e (NoFile TheWords) a = let is = a.answers.0 in cc
at_profile asked e (NoFile TheProfile) a = a
at_profile asked e (NoFile TheInput) a = let is = a.answers.0 in cc
at_profile asked e (NoFile TheMachine) a = let is = a.answers.0 in cc
at_profile asked e (ReadFault TheSource) a = let is = a.answers.0 in cc
at_profile asked e (ReadFault TheWords) a = let is = a.answers.0 in cc
at_profile asked e (ReadFault TheProfile) a = a
at_profile asked e (ReadFault TheInput) a = let is = a.answers.0 in cc
at_profile asked e (ReadFault TheMachine) a = let is = a.answers.0 in cc
at_profile asked e WriteFault a = absurd a.answers
at_profile asked e NoMemory a = inl a.answers

-- an accepted source and a machine: texts were to be put

pub some_named : {A B : Type 0} (f : A → B) (o : Option A) → is_some o ≡ is_some (option_map f o)
some_named f None = refl
some_named f (Some x) = refl

-- the report's text is that of the plan, whether it was asked or not
pub texts_made : (program : Program) (counts : Counts) (machine : Numbers) (growth : ℕ) (inline select : Option ℕ) (name : Option (List ℕ)) (out text report : List ℕ) (e : Effect) (status : Status) →
    MakesTexts program counts machine growth inline select (is_some name) text report → ReportAnswers out text name report e status → PutsTexts program counts machine growth inline select out name e status
texts_made program counts machine growth inline select None out text report e status t a = record {
  text = text;
  report = report_text t.plan (names_of program);
  texts = record { words = t.words; plan = t.plan; compiled = t.compiled.compiled; rewritten = t.compiled.rewritten; spells = t.spells; reports = refl };
  answers = a;
}
texts_made program counts machine growth inline select (Some name) out text report e status t a = record {
  text = text;
  report = report;
  texts = record { words = t.words; plan = t.plan; compiled = t.compiled.compiled; rewritten = t.compiled.rewritten; spells = t.spells; reports = t.reports refl };
  answers = a;
}

-- what was read, of a depot that tells its files
all_of : (asked : Compilation) (program unrolled : Program) (counts : Counts) (numbers : Numbers) (text report : List ℕ) (b : Option Files) → UnrolledBy asked.rewriting.unroll program unrolled →
    IfSome b (λ held. HoldsProgram held asked.source program) → IfSome b (λ held. AreCounts held asked.profile counts) → IfSome b (λ held. machine_found held asked.machine ≡ Is numbers) →
    TextsOf unrolled counts numbers asked.growth asked.rewriting.inline asked.rewriting.select text report → IfSome b (λ held. Compiles asked held text report)
all_of asked program unrolled counts numbers text report None u h k m t = tt
all_of asked program unrolled counts numbers text report (Some held) u h k m t = record {
  program = program;
  holds = h;
  counts = counts;
  counted = k;
  numbers = numbers;
  machine_is = m;
  unrolled = unrolled;
  turns = u;
  texts = t;
  faithful = faithful_back asked.rewriting.unroll program unrolled u numbers t.words t.compiled.faithful;
  names = names_back asked.rewriting.unroll program unrolled u;
}

-- the report is not asked

writes_plain : (asked : Compilation) (text report : List ℕ) (b after : Option Files) → asked.report ≡ None → IfSome b (λ held. Compiles asked held text report) → after ≡ with_file b asked.out text → IfSome b (λ held. Writes asked held after)
writes_plain asked text report None after none all is = tt
writes_plain asked text report (Some held) after none all is = record {
  text = text;
  report = report;
  compiles = all;
  written = is ∙ ap (λ (name : Option (List ℕ)). Some (with_report name report (held_with asked.out text held))) (sym none);
}

partly_words : (asked : Compilation) (text report : List ℕ) (b after : Option Files) → IfSome b (λ held. Compiles asked held text report) → ReplacesPartly b after asked.out text → IfSome b (λ held. WritesPartly asked held after)
partly_words asked text report None after all is = tt
partly_words asked text report (Some held) after all is = record { text = text; report = report; compiles = all; partly = inl is }

plain : (asked : Compilation) (text report : List ℕ) (e : Effect) (status : Status) → asked.report ≡ None → IfSome e.before (λ held. Compiles asked held text report) → WriteAnswers asked.out text e status → CompileAnswers asked e status
plain asked text report e Done none all is = writes_plain asked text report e.before e.after none all is
plain asked text report e Usage none all is = absurd is
plain asked text report e (Trapped trap) none all is = absurd is
plain asked text report e (Words code line) none all is = absurd is
plain asked text report e Stopped none all is = absurd is
plain asked text report e (Input place) none all is = absurd is
plain asked text report e (Stuck reason place) none all is = absurd is
plain asked text report e (NotStrict breach place) none all is = absurd is
plain asked text report e (Source code line column) none all is = absurd is
plain asked text report e (Limit number count) none all is = absurd is
plain asked text report e (Profile code line) none all is = absurd is
plain asked text report e (Machine code field) none all is = absurd is
plain asked text report e (NoFile role) none all is = absurd is
plain asked text report e (ReadFault role) none all is = absurd is
plain asked text report e WriteFault none all is = (is.0, partly_words asked text report e.before e.after all is.1)
plain asked text report e NoMemory none all is = inl is

-- the report is asked

-- the words could not be put
unput : (asked : Compilation) (text report : List ℕ) (e : Effect) (status : Status) → status ≢ Done → IfSome e.before (λ held. Compiles asked held text report) → WriteAnswers asked.out text e status → CompileAnswers asked e status
unput asked text report e Done other all is = absurd (other refl)
unput asked text report e Usage other all is = absurd is
unput asked text report e (Trapped trap) other all is = absurd is
unput asked text report e (Words code line) other all is = absurd is
unput asked text report e Stopped other all is = absurd is
unput asked text report e (Input place) other all is = absurd is
unput asked text report e (Stuck reason place) other all is = absurd is
unput asked text report e (NotStrict breach place) other all is = absurd is
unput asked text report e (Source code line column) other all is = absurd is
unput asked text report e (Limit number count) other all is = absurd is
unput asked text report e (Profile code line) other all is = absurd is
unput asked text report e (Machine code field) other all is = absurd is
unput asked text report e (NoFile role) other all is = absurd is
unput asked text report e (ReadFault role) other all is = absurd is
unput asked text report e WriteFault other all is = (is.0, partly_words asked text report e.before e.after all is.1)
unput asked text report e NoMemory other all is = inl is

writes_both : (asked : Compilation) (text report name : List ℕ) (b after : Option Files) → asked.report ≡ Some name → IfSome b (λ held. Compiles asked held text report) → after ≡ with_file (with_file b asked.out text) name report →
    IfSome b (λ held. Writes asked held after)
writes_both asked text report name None after some all is = tt
writes_both asked text report name (Some held) after some all is = record {
  text = text;
  report = report;
  compiles = all;
  written = is ∙ ap (λ (n : Option (List ℕ)). Some (with_report n report (held_with asked.out text held))) (sym some);
}

partly_report : (asked : Compilation) (text report name : List ℕ) (b after : Option Files) → asked.report ≡ Some name → IfSome b (λ held. Compiles asked held text report) → ReplacesPartly (with_file b asked.out text) after name report →
    IfSome b (λ held. WritesPartly asked held after)
partly_report asked text report name None after some all is = tt
partly_report asked text report name (Some held) after some all is =
    let partly : ReportsPartly asked.report report (held_with asked.out text held) after = subst (λ (n : Option (List ℕ)). ReportsPartly n report (held_with asked.out text held) after) (sym some) is in
    record { text = text; report = report; compiles = all; partly = inr partly }

words_alone : (asked : Compilation) (text report name : List ℕ) (b after : Option Files) → asked.report ≡ Some name → IfSome b (λ held. Compiles asked held text report) → after ≡ with_file b asked.out text →
    (after ≡ b) ⊎ IsSomeAnd b (λ held. WritesWords asked held after)
words_alone asked text report name None after some all is = inl is
words_alone asked text report name (Some held) after some all is = inr (record { text = text; report = report; compiles = all; wanted = ap (λ (n : Option (List ℕ)). is_some n) some; written = is })

reported : (asked : Compilation) (text report name : List ℕ) (e : Effect) (status : Status) → asked.report ≡ Some name → IfSome e.before (λ held. Compiles asked held text report) → WriteAnswers name report (once_written asked.out text e) status →
    CompileAnswers asked e status
reported asked text report name e Done some all is = writes_both asked text report name e.before e.after some all is
reported asked text report name e Usage some all is = absurd is
reported asked text report name e (Trapped trap) some all is = absurd is
reported asked text report name e (Words code line) some all is = absurd is
reported asked text report name e Stopped some all is = absurd is
reported asked text report name e (Input place) some all is = absurd is
reported asked text report name e (Stuck reason place) some all is = absurd is
reported asked text report name e (NotStrict breach place) some all is = absurd is
reported asked text report name e (Source code line column) some all is = absurd is
reported asked text report name e (Limit number count) some all is = absurd is
reported asked text report name e (Profile code line) some all is = absurd is
reported asked text report name e (Machine code field) some all is = absurd is
reported asked text report name e (NoFile role) some all is = absurd is
reported asked text report name e (ReadFault role) some all is = absurd is
reported asked text report name e WriteFault some all is = (is.0, partly_report asked text report name e.before e.after some all is.1)
reported asked text report name e NoMemory some all is = words_alone asked text report name e.before e.after some all is

written : (asked : Compilation) (text report : List ℕ) (e : Effect) (status : Status) (name : Option (List ℕ)) → asked.report ≡ name → IfSome e.before (λ held. Compiles asked held text report) → ReportAnswers asked.out text name report e status →
    CompileAnswers asked e status
written asked text report e status None is all a = plain asked text report e status is all a
written asked text report e status (Some name) is all (inl a) = unput asked text report e status a.0 all a.1
written asked text report e status (Some name) is all (inr a) = reported asked text report name e status is all a

-- the same, looked at from an earlier moment

once_since : (out text : List ℕ) (e f : Effect) → Since e f → Since (once_written out text e) (once_written out text f)
once_since out text e f s = record {
  before = ap (λ b. with_file b out text) s.before;
  after = s.after;
  reads = s.reads;
  reads_after = s.reads_after;
  replaces = s.replaces;
  replaces_after = s.replaces_after;
}

report_since : (out text : List ℕ) (name : Option (List ℕ)) (report : List ℕ) (e f : Effect) (status : Status) → Since e f → ReportAnswers out text name report e status → ReportAnswers out text name report f status
report_since out text None report e f status s a = write_since out text e f status s a
report_since out text (Some name) report e f status s (inl a) = inl (a.0, write_since out text e f status s a.1)
report_since out text (Some name) report e f status s (inr a) = inr (write_since name report (once_written out text e) (once_written out text f) status (once_since out text e f s) a)

module _ (program : Program) (counts : Counts) (numbers : Numbers) (asked : Compilation) where
  abbrev Puts : Effect → Status → Type 0
  Puts e status = ((status ≡ NoMemory) × SameFiles e) ⊎ PutsTexts program counts numbers asked.growth asked.rewriting.inline asked.rewriting.select asked.out asked.report e status

  puts_since : (e f : Effect) (status : Status) → Since e f → Puts e status → Puts f status
  puts_since e f status s (inl is) = inl (is.0, same_since e f s is.1)
  puts_since e f status s (inr put) = inr (record { text = put.text; report = put.report; texts = put.texts; answers = report_since asked.out put.text asked.report put.report e f status s put.answers })

  pub for_machine : (e f : Effect) (status : Status) → Since e f → IfSome f.before (λ held. machine_found held asked.machine ≡ Is numbers) → Puts e status → MachineOrTexts program counts asked f status
  for_machine e f status s m a = inr (record { numbers = numbers; machine_is = m; answers = puts_since e f status s a })

  answers_texts : (e : Effect) (status : Status) → ReadAs e.before asked.source asked.rewriting program → IfSome e.before (λ held. AreCounts held asked.profile counts) →
      IfSome e.before (λ held. machine_found held asked.machine ≡ Is numbers) → Puts e status → CompileAnswers asked e status
  answers_texts e status r k m (inl is) = subst (CompileAnswers asked e) (sym is.0) (inl is.1)
  answers_texts e status r k m (inr put) =
      written asked put.text put.report e status asked.report refl (all_of asked r.program program counts numbers put.text put.report e.before r.turns r.holds k m put.texts) put.answers

machine_told : (machine : Option (List ℕ)) (numbers : Numbers) (e f : Effect) → Since e f → IfSome e.before (λ held. machine_found held machine ≡ Is numbers) →
    IfSome f.before (λ held. machine_found held machine ≡ Is numbers)
machine_told machine numbers e f s h = told_since e f (λ held. machine_found held machine ≡ Is numbers) s h

-- a profile stands, and reading it changed no file
pub by_profile : (program : Program) (counts : Counts) (asked : Compilation) (e f : Effect) (status : Status) → Since e f →
    IfSome f.before (λ held. AreCounts held asked.profile counts) → MachineOrTexts program counts asked e status → ProgramAnswers program asked f status
by_profile program counts asked e f status s k (inl none) =
    inr (record { counts = counts; counted = k; answers = inl (record { named = none.named; answers = machine_since asked.machine e f status s none.answers }) })
by_profile program counts asked e f status s k (inr for) =
    inr (record {
      counts = counts;
      counted = k;
      answers = inr (record {
        numbers = for.numbers;
        machine_is = machine_told asked.machine for.numbers e f s for.machine_is;
        answers = puts_since program counts for.numbers asked e f status s for.answers;
      });
    })

counted_answers : (program : Program) (counts : Counts) (asked : Compilation) (e f : Effect) (status : Status) → Since e f → ReadAs f.before asked.source asked.rewriting program →
    IfSome f.before (λ held. AreCounts held asked.profile counts) → MachineOrTexts program counts asked e status → CompileAnswers asked f status
counted_answers program counts asked e f status s r k (inl none) =
    stops asked f status (record {
      named = none.named;
      accepted = accepts_in asked.source r.program f.before r.holds;
      profiled = stands asked.profile f.before counts k;
      answers = machine_since asked.machine e f status s none.answers;
    })
counted_answers program counts asked e f status s r k (inr for) =
    answers_texts program counts for.numbers asked f status r k (machine_told asked.machine for.numbers e f s for.machine_is) (puts_since program counts for.numbers asked e f status s for.answers)

pub compiled_answers : (asked : Compilation) (program : Program) (e f : Effect) (status : Status) → Since e f →
    ReadAs f.before asked.source asked.rewriting program → ProgramAnswers program asked e status → CompileAnswers asked f status
compiled_answers asked program e f status s r (inl none) =
    at_profile asked f status (record { named = none.named; accepted = accepts_in asked.source r.program f.before r.holds; answers = profile_since asked.profile e f status s none.answers })
compiled_answers asked program e f status s r (inr by) =
    counted_answers program by.counts asked e f status s r (told_since e f (λ held. AreCounts held asked.profile by.counts) s by.counted) by.answers

-- two facts of one answer
pub both_ok : {T E : Type 0} (r : Result T E) (P Q : T → Type 0) → IfOk r P → IfOk r Q → IfOk r (λ t. P t × Q t)
both_ok (Ok t) P Q p q = (p, q)
both_ok (Err e) P Q p q = tt
