-- The answers of `profile` from those of its steps, and what they exclude where nothing fails.
use Rattle.std.proofs.Common.{◌≡◌, ◌⊎◌, inl, inr, ℕ, ℤ, Bool, true, false, List, is_some, Option, Some, None, Result, Ok, Err, IfSome, refl, sym, subst, ap, ◌∙◌}
use Rattle.vx_io.specs.Outside.{Files, PutsFront, with_bytes}
use Rattle.vx_io.specs.declared.role.Role.TheVariants.{Source as TheSource, Words as TheWords, Profile as TheProfile, Machine as TheMachine, Input as TheInput}
use Rattle.vx_ast.specs.Tree.{Program}
use Rattle.vx_ast.specs.Reads.{Refusal}
use Rattle.vx_ast.specs.declared.fault.SourceFault.{SourceFault}
use Rattle.vx_status.specs.declared.status.Status.{Status}
use Rattle.vx_status.specs.declared.status.Status.TheVariants.{Done, Trapped, Usage, Source, Limit, Words, Profile, Machine, NoFile, ReadFault, WriteFault, Stopped, Input, Stuck, NoMemory, NotStrict}
use Rattle.vx_command.specs.Command.{Profiling}
use Rattle.vx_files.specs.Held.{HoldsProgram, Accepts, Refuses, RefusesSource, status_of, input_in, input_found}
use Rattle.vx_files.specs.Effects.{Effect, ReadsRose, SameFiles, OfFile, SourceAnswers, InputAnswers}
use Rattle.vx_runs.specs.Simulated.{Streams, OutRose}
use Rattle.vx_runs.specs.Counted.{CountsRead, CountedRun, StopsAtCountsInput, CountsAnswers, ProfilingAnswers, CountsEnd, ProfilingCompletes}
use Rattle.vx_runs.specs.Rewritten.{ReadAs}
use Rattle.vx_runs.specs.Counting.{CountedOn, CountedFor, PutsText, over, goes_on, cut, StopsProfiling}
use Rattle.vx_runs.proofs.Since.{Since, told_since}
use Rattle.vx_runs.proofs.Cases.{source_cases, input_cases}
use Rattle.vx_runs.proofs.Later.{accepts_in, input_since}
use Rattle.vx_runs.proofs.Told.{same_content, not_missing, told, told_of, told_or, refused_told, not_both, one_status, not_faulty}

-- one step after the other

read_in : (asked : Profiling) (program : Program) (input : List ℤ) (b : Option Files) → IfSome b (λ held. HoldsProgram held asked.source program) → IfSome b (λ held. input_found held asked.input ≡ Ok input) →
    IfSome b (λ held. CountsRead held asked program input)
read_in asked program input None h i = tt
read_in asked program input (Some held) h i = record { program_is = h; input_is = i }

pub counted_for : (asked : Profiling) (q : Program) (text : List ℕ) (complete : Bool) (e f : Effect) → Since e f → ReadAs f.before asked.source asked.rewriting q →
    CountedOn q asked.rewriting.select asked.input asked.blocks e text complete → CountedFor asked f text complete
counted_for asked q text complete e f since r c = record {
  counted = record {
    program = r.program;
    input = c.input;
    read = read_in asked r.program c.input f.before r.holds (told_since e f (λ held. input_found held asked.input ≡ Ok c.input) since c.input_is);
    unnamed = c.unnamed;
    unrolled = q;
    turns = r.turns;
    run = c.is.run;
  };
  text_is = c.is.text_is;
  ended = c.is.ended;
}

pub stops_later : (asked : Profiling) (q : Program) (e f : Effect) (status : Status) → Since e f → ReadAs f.before asked.source asked.rewriting q →
    ((status ≡ NoMemory) ⊎ ((is_some asked.input ≡ true) × InputAnswers asked.input e status)) → StopsProfiling asked f status
stops_later asked q e f status since r (inl memory) = inl memory
stops_later asked q e f status since r (inr why) = inr (inr (record {
  named = why.0;
  accepted = accepts_in asked.source r.program f.before r.holds;
  answers = input_since asked.input e f status since why.1;
}))

pub put_ended : (text : List ℕ) (complete : Bool) (s : Streams) (status : Status) → s.out_after ≡ with_bytes s.out_before text → (complete ≡ true → (status ≡ Done) × (s.err_after ≡ s.err_before)) →
    (complete ≡ false → status ≡ Stopped) → PutsText text complete s status
put_ended text true s status put ended goes = let both = ended refl in over refl both.0 put both.1
put_ended text false s status put ended goes = goes_on refl (goes refl) put

pub put_cut : (text : List ℕ) (complete : Bool) (s : Streams) (status : Status) → status ≡ WriteFault → OutRose s → PutsFront s.out_before s.out_after text → PutsText text complete s status
put_cut text complete s status fault rose front = cut fault rose front

module _ (asked : Profiling) (e : Effect) (s : Streams) where
  -- the text is put

  of_text : (text : List ℕ) (complete : Bool) (status : Status) → CountedFor asked e text complete → PutsText text complete s status → CountsAnswers asked e s status
  of_text text complete status c (over is done put quiet) =
      subst (CountsAnswers asked e s) (sym done) (record { counted = c.counted; put = subst (λ t. s.out_after ≡ with_bytes s.out_before t) c.text_is put }, c.ended.0 is, quiet)
  of_text text complete status c (goes_on is stopped put) =
      subst (CountsAnswers asked e s) (sym stopped) (
        record { counted = c.counted; put = subst (λ t. s.out_after ≡ with_bytes s.out_before t) c.text_is put },
        λ ended. not_both_ways complete (c.ended.1 ended) is,
      )
    where
      not_both_ways : (b : Bool) → b ≡ true → b ≡ false → ⊥
      not_both_ways b x y = cc
  of_text text complete status c (cut fault rose front) =
      subst (CountsAnswers asked e s) (sym fault) (record { counted = c.counted; rose = rose; front = subst (λ t. PutsFront s.out_before s.out_after t) c.text_is front })

  pub text_answers : (text : List ℕ) (complete : Bool) (status : Status) → SameFiles e → CountedFor asked e text complete → PutsText text complete s status → ProfilingAnswers asked e s status
  text_answers text complete status same c put = (same, of_text text complete status c put)

  -- a step before stopped it

  at_source : (status : Status) → SourceAnswers asked.source e status → CountsAnswers asked e s status
  at_source = source_cases asked.source e (CountsAnswers asked e s) (λ code line column a. a) (λ number count a. inl a) (λ a. a) (λ a. a) tt

  at_input : (status : Status) → StopsAtCountsInput asked e status → CountsAnswers asked e s status
  at_input =
      input_cases asked.input e (StopsAtCountsInput asked e) (CountsAnswers asked e s) (λ status a. a.answers) (λ number count a. inr a) (λ a. a) (λ a. a) (λ place a. a) tt

  stops : (status : Status) → StopsProfiling asked e status → CountsAnswers asked e s status
  stops status (inl memory) = subst (CountsAnswers asked e s) (sym memory) tt
  stops status (inr (inl a)) = at_source status a
  stops status (inr (inr a)) = at_input status a

  pub stops_answers : (status told : Status) → told ≡ status → SameFiles e → StopsProfiling asked e status → ProfilingAnswers asked e s told
  stops_answers status told is same a = (same, subst (CountsAnswers asked e s) (sym is) (stops status a))

-- where nothing fails

data Ended (asked : Profiling) (held : Files) : Status → Type 0 where
  ran : {status : Status} (p : Program) (input : List ℤ) → CountsRead held asked p input → (status ≡ Done) ⊎ (status ≡ Stopped) → Ended asked held status
  refused : {status : Status} → Refuses held asked.source status → Ended asked held status
  no_source : held asked.source ≡ None → Ended asked held (NoFile TheSource)
  no_input : {status : Status} → Accepts held asked.source → input_found held asked.input ≡ Err status → Ended asked held status
  no_memory : Ended asked held NoMemory

module _ (asked : Profiling) (e : Effect) (s : Streams) (held : Files) (is : e.before ≡ Some held) (quiet_reads : ReadsRose e → ⊥) (quiet_out : OutRose s → ⊥) where
  accepts_told : IfSome e.before (λ h. Accepts h asked.source) → Accepts held asked.source
  accepts_told a = told (λ h. Accepts h asked.source) e.before held is a

  read_told : (c : CountedRun asked e) → CountsRead held asked c.program c.input
  read_told c = told (λ h. CountsRead h asked c.program c.input) e.before held is c.read

  input_told : (status : Status) → IfSome e.before (λ h. input_found h asked.input ≡ Err status) → input_found held asked.input ≡ Err status
  input_told status h = told (λ k. input_found k asked.input ≡ Err status) e.before held is h

  input_refused : (place : ℕ) → OfFile e.before (λ h. input_found h asked.input ≡ Err (Input place)) (λ content. input_in (Some content) ≡ Err (Input place)) → input_found held asked.input ≡ Err (Input place)
  input_refused place h = told_of (λ k. input_found k asked.input ≡ Err (Input place)) (λ content. input_in (Some content) ≡ Err (Input place)) e.before held is h

  same_limit : (number count : ℕ) → number ≡ 12 → count ≡ 16777217 → Limit 12 16777217 ≡ Limit number count
  same_limit number count a b = cc

  ended : (status : Status) → CountsAnswers asked e s status → Ended asked held status
  ended Done a = ran a.0.counted.program a.0.counted.input (read_told a.0.counted) (inl refl)
  ended (Trapped trap) a = absurd a
  ended Usage a = absurd a
  ended (Source code line column) a = refused (refused_told asked.source (Source code line column) e.before held is a.1)
  ended (Limit number count) (inl a) = refused (refused_told asked.source (Limit number count) e.before held is a.1)
  ended (Limit number count) (inr a) =
      no_input (accepts_told a.accepted) (input_told (Limit 12 16777217) a.answers.3 ∙ ap Err (same_limit number count a.answers.0 a.answers.1))
  ended (Words code line) a = absurd a
  ended (Profile code line) a = absurd a
  ended (Machine code field) a = absurd a
  ended (NoFile TheSource) a = no_source (told_or (ReadsRose e) (λ h. h asked.source ≡ None) e.before held is a.2)
  ended (NoFile TheWords) a = absurd a
  ended (NoFile TheProfile) a = absurd a
  ended (NoFile TheMachine) a = absurd a
  ended (NoFile TheInput) a = no_input (accepts_told a.accepted) (told_or (ReadsRose e) (λ h. input_found h asked.input ≡ Err (NoFile TheInput)) e.before held is a.answers.2)
  ended (ReadFault TheSource) a = absurd (quiet_reads a.2)
  ended (ReadFault TheWords) a = absurd a
  ended (ReadFault TheProfile) a = absurd a
  ended (ReadFault TheMachine) a = absurd a
  ended (ReadFault TheInput) a = absurd (quiet_reads a.answers.2)
  ended WriteFault a = absurd (quiet_out a.rose)
  ended Stopped a = ran a.0.counted.program a.0.counted.input (read_told a.0.counted) (inr refl)
  ended (Input place) a = no_input (accepts_told a.accepted) (input_refused place a.answers.1)
  ended (Stuck reason place) a = absurd a
  ended (NotStrict breach place) a = absurd a
  ended NoMemory a = no_memory

input_or : (r : Result (List ℤ) Status) (numbers : List ℤ) (why : Status) → r ≡ Ok numbers → r ≡ Err why → ⊥
input_or r numbers why is bad = cc

same_why : (r : Result (List ℤ) Status) (a b : Status) → r ≡ Err a → r ≡ Err b → a ≡ b
same_why r a b x y = cc

module _ (asked : Profiling) (held : Files) where
  accepts_of : (p : Program) (input : List ℤ) → CountsRead held asked p input → Accepts held asked.source
  accepts_of p input all = record { program = p; is = all.program_is }

  there : Accepts held asked.source → held asked.source ≡ None → ⊥
  there a none = not_missing (held asked.source) a.is.content a.is.holds none

  accepted : (status : Status) (p : Program) (input : List ℤ) → CountsRead held asked p input → Ended asked held status → (status ≡ Done) ⊎ (status ≡ Stopped) ⊎ (status ≡ NoMemory)
  accepted status p input all (ran q other read (inl done)) = inl done
  accepted status p input all (ran q other read (inr stopped)) = inr (inl stopped)
  accepted status p input all (refused r) = absurd (not_both held asked.source status (accepts_of p input all) r)
  accepted status p input all (no_source none) = absurd (there (accepts_of p input all) none)
  accepted status p input all (no_input a why) = absurd (input_or (input_found held asked.input) input status all.input_is why)
  accepted status p input all no_memory = inr (inr refl)

  is_refused : (status : Status) (content : List ℕ) (fault : SourceFault) → held asked.source ≡ Some content → Refusal content fault → Ended asked held status → (status ≡ status_of fault) ⊎ (status ≡ NoMemory)
  is_refused status content fault holds f (ran q input read end) = absurd (not_faulty held asked.source content fault holds f (accepts_of q input read))
  is_refused status content fault holds f (refused r) =
      inl (one_status content fault status f (subst (λ bytes. RefusesSource bytes status) (same_content (held asked.source) r.content content r.holds holds) r.refused))
  is_refused status content fault holds f (no_source none) = absurd (not_missing (held asked.source) content holds none)
  is_refused status content fault holds f (no_input a why) = absurd (not_faulty held asked.source content fault holds f a)
  is_refused status content fault holds f no_memory = inr refl

  is_missing : (status : Status) → held asked.source ≡ None → Ended asked held status → (status ≡ NoFile TheSource) ⊎ (status ≡ NoMemory)
  is_missing status none (ran q input read end) = absurd (there (accepts_of q input read) none)
  is_missing status none (refused r) = absurd (not_missing (held asked.source) r.content r.holds none)
  is_missing status none (no_source other) = inl refl
  is_missing status none (no_input a why) = absurd (there a none)
  is_missing status none no_memory = inr refl

  without_input : (status why : Status) → Accepts held asked.source → input_found held asked.input ≡ Err why → Ended asked held status → (status ≡ why) ⊎ (status ≡ NoMemory)
  without_input status why a bad (ran q input read end) = absurd (input_or (input_found held asked.input) input why read.input_is bad)
  without_input status why a bad (refused r) = absurd (not_both held asked.source status a r)
  without_input status why a bad (no_source none) = absurd (there a none)
  without_input status why a bad (no_input b other) = inl (same_why (input_found held asked.input) status why other bad)
  without_input status why a bad no_memory = inr refl

  ends_in : (status : Status) → Ended asked held status → CountsEnd asked held status
  ends_in status end = record {
    accepted = λ p input all. accepted status p input all end;
    refused = λ content fault holds f. is_refused status content fault holds f end;
    missing = λ none. is_missing status none end;
    no_input = λ why a bad. without_input status why a bad end;
  }

complete_in : (asked : Profiling) (e : Effect) (s : Streams) (status : Status) (b : Option Files) → e.before ≡ b → (ReadsRose e → ⊥) → (OutRose s → ⊥) → CountsAnswers asked e s status → IfSome b (λ held. CountsEnd asked held status)
complete_in asked e s status None is quiet_reads quiet_out a = tt
complete_in asked e s status (Some held) is quiet_reads quiet_out a = ends_in asked held status (ended asked e s held is quiet_reads quiet_out status a)

pub profile_completes : (asked : Profiling) (e : Effect) (s : Streams) (status : Status) → ProfilingAnswers asked e s status → ProfilingCompletes asked e s status
profile_completes asked e s status a = λ quiet_reads quiet_out. complete_in asked e s status e.before refl quiet_reads quiet_out a.1
