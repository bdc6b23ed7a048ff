-- What the answer of `exec` excludes where nothing fails.
use Rattle.std.proofs.Common.{◌≡◌, ◌∙◌, ◌⊎◌, inl, inr, ℕ, ℤ, List, Option, Some, None, Result, Ok, Err, IfSome, refl, sym, subst, ap}
use Rattle.vx_base.specs.Outcome.{Goes, IsGoing}
use Rattle.vx_io.specs.Outside.{Files}
use Rattle.vx_io.specs.declared.role.Role.TheVariants.{Source as TheSource, Words as TheWords, Profile as TheProfile, Machine as TheMachine, Input as TheInput}
use Rattle.vx_status.specs.declared.status.Status.{Status}
use Rattle.vx_status.specs.declared.status.Status.TheVariants.{Done, Trapped, Usage, Source, Limit, Words, Profile, Machine, NoFile, ReadFault, WriteFault, Stopped, Input, Stuck, NoMemory, NotStrict}
use Rattle.vx_isa.specs.Numbers.{Numbers}
use Rattle.vx_machine.specs.declared.description.MachineFault.TheVariants.{Bad}
use Rattle.vx_ast.specs.Tree.{Program}
use Rattle.vx_ast.specs.Reads.{Reads, Refusal}
use Rattle.vx_ast.specs.declared.fault.SourceFault.{SourceFault}
use Rattle.vx_probe.specs.Times.{Times}
use Rattle.vx_command.specs.Command.{Execution}
use Rattle.vx_runs.specs.Boxes.{Boxes, Chosen, chosen}
use Rattle.vx_files.specs.Held.{HoldsProgram, Accepts, status_of, RefusesSource, Refuses, MachineFound, BadProfile, ProfileStands, RefusesProfile, Is, Refused, TooLong, Missing, found_in, machine_found, input_in, input_found}
use Rattle.vx_files.specs.Effects.{Effect, ReadsRose, OfFile}
use Rattle.vx_runs.specs.Simulated.{Loaded, machine_as, outcome_within, Streams, OutRose, ErrRose}
use Rattle.vx_commands.specs.Executed.{AllHeld, CompiledBy, Prepared, Runs, RunsCut, ExecutionAnswers, ExecAnswers, GoesOn, EndsAs, ExecEnds, ExecutionCompletes, ExecCompletes}
use Rattle.vx_files.proofs.SourceLaws.{one_program}
use Rattle.vx_runs.proofs.Told.{same_content, not_missing, told, told_of, told_or, refused_told, not_both, one_status, not_faulty}
use Rattle.vx_files.proofs.ProfileFile.{not_both_profiles, one_profile_status}
use Rattle.vx_runs.proofs.Simulating.{box_completes}

-- an answer, where nothing failed
data Ended (asked : Execution) (times : Times) (held : Files) : Status → Type 0 where
  ran : {status : Status} (p : Program) (x : Loaded) → AllHeld held asked p x.machine x.input → EndsAs asked held p x.machine x.input times status → Ended asked times held status
  refused : {status : Status} → Refuses held asked.source status → Ended asked times held status
  no_source : held asked.source ≡ None → Ended asked times held (NoFile TheSource)
  no_profile : {status : Status} → Accepts held asked.source → RefusesProfile held asked.profile status → Ended asked times held status
  no_machine : {status : Status} → Accepts held asked.source → ProfileStands held asked.profile → machine_as (machine_found held asked.machine) ≡ Err status → Ended asked times held status
  no_input : {status : Status} (m : Numbers) → Accepts held asked.source → ProfileStands held asked.profile → machine_found held asked.machine ≡ Is m → input_found held asked.input ≡ Err status → Ended asked times held status
  no_memory : Ended asked times held NoMemory

module _ (asked : Execution) (boxes : Chosen) (e : Effect) (s : Streams) (held : Files) (is : e.before ≡ Some held) (quiet_reads : ReadsRose e → ⊥) (quiet_out : OutRose s → ⊥) (quiet_err : ErrRose s → ⊥) where
  abbrev End : Status → Type 0
  End status = Ended asked boxes.times held status

  all_told : (x : Loaded) (ready : Prepared asked e x) → AllHeld held asked ready.source_program x.machine x.input
  all_told x ready = told (λ h. AllHeld h asked ready.source_program x.machine x.input) e.before held is ready.read

  accepts_told : IfSome e.before (λ h. Accepts h asked.source) → Accepts held asked.source
  accepts_told h = told (λ k. Accepts k asked.source) e.before held is h

  stands_told : IfSome e.before (λ h. ProfileStands h asked.profile) → ProfileStands held asked.profile
  stands_told h = told (λ k. ProfileStands k asked.profile) e.before held is h

  machine_told : (found : MachineFound) → IfSome e.before (λ h. machine_found h asked.machine ≡ found) → machine_found held asked.machine ≡ found
  machine_told found h = told (λ k. machine_found k asked.machine ≡ found) e.before held is h

  input_told : (status : Status) → IfSome e.before (λ h. input_found h asked.input ≡ Err status) → input_found held asked.input ≡ Err status
  input_told status h = told (λ k. input_found k asked.input ≡ Err status) e.before held is h

  input_refused : (place : ℕ) → OfFile e.before (λ h. input_found h asked.input ≡ Err (Input place)) (λ content. input_in (Some content) ≡ Err (Input place)) → input_found held asked.input ≡ Err (Input place)
  input_refused place h = told_of (λ k. input_found k asked.input ≡ Err (Input place)) (λ content. input_in (Some content) ≡ Err (Input place)) e.before held is h

  goes_on : (out : List ℕ) (r : Runs asked boxes e s (Goes out)) → GoesOn asked held r.ready.source_program r.words.machine r.words.input boxes.times
  goes_on out r = record {
    words = r.words.program;
    by = subst (λ b. CompiledBy b asked.profile asked.growth asked.rewriting.unroll asked.rewriting.inline asked.rewriting.select r.ready.source_program r.words.machine r.words.program) is r.ready.by;
    going = subst IsGoing (sym (ap (outcome_within r.words boxes.times) (sym (r.issues.all tt)) ∙ r.issues.comes)) tt;
  }

  same_limit : (n c number count : ℕ) → number ≡ n → count ≡ c → Limit n c ≡ Limit number count
  same_limit n c number count a b = rw (a, b) refl

  not_cut : RunsCut asked boxes e s → ⊥
  not_cut r = elim r.cut [ inl out ↦ quiet_out out.rose | inr lines ↦ quiet_err lines.rose ]

  ended : (status : Status) → ExecutionAnswers asked e s status boxes → End status
  ended Done a = ran a.2.ready.source_program a.2.words (all_told a.2.words a.2.ready) (a.0, a.1, a.2.in_source)
  ended (Trapped trap) a = ran a.1.ready.source_program a.1.words (all_told a.1.words a.1.ready) (a.0, a.1.in_source)
  ended Usage a = absurd a
  ended (Source code line column) a = refused (refused_told asked.source (Source code line column) e.before held is a.1)
  ended (Limit number count) (inl a) = refused (refused_told asked.source (Limit number count) e.before held is a.1)
  ended (Limit number count) (inr (inl a)) = no_profile (accepts_told a.accepted) (told (λ h. RefusesProfile h asked.profile (Limit number count)) e.before held is a.answers.3)
  ended (Limit number count) (inr (inr (inl a))) =
      no_machine (accepts_told a.accepted) (stands_told a.profiled) (ap machine_as (machine_told TooLong a.answers.3) ∙ ap Err (same_limit 11 65537 number count a.answers.0 a.answers.1))
  ended (Limit number count) (inr (inr (inr a))) =
      no_input a.machine (accepts_told a.accepted) (stands_told a.profiled) (machine_told (Is a.machine) a.machine_is) (input_told (Limit 12 16777217) a.answers.3 ∙ ap Err (same_limit 12 16777217 number count a.answers.0 a.answers.1))
  ended (Words code line) a = absurd a
  ended (Profile code line) a = no_profile (accepts_told a.accepted) (told_of (λ h. RefusesProfile h asked.profile (Profile code line)) (λ content. BadProfile content (Profile code line)) e.before held is a.answers.1)
  ended (Machine code field) a = no_machine (accepts_told a.accepted) (stands_told a.profiled)
      (ap machine_as (told_of (λ h. machine_found h asked.machine ≡ Refused (Bad code field)) (λ content. found_in (Some content) ≡ Refused (Bad code field)) e.before held is a.answers.1))
  ended (NoFile TheSource) a = no_source (told_or (ReadsRose e) (λ h. h asked.source ≡ None) e.before held is a.2)
  ended (NoFile TheWords) a = absurd a
  ended (NoFile TheProfile) a = no_profile (accepts_told a.accepted) (told_or (ReadsRose e) (λ h. RefusesProfile h asked.profile (NoFile TheProfile)) e.before held is a.answers.2)
  ended (NoFile TheMachine) a =
      no_machine (accepts_told a.accepted) (stands_told a.profiled) (ap machine_as (told_or (ReadsRose e) (λ h. machine_found h asked.machine ≡ Missing) e.before held is a.answers.2))
  ended (NoFile TheInput) a =
      no_input a.machine (accepts_told a.accepted) (stands_told a.profiled) (machine_told (Is a.machine) a.machine_is) (told_or (ReadsRose e) (λ h. input_found h asked.input ≡ Err (NoFile TheInput)) e.before held is a.answers.2)
  ended (ReadFault TheSource) a = absurd (quiet_reads a.2)
  ended (ReadFault TheWords) a = absurd a
  ended (ReadFault TheProfile) a = absurd (quiet_reads a.answers.2)
  ended (ReadFault TheMachine) a = absurd (quiet_reads a.answers.2)
  ended (ReadFault TheInput) a = absurd (quiet_reads a.answers.2)
  ended WriteFault a = absurd (not_cut a)
  ended Stopped a = ran a.1.ready.source_program a.1.words (all_told a.1.words a.1.ready) (goes_on a.0 a.1)
  ended (Input place) a = no_input a.machine (accepts_told a.accepted) (stands_told a.profiled) (machine_told (Is a.machine) a.machine_is) (input_refused place a.answers.1)
  ended (Stuck reason place) a = absurd a
  ended (NotStrict breach place) a = absurd a
  ended NoMemory a = no_memory

-- what one answer leaves of the others

machine_or : (f : MachineFound) (m : Numbers) (why : Status) → f ≡ Is m → machine_as f ≡ Err why → ⊥
machine_or f m why is bad = let both : Ok m ≡ Err why = sym (ap machine_as is) ∙ bad in cc

input_or : (r : Result (List ℤ) Status) (numbers : List ℤ) (why : Status) → r ≡ Ok numbers → r ≡ Err why → ⊥
input_or r numbers why is bad = cc

same_machine : (f : MachineFound) (m k : Numbers) → f ≡ Is m → f ≡ Is k → m ≡ k
same_machine f m k a b = cc

same_input : (r : Result (List ℤ) Status) (m k : List ℤ) → r ≡ Ok m → r ≡ Ok k → m ≡ k
same_input r m k a b = cc

same_why : {A : Type 0} (r : Result A Status) (a b : Status) → r ≡ Err a → r ≡ Err b → a ≡ b
same_why r a b x y = cc

module _ (asked : Execution) (times : Times) (held : Files) where
  accepts_of : (p : Program) (m : Numbers) (numbers : List ℤ) → AllHeld held asked p m numbers → Accepts held asked.source
  accepts_of p m numbers all = record { program = p; is = all.program_is }

  there : Accepts held asked.source → held asked.source ≡ None → ⊥
  there a none = not_missing (held asked.source) a.is.content a.is.holds none

  same_program : (p q : Program) → HoldsProgram held asked.source p → HoldsProgram held asked.source q → q ≡ p
  same_program p q a b = one_program a.content q p (subst (λ bytes. Reads bytes q) (same_content (held asked.source) b.content a.content b.holds a.holds) b.reads) a.reads

  accepted : (status : Status) (p : Program) (m : Numbers) (numbers : List ℤ) → AllHeld held asked p m numbers → Ended asked times held status → EndsAs asked held p m numbers times status ⊎ (status ≡ NoMemory)
  accepted status p m numbers all (ran q x other end) =
      inl (subst (λ r. EndsAs asked held r m numbers times status) (same_program p q all.program_is other.program_is)
      (subst (λ k. EndsAs asked held q k numbers times status) (same_machine (machine_found held asked.machine) x.machine m other.machine_is all.machine_is)
      (subst (λ l. EndsAs asked held q x.machine l times status) (same_input (input_found held asked.input) x.input numbers other.input_is all.input_is) end)))
  accepted status p m numbers all (refused r) = absurd (not_both held asked.source status (accepts_of p m numbers all) r)
  accepted status p m numbers all (no_source none) = absurd (there (accepts_of p m numbers all) none)
  accepted status p m numbers all (no_profile a why) = absurd (not_both_profiles held asked.profile status all.profiled why)
  accepted status p m numbers all (no_machine a k why) = absurd (machine_or (machine_found held asked.machine) m status all.machine_is why)
  accepted status p m numbers all (no_input k a l is why) = absurd (input_or (input_found held asked.input) numbers status all.input_is why)
  accepted status p m numbers all no_memory = inr refl

  is_refused : (status : Status) (content : List ℕ) (fault : SourceFault) → held asked.source ≡ Some content → Refusal content fault → Ended asked times held status → (status ≡ status_of fault) ⊎ (status ≡ NoMemory)
  is_refused status content fault holds f (ran q x all end) = absurd (not_faulty held asked.source content fault holds f (accepts_of q x.machine x.input all))
  is_refused status content fault holds f (refused r) =
      inl (one_status content fault status f (subst (λ bytes. RefusesSource bytes status) (same_content (held asked.source) r.content content r.holds holds) r.refused))
  is_refused status content fault holds f (no_source none) = absurd (not_missing (held asked.source) content holds none)
  is_refused status content fault holds f (no_profile a why) = absurd (not_faulty held asked.source content fault holds f a)
  is_refused status content fault holds f (no_machine a k why) = absurd (not_faulty held asked.source content fault holds f a)
  is_refused status content fault holds f (no_input k a l is why) = absurd (not_faulty held asked.source content fault holds f a)
  is_refused status content fault holds f no_memory = inr refl

  is_missing : (status : Status) → held asked.source ≡ None → Ended asked times held status → (status ≡ NoFile TheSource) ⊎ (status ≡ NoMemory)
  is_missing status none (ran q x all end) = absurd (there (accepts_of q x.machine x.input all) none)
  is_missing status none (refused r) = absurd (not_missing (held asked.source) r.content r.holds none)
  is_missing status none (no_source other) = inl refl
  is_missing status none (no_profile a why) = absurd (there a none)
  is_missing status none (no_machine a k why) = absurd (there a none)
  is_missing status none (no_input k a l is why) = absurd (there a none)
  is_missing status none no_memory = inr refl

  at_profile : (status why : Status) → Accepts held asked.source → RefusesProfile held asked.profile why → Ended asked times held status → (status ≡ why) ⊎ (status ≡ NoMemory)
  at_profile status why a bad (ran q x all end) = absurd (not_both_profiles held asked.profile why all.profiled bad)
  at_profile status why a bad (refused r) = absurd (not_both held asked.source status a r)
  at_profile status why a bad (no_source none) = absurd (there a none)
  at_profile status why a bad (no_profile b other) = inl (one_profile_status held asked.profile status why other bad)
  at_profile status why a bad (no_machine b k other) = absurd (not_both_profiles held asked.profile why k bad)
  at_profile status why a bad (no_input m b k is other) = absurd (not_both_profiles held asked.profile why k bad)
  at_profile status why a bad no_memory = inr refl

  at_machine : (status why : Status) → Accepts held asked.source → ProfileStands held asked.profile → machine_as (machine_found held asked.machine) ≡ Err why → Ended asked times held status → (status ≡ why) ⊎ (status ≡ NoMemory)
  at_machine status why a l bad (ran q x all end) = absurd (machine_or (machine_found held asked.machine) x.machine why all.machine_is bad)
  at_machine status why a l bad (refused r) = absurd (not_both held asked.source status a r)
  at_machine status why a l bad (no_source none) = absurd (there a none)
  at_machine status why a l bad (no_profile b other) = absurd (not_both_profiles held asked.profile status l other)
  at_machine status why a l bad (no_machine b o other) = inl (same_why (machine_as (machine_found held asked.machine)) status why other bad)
  at_machine status why a l bad (no_input k b o is other) = absurd (machine_or (machine_found held asked.machine) k why is bad)
  at_machine status why a l bad no_memory = inr refl

  at_input : (status : Status) (m : Numbers) (why : Status) → Accepts held asked.source → ProfileStands held asked.profile → machine_found held asked.machine ≡ Is m → input_found held asked.input ≡ Err why → Ended asked times held status → (status ≡ why) ⊎ (status ≡ NoMemory)
  at_input status m why a l is bad (ran q x all end) = absurd (input_or (input_found held asked.input) x.input why all.input_is bad)
  at_input status m why a l is bad (refused r) = absurd (not_both held asked.source status a r)
  at_input status m why a l is bad (no_source none) = absurd (there a none)
  at_input status m why a l is bad (no_profile b other) = absurd (not_both_profiles held asked.profile status l other)
  at_input status m why a l is bad (no_machine b o other) = absurd (machine_or (machine_found held asked.machine) m status is other)
  at_input status m why a l is bad (no_input k b o found other) = inl (same_why (input_found held asked.input) status why other bad)
  at_input status m why a l is bad no_memory = inr refl

  ends_in : (status : Status) → Ended asked times held status → ExecEnds asked times held status
  ends_in status end = record {
    accepted = λ p m numbers all. accepted status p m numbers all end;
    refused = λ content fault holds f. is_refused status content fault holds f end;
    missing = λ none. is_missing status none end;
    no_profile = λ why a bad. at_profile status why a bad end;
    no_machine = λ why a l bad. at_machine status why a l bad end;
    no_input = λ m why a l is bad. at_input status m why a l is bad end;
  }

execution_completes : (asked : Execution) (boxes : Chosen) (e : Effect) (s : Streams) (status : Status) (b : Option Files) → e.before ≡ b → (ReadsRose e → ⊥) → (OutRose s → ⊥) → (ErrRose s → ⊥) →
    ExecutionAnswers asked e s status boxes → IfSome b (λ held. ExecEnds asked boxes.times held status)
execution_completes asked boxes e s status None is quiet_reads quiet_out quiet_err a = tt
execution_completes asked boxes e s status (Some held) is quiet_reads quiet_out quiet_err a =
    ends_in asked boxes.times held status (ended asked boxes e s held is quiet_reads quiet_out quiet_err status a)

pub exec_completes : (asked : Execution) (boxes : Boxes) (e : Effect) (s : Streams) (status : Status) → ExecAnswers asked boxes e s status → ExecCompletes asked boxes e s status
exec_completes asked boxes e s status a = λ quiet_reads quiet_out quiet_err.
    box_completes (ExecutionAnswers asked e s status) (ExecutionCompletes asked e status) (chosen asked.timing asked.probe boxes) status
    (λ these h. execution_completes asked these e s status e.before refl quiet_reads quiet_out quiet_err h) a.1
