-- What the answer of a command excludes where nothing fails.
use Rattle.std.proofs.Common.{◌≡◌, ◌⊎◌, inl, inr, ℕ, List, Option, Some, None, IfSome, refl, sym, subst}
use Rattle.vx_io.specs.Outside.{Files}
use Rattle.vx_isa.specs.Numbers.{Numbers}
use Rattle.vx_machine.specs.declared.description.MachineFault.TheVariants.{Bad}
use Rattle.vx_ast.specs.declared.fault.SourceFault.{SourceFault}
use Rattle.vx_io.specs.declared.role.Role.TheVariants.{Source as TheSource, Words as TheWords, Profile as TheProfile, Machine as TheMachine, Input as TheInput}
use Rattle.vx_status.specs.declared.status.Status.{Status}
use Rattle.vx_status.specs.declared.status.Status.TheVariants.{Done, Trapped, Usage, Source, Limit, Words, Profile, Machine, NoFile, ReadFault, WriteFault, Stopped, Input, Stuck, NoMemory, NotStrict}
use Rattle.vx_ast.specs.Reads.{Refusal}
use Rattle.vx_files.proofs.ProfileFile.{not_both_profiles, one_profile_status}
use Rattle.vx_command.specs.Command.{Compilation}
use Rattle.vx_files.specs.Held.{Accepts, status_of, RefusesSource, Refuses, MachineFound, Is, Refused, TooLong, Missing, found_in, machine_found, BadProfile, ProfileStands, RefusesProfile}
use Rattle.vx_commands.specs.Answers.{Writes, CompileAnswers, CompileEnds}
use Rattle.vx_files.specs.Effects.{Effect, ReadsRose, ReplacesRose}
use Rattle.vx_runs.proofs.Told.{same_content, not_missing, told, told_or, told_of, refused_told, not_both, one_status, not_faulty}

-- an answer, where nothing failed
pub data Ends (held : Files) (source : List ℕ) (profile machine : Option (List ℕ)) : Status → Type 0 where
  done : (numbers : Numbers) → Accepts held source → ProfileStands held profile → machine_found held machine ≡ Is numbers → Ends held source profile machine Done
  refused : {status : Status} → Refuses held source status → Ends held source profile machine status
  no_source : held source ≡ None → Ends held source profile machine (NoFile TheSource)
  no_profile : {status : Status} → Accepts held source → RefusesProfile held profile status → Ends held source profile machine status
  bad_machine : (code field : ℕ) → Accepts held source → ProfileStands held profile → machine_found held machine ≡ Refused (Bad code field) → Ends held source profile machine (Machine code field)
  long_machine : Accepts held source → ProfileStands held profile → machine_found held machine ≡ TooLong → Ends held source profile machine (Limit 11 65537)
  no_machine : Accepts held source → ProfileStands held profile → machine_found held machine ≡ Missing → Ends held source profile machine (NoFile TheMachine)
  no_memory : Ends held source profile machine NoMemory

module _ (asked : Compilation) (held : Files) (e : Effect) (is : e.before ≡ Some held) (quiet_reads : ReadsRose e → ⊥) (quiet_replaces : ReplacesRose e → ⊥) where
  accepts_told : IfSome e.before (λ h. Accepts h asked.source) → Accepts held asked.source
  accepts_told a = told (λ h. Accepts h asked.source) e.before held is a

  stands_told : IfSome e.before (λ h. ProfileStands h asked.profile) → ProfileStands held asked.profile
  stands_told a = told (λ h. ProfileStands h asked.profile) e.before held is a

  same_limit : (number count : ℕ) → number ≡ 11 → count ≡ 65537 → Limit 11 65537 ≡ Limit number count
  same_limit number count a b = cc

  told_ends : (status : Status) → CompileAnswers asked e status → Ends held asked.source asked.profile asked.machine status
  told_ends Done a =
      let w : Writes asked held e.after = told (λ h. Writes asked h e.after) e.before held is a in
      done w.compiles.numbers (record { program = w.compiles.program; is = w.compiles.holds }) (record { counts = w.compiles.counts; are = w.compiles.counted }) w.compiles.machine_is
  told_ends Usage a = absurd a
  told_ends (Trapped trap) a = absurd a
  told_ends (Words code line) a = absurd a
  told_ends Stopped a = absurd a
  told_ends (Input place) a = absurd a
  told_ends (Stuck reason place) a = absurd a
  told_ends (NotStrict breach place) a = absurd a
  told_ends (Source code line column) a = refused (refused_told asked.source (Source code line column) e.before held is a.1)
  told_ends (Limit number count) (inl a) = refused (refused_told asked.source (Limit number count) e.before held is a.1)
  told_ends (Limit number count) (inr (inl a)) = no_profile (accepts_told a.accepted) (told (λ h. RefusesProfile h asked.profile (Limit number count)) e.before held is a.answers.3)
  told_ends (Limit number count) (inr (inr a)) =
      let long : machine_found held asked.machine ≡ TooLong = told (λ h. machine_found h asked.machine ≡ TooLong) e.before held is a.answers.3 in
      subst (Ends held asked.source asked.profile asked.machine) (same_limit number count a.answers.0 a.answers.1) (long_machine (accepts_told a.accepted) (stands_told a.profiled) long)
  told_ends (Profile code line) a = no_profile (accepts_told a.accepted) (told_of (λ h. RefusesProfile h asked.profile (Profile code line)) (λ content. BadProfile content (Profile code line)) e.before held is a.answers.1)
  told_ends (Machine code field) a =
      bad_machine code field (accepts_told a.accepted) (stands_told a.profiled)
      (told_of (λ h. machine_found h asked.machine ≡ Refused (Bad code field)) (λ content. found_in (Some content) ≡ Refused (Bad code field)) e.before held is a.answers.1)
  told_ends (NoFile TheWords) a = absurd a
  told_ends (NoFile TheInput) a = absurd a
  told_ends (NoFile TheSource) a = no_source (told_or (ReadsRose e) (λ h. h asked.source ≡ None) e.before held is a.2)
  told_ends (NoFile TheProfile) a = no_profile (accepts_told a.accepted) (told_or (ReadsRose e) (λ h. RefusesProfile h asked.profile (NoFile TheProfile)) e.before held is a.answers.2)
  told_ends (NoFile TheMachine) a =
      no_machine (accepts_told a.accepted) (stands_told a.profiled) (told_or (ReadsRose e) (λ h. machine_found h asked.machine ≡ Missing) e.before held is a.answers.2)
  told_ends (ReadFault TheWords) a = absurd a
  told_ends (ReadFault TheInput) a = absurd a
  told_ends (ReadFault TheSource) a = absurd (quiet_reads a.2)
  told_ends (ReadFault TheProfile) a = absurd (quiet_reads a.answers.2)
  told_ends (ReadFault TheMachine) a = absurd (quiet_reads a.answers.2)
  told_ends WriteFault a = absurd (quiet_replaces a.0)
  told_ends NoMemory a = no_memory

there : (held : Files) (source : List ℕ) → Accepts held source → held source ≡ None → ⊥
there held source s none = not_missing (held source) s.is.content s.is.holds none

missing_ends : (held : Files) (source : List ℕ) (profile machine : Option (List ℕ)) (status : Status) → held source ≡ None → Ends held source profile machine status → (status ≡ NoFile TheSource) ⊎ (status ≡ NoMemory)
missing_ends held source profile machine status none (done numbers s k is) = absurd (there held source s none)
missing_ends held source profile machine status none (refused r) = absurd (not_missing (held source) r.content r.holds none)
missing_ends held source profile machine status none (no_source other) = inl refl
missing_ends held source profile machine status none (no_profile s why) = absurd (there held source s none)
missing_ends held source profile machine status none (bad_machine code field s k is) = absurd (there held source s none)
missing_ends held source profile machine status none (long_machine s k is) = absurd (there held source s none)
missing_ends held source profile machine status none (no_machine s k is) = absurd (there held source s none)
missing_ends held source profile machine status none no_memory = inr refl

-- the status of an accepted source, by what the machine comes to
abbrev due : MachineFound → Status → Type 0
due (Is numbers) status = status ≡ Done
due (Refused (Bad code field)) status = status ≡ Machine code field
due (Refused why) status = ⊥
due TooLong status = status ≡ Limit 11 65537
due Missing status = status ≡ NoFile TheMachine

refused_ends : (held : Files) (source : List ℕ) (profile machine : Option (List ℕ)) (status : Status) (content : List ℕ) (fault : SourceFault) → held source ≡ Some content → Refusal content fault → Ends held source profile machine status →
    (status ≡ status_of fault) ⊎ (status ≡ NoMemory)
refused_ends held source profile machine status content fault holds f (done numbers s k is) = absurd (not_faulty held source content fault holds f s)
refused_ends held source profile machine status content fault holds f (refused r) =
    inl (one_status content fault status f (subst (λ bytes. RefusesSource bytes status) (same_content (held source) r.content content r.holds holds) r.refused))
refused_ends held source profile machine status content fault holds f (no_source none) = absurd (not_missing (held source) content holds none)
refused_ends held source profile machine status content fault holds f (no_profile s why) = absurd (not_faulty held source content fault holds f s)
refused_ends held source profile machine status content fault holds f (bad_machine code field s k is) = absurd (not_faulty held source content fault holds f s)
refused_ends held source profile machine status content fault holds f (long_machine s k is) = absurd (not_faulty held source content fault holds f s)
refused_ends held source profile machine status content fault holds f (no_machine s k is) = absurd (not_faulty held source content fault holds f s)
refused_ends held source profile machine status content fault holds f no_memory = inr refl

-- an accepted source whose profile does not stand

unprofiled_ends : (held : Files) (source : List ℕ) (profile machine : Option (List ℕ)) (status why : Status) → Accepts held source → RefusesProfile held profile why → Ends held source profile machine status → (status ≡ why) ⊎ (status ≡ NoMemory)
unprofiled_ends held source profile machine status why s r (done numbers t k is) = absurd (not_both_profiles held profile why k r)
unprofiled_ends held source profile machine status why s r (refused away) = absurd (not_both held source status s away)
unprofiled_ends held source profile machine status why s r (no_source none) = absurd (there held source s none)
unprofiled_ends held source profile machine status why s r (no_profile t other) = inl (one_profile_status held profile status why other r)
unprofiled_ends held source profile machine status why s r (bad_machine code field t k is) = absurd (not_both_profiles held profile why k r)
unprofiled_ends held source profile machine status why s r (long_machine t k is) = absurd (not_both_profiles held profile why k r)
unprofiled_ends held source profile machine status why s r (no_machine t k is) = absurd (not_both_profiles held profile why k r)
unprofiled_ends held source profile machine status why s r no_memory = inr refl

-- an accepted source whose profile stands

accepted_ends : (held : Files) (source : List ℕ) (profile machine : Option (List ℕ)) (status : Status) → Accepts held source → ProfileStands held profile → Ends held source profile machine status → due (machine_found held machine) status ⊎ (status ≡ NoMemory)
accepted_ends held source profile machine status s k (done numbers t l is) = inl (subst (λ f. due f Done) (sym is) refl)
accepted_ends held source profile machine status s k (refused r) = absurd (not_both held source status s r)
accepted_ends held source profile machine status s k (no_source none) = absurd (there held source s none)
accepted_ends held source profile machine status s k (no_profile t why) = absurd (not_both_profiles held profile status k why)
accepted_ends held source profile machine status s k (bad_machine code field t l is) = inl (subst (λ f. due f (Machine code field)) (sym is) refl)
accepted_ends held source profile machine status s k (long_machine t l is) = inl (subst (λ f. due f (Limit 11 65537)) (sym is) refl)
accepted_ends held source profile machine status s k (no_machine t l is) = inl (subst (λ f. due f (NoFile TheMachine)) (sym is) refl)
accepted_ends held source profile machine status s k no_memory = inr refl

at_machine : (held : Files) (source : List ℕ) (profile machine : Option (List ℕ)) (status : Status) (found : MachineFound) → Ends held source profile machine status → Accepts held source → ProfileStands held profile →
    machine_found held machine ≡ found → due found status ⊎ (status ≡ NoMemory)
at_machine held source profile machine status found end s k is = subst (λ f. due f status ⊎ (status ≡ NoMemory)) is (accepted_ends held source profile machine status s k end)

ends_in : (asked : Compilation) (held : Files) (status : Status) → Ends held asked.source asked.profile asked.machine status → CompileEnds asked held status
ends_in asked held status end = record {
  accepted = λ s k numbers is. at_machine held asked.source asked.profile asked.machine status (Is numbers) end s k is;
  refused = λ content fault holds f. refused_ends held asked.source asked.profile asked.machine status content fault holds f end;
  missing = λ none. missing_ends held asked.source asked.profile asked.machine status none end;
  no_profile = λ s why r. unprofiled_ends held asked.source asked.profile asked.machine status why s r end;
  machine_refused = λ s k code field is. at_machine held asked.source asked.profile asked.machine status (Refused (Bad code field)) end s k is;
  machine_too_long = λ s k is. at_machine held asked.source asked.profile asked.machine status TooLong end s k is;
  machine_missing = λ s k is. at_machine held asked.source asked.profile asked.machine status Missing end s k is;
}

pub complete_in : (asked : Compilation) (e : Effect) (status : Status) (b : Option Files) → e.before ≡ b → (ReadsRose e → ⊥) → (ReplacesRose e → ⊥) →
    CompileAnswers asked e status → IfSome b (λ held. CompileEnds asked held status)
complete_in asked e status None is quiet_reads quiet_replaces a = tt
complete_in asked e status (Some held) is quiet_reads quiet_replaces a =
    ends_in asked held status (told_ends asked held e is quiet_reads quiet_replaces status a)
