-- What is said of the reading or the replacing of a file, looked at from an earlier moment.
use Rattle.std.proofs.Common.{◌≡◌, ℕ, List, Option, Some, None, Err, IfSome, MatchOption, sym, subst, ap, ◌∙◌}
use Rattle.vx_io.specs.Outside.{Files, with_file, ReplacesPartly}
use Rattle.vx_machine.specs.declared.description.MachineFault.TheVariants.{Bad}
use Rattle.vx_ast.specs.Tree.{Program}
use Rattle.vx_io.specs.declared.role.Role.TheVariants.{Input as TheInput}
use Rattle.vx_status.specs.declared.status.Status.{Status}
use Rattle.vx_status.specs.declared.status.Status.TheVariants.{Done, Trapped, Usage, Source, Limit, Words, Profile, Machine, NoFile, ReadFault, WriteFault, Stopped, Input, Stuck, NoMemory, NotStrict}
use Rattle.vx_files.specs.Held.{HoldsProgram, Accepts, BadProfile, Refused, TooLong, Missing, found_in, machine_found, RefusesProfile, input_in, input_found}
use Rattle.vx_runs.specs.Writing.{WriteAnswers}
use Rattle.vx_files.specs.Effects.{Effect, ReadsRose, ProfileAnswers, MachineAnswers, InputAnswers}
use Rattle.vx_runs.proofs.Since.{Since, same_since, reads_since, replaces_since, told_since, said_since, missing_since}

pub machine_since : (machine : Option (List ℕ)) (e f : Effect) (status : Status) → Since e f → MachineAnswers machine e status → MachineAnswers machine f status
machine_since machine e f Done s a = absurd a
machine_since machine e f Usage s a = absurd a
machine_since machine e f (Trapped trap) s a = absurd a
machine_since machine e f (Words code line) s a = absurd a
machine_since machine e f (Profile code line) s a = absurd a
machine_since machine e f Stopped s a = absurd a
machine_since machine e f (Input place) s a = absurd a
machine_since machine e f (Stuck reason place) s a = absurd a
machine_since machine e f (NotStrict breach place) s a = absurd a
machine_since machine e f (Source code line column) s a = absurd a
machine_since machine e f (Limit number count) s a = (a.0, a.1, same_since e f s a.2, told_since e f (λ held. machine_found held machine ≡ TooLong) s a.3)
machine_since machine e f (Machine code field) s a = (same_since e f s a.0, said_since e f (λ held. machine_found held machine ≡ Refused (Bad code field)) (λ content. found_in (Some content) ≡ Refused (Bad code field)) s a.1)
machine_since machine e f (NoFile role) s a =
    let P : Files → Type 0 = λ held. machine_found held machine ≡ Missing in
    (a.0, same_since e f s a.1, subst (λ b. MatchOption b (ReadsRose f) P) (sym s.before) (missing_since e f P e.before s a.2))
machine_since machine e f (ReadFault role) s a = (a.0, same_since e f s a.1, reads_since e f s a.2)
machine_since machine e f WriteFault s a = absurd a
machine_since machine e f NoMemory s a = same_since e f s a

pub profile_since : (profile : Option (List ℕ)) (e f : Effect) (status : Status) → Since e f → ProfileAnswers profile e status → ProfileAnswers profile f status
profile_since profile e f Done s a = absurd a
profile_since profile e f Usage s a = absurd a
profile_since profile e f (Trapped trap) s a = absurd a
profile_since profile e f (Words code line) s a = absurd a
profile_since profile e f (Profile code line) s a = (same_since e f s a.0, said_since e f (λ held. RefusesProfile held profile (Profile code line)) (λ content. BadProfile content (Profile code line)) s a.1)
profile_since profile e f Stopped s a = absurd a
profile_since profile e f (Input place) s a = absurd a
profile_since profile e f (Stuck reason place) s a = absurd a
profile_since profile e f (NotStrict breach place) s a = absurd a
profile_since profile e f (Source code line column) s a = absurd a
profile_since profile e f (Limit number count) s a = (a.0, a.1, same_since e f s a.2, told_since e f (λ held. RefusesProfile held profile (Limit number count)) s a.3)
profile_since profile e f (Machine code field) s a = absurd a
profile_since profile e f (NoFile role) s a =
    let P : Files → Type 0 = λ held. RefusesProfile held profile (NoFile role) in
    (a.0, same_since e f s a.1, subst (λ b. MatchOption b (ReadsRose f) P) (sym s.before) (missing_since e f P e.before s a.2))
profile_since profile e f (ReadFault role) s a = (a.0, same_since e f s a.1, reads_since e f s a.2)
profile_since profile e f WriteFault s a = absurd a
profile_since profile e f NoMemory s a = same_since e f s a

pub input_since : (input : Option (List ℕ)) (e f : Effect) (status : Status) → Since e f → InputAnswers input e status → InputAnswers input f status
input_since input e f Done s a = absurd a
input_since input e f (Trapped trap) s a = absurd a
input_since input e f Usage s a = absurd a
input_since input e f (Source code line column) s a = absurd a
input_since input e f (Limit number count) s a = (a.0, a.1, same_since e f s a.2, told_since e f (λ held. input_found held input ≡ Err (Limit 12 16777217)) s a.3)
input_since input e f (Words code line) s a = absurd a
input_since input e f (Profile code line) s a = absurd a
input_since input e f (Machine code field) s a = absurd a
input_since input e f (NoFile role) s a =
    let P : Files → Type 0 = λ held. input_found held input ≡ Err (NoFile TheInput) in
    (a.0, same_since e f s a.1, subst (λ b. MatchOption b (ReadsRose f) P) (sym s.before) (missing_since e f P e.before s a.2))
input_since input e f (ReadFault role) s a = (a.0, same_since e f s a.1, reads_since e f s a.2)
input_since input e f WriteFault s a = absurd a
input_since input e f Stopped s a = absurd a
input_since input e f (Input place) s a = (same_since e f s a.0, said_since e f (λ held. input_found held input ≡ Err (Input place)) (λ content. input_in (Some content) ≡ Err (Input place)) s a.1)
input_since input e f (Stuck reason place) s a = absurd a
input_since input e f (NotStrict breach place) s a = absurd a
input_since input e f NoMemory s a = same_since e f s a

pub accepts_in : (source : List ℕ) (program : Program) (b : Option Files) → IfSome b (λ held. HoldsProgram held source program) → IfSome b (λ held. Accepts held source)
accepts_in source program None h = tt
accepts_in source program (Some held) h = record { program = program; is = h }

-- a file that was replaced

pub write_since : (name text : List ℕ) (e f : Effect) (status : Status) → Since e f → WriteAnswers name text e status → WriteAnswers name text f status
write_since name text e f Done s is = s.after ∙ is ∙ ap (λ b. with_file b name text) (sym s.before)
write_since name text e f Usage s is = absurd is
write_since name text e f (Trapped trap) s is = absurd is
write_since name text e f (Words code line) s is = absurd is
write_since name text e f Stopped s is = absurd is
write_since name text e f (Input place) s is = absurd is
write_since name text e f (Stuck reason place) s is = absurd is
write_since name text e f (NotStrict breach place) s is = absurd is
write_since name text e f (Source code line column) s is = absurd is
write_since name text e f (Limit number count) s is = absurd is
write_since name text e f (Profile code line) s is = absurd is
write_since name text e f (Machine code field) s is = absurd is
write_since name text e f (NoFile role) s is = absurd is
write_since name text e f (ReadFault role) s is = absurd is
write_since name text e f WriteFault s is =
    (replaces_since e f s is.0, subst (λ b. ReplacesPartly b f.after name text) (sym s.before) (subst (λ a. ReplacesPartly e.before a name text) (sym s.after) is.1))
write_since name text e f NoMemory s is = same_since e f s is
