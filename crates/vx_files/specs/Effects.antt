-- What a call was given and left of the files, and what each status says that comes from the reading of one.
use Rattle.std.specs.Prelude.{◌≡◌, ℕ, List, Option, Some, None, IfSome, MatchOption, Err}
use Rattle.vx_io.specs.Outside.{Files, Rose}
use Rattle.vx_machine.specs.declared.description.MachineFault.TheVariants.{Bad}
use Rattle.vx_io.specs.declared.role.Role.TheVariants.{Source as TheSource, Profile as TheProfile, Machine as TheMachine, Input as TheInput}
use Rattle.vx_status.specs.declared.status.Status.{Status}
use Rattle.vx_status.specs.declared.status.Status.TheVariants.{Source, Limit, Profile, Machine, NoFile, ReadFault, Input, NoMemory}
use Rattle.vx_files.specs.Held.{machine_found, RefusesProfile, input_in, input_found, RefusesSource, Refuses, BadProfile, Refused, TooLong, Missing, found_in}

-- what a call was given and left: the files that the depot tells, and its counts of failed reads and replacings
pub record Effect : Type 0 where
  pub before : Option Files
  pub after : Option Files
  pub reads_before : ℕ
  pub reads_after : ℕ
  pub replaces_before : ℕ
  pub replaces_after : ℕ

abbrev pub effect_of : {D : Type 0} → (files : D → Option Files) → (failed_reads failed_replaces : D → ℕ) → (before after : D) → Effect
effect_of files failed_reads failed_replaces before after = record {
  before = files before;
  after = files after;
  reads_before = failed_reads before;
  reads_after = failed_reads after;
  replaces_before = failed_replaces before;
  replaces_after = failed_replaces after;
}

abbrev pub ReadsRose : Effect → Type 0
ReadsRose e = Rose e.reads_before e.reads_after

abbrev pub ReplacesRose : Effect → Type 0
ReplacesRose e = Rose e.replaces_before e.replaces_after

-- no file has changed
abbrev pub SameFiles : Effect → Type 0
SameFiles e = e.after ≡ e.before

-- what the refusal of a file says: of the files that the depot tells; where it tells none, of some bytes
abbrev pub OfFile : (before : Option Files) → (says : Files → Type 0) → (says_of_bytes : List ℕ → Type 0) → Type 0
OfFile before says says_of_bytes = MatchOption before ((content : List ℕ) × says_of_bytes content) says

-- each status says what it says, of the files that the depot tells; where it tells none, a fault is one of some bytes, and of a
-- file that is missing or cannot be read only the counts speak

-- of a status that comes from the source
abbrev pub SourceAnswers : (source : List ℕ) → Effect → Status → Type 0
SourceAnswers source e (Source code line column) =
    SameFiles e × OfFile e.before (λ held. Refuses held source (Source code line column)) (λ content. RefusesSource content (Source code line column))
SourceAnswers source e (Limit number count) =
    SameFiles e × OfFile e.before (λ held. Refuses held source (Limit number count)) (λ content. RefusesSource content (Limit number count))
SourceAnswers source e (NoFile role) = (role ≡ TheSource) × SameFiles e × MatchOption e.before (ReadsRose e) (λ held. held source ≡ None)
SourceAnswers source e (ReadFault role) = (role ≡ TheSource) × SameFiles e × ReadsRose e
SourceAnswers source e NoMemory = SameFiles e
SourceAnswers source e status = ⊥

-- of a status that comes from the profile of the command
abbrev pub ProfileAnswers : (profile : Option (List ℕ)) → Effect → Status → Type 0
ProfileAnswers profile e (Limit number count) = (number ≡ 10) × (count ≡ 16777217) × SameFiles e × IfSome e.before (λ held. RefusesProfile held profile (Limit number count))
ProfileAnswers profile e (Profile code line) =
    SameFiles e × OfFile e.before (λ held. RefusesProfile held profile (Profile code line)) (λ content. BadProfile content (Profile code line))
ProfileAnswers profile e (NoFile role) = (role ≡ TheProfile) × SameFiles e × MatchOption e.before (ReadsRose e) (λ held. RefusesProfile held profile (NoFile role))
ProfileAnswers profile e (ReadFault role) = (role ≡ TheProfile) × SameFiles e × ReadsRose e
ProfileAnswers profile e NoMemory = SameFiles e
ProfileAnswers profile e status = ⊥

-- of a status that comes from the machine of the command
abbrev pub MachineAnswers : (machine : Option (List ℕ)) → Effect → Status → Type 0
MachineAnswers machine e (Limit number count) = (number ≡ 11) × (count ≡ 65537) × SameFiles e × IfSome e.before (λ held. machine_found held machine ≡ TooLong)
MachineAnswers machine e (Machine code field) =
    SameFiles e × OfFile e.before (λ held. machine_found held machine ≡ Refused (Bad code field)) (λ content. found_in (Some content) ≡ Refused (Bad code field))
MachineAnswers machine e (NoFile role) = (role ≡ TheMachine) × SameFiles e × MatchOption e.before (ReadsRose e) (λ held. machine_found held machine ≡ Missing)
MachineAnswers machine e (ReadFault role) = (role ≡ TheMachine) × SameFiles e × ReadsRose e
MachineAnswers machine e NoMemory = SameFiles e
MachineAnswers machine e status = ⊥

-- of a status that comes from the input of the command
abbrev pub InputAnswers : (input : Option (List ℕ)) → Effect → Status → Type 0
InputAnswers input e (Limit number count) = (number ≡ 12) × (count ≡ 16777217) × SameFiles e × IfSome e.before (λ held. input_found held input ≡ Err (Limit 12 16777217))
InputAnswers input e (NoFile role) = (role ≡ TheInput) × SameFiles e × MatchOption e.before (ReadsRose e) (λ held. input_found held input ≡ Err (NoFile TheInput))
InputAnswers input e (ReadFault role) = (role ≡ TheInput) × SameFiles e × ReadsRose e
InputAnswers input e (Input place) = SameFiles e × OfFile e.before (λ held. input_found held input ≡ Err (Input place)) (λ content. input_in (Some content) ≡ Err (Input place))
InputAnswers input e NoMemory = SameFiles e
InputAnswers input e status = ⊥
