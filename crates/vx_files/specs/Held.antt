-- What the files of a command hold: a source, the counts of a profile, a machine, the numbers of an input; and why they do not.
use Rattle.std.specs.Prelude.{◌≡◌, ◌≤◌, ◌<◌, ◌⊎◌, ℕ, List, [], length, nat_le, if◌then◌else◌, Option, Some, None, Result, Ok, Err, ℤ}
use Rattle.vx_io.specs.Outside.{Files}
use Rattle.vx_isa.specs.Numbers.{Numbers, vex}
use Rattle.vx_machine.specs.declared.description.MachineFault.{MachineFault}
use Rattle.vx_machine.specs.declared.description.MachineFault.TheVariants.{Bad}
use Rattle.vx_machine.specs.Descriptions.{reading}
use Rattle.vx_profile.specs.declared.counts.Counts.{Counts}
use Rattle.vx_profile.specs.declared.fault.ProfileFault.{ProfileFault}
use Rattle.vx_profile.specs.declared.fault.ProfileFault.TheVariants.{BadLine, CountTooLarge, NoMemory as NoRoomForCounts}
use Rattle.vx_profile.specs.Counts.{CountsOf}
use Rattle.vx_profile.specs.Text.{FaultAt, Spells as SpellsCounts}
use Rattle.vx_ast.specs.Tree.{Program}
use Rattle.vx_io.specs.declared.role.Role.{Role}
use Rattle.vx_io.specs.declared.role.Role.TheVariants.{Profile as TheProfile, Input as TheInput}
use Rattle.vx_ast.specs.Reads.{most_bytes, Reads, Refusal}
use Rattle.vx_ast.specs.declared.fault.SourceFault.{SourceFault}
use Rattle.vx_ast.specs.declared.fault.SourceFault.TheVariants.{Bad as BadSource, Limit as OverLimit, NoMemory as NoRoom}
use Rattle.vx_status.specs.declared.status.Status.{Status}
use Rattle.vx_status.specs.declared.status.Status.TheVariants.{Source, Limit, Profile, Machine, NoFile, Input, NoMemory}
use Rattle.vx_files.specs.InputText.{input_reading}

-- the most bytes of a description of a machine
abbrev pub most_description_bytes : ℕ
most_description_bytes = 65536

-- the file holds these bytes, which are few enough for a source
pub record HoldsSource (held : Files) (source content : List ℕ) : Type 0 where
  pub holds : held source ≡ Some content
  pub short : length content ≤ most_bytes

-- the source's file holds an accepted source, and the program is its reading
pub record HoldsProgram (held : Files) (source : List ℕ) (program : Program) : Type 0 where
  pub content : List ℕ
  pub holds : held source ≡ Some content
  pub reads : Reads content program

-- the source's file holds an accepted source
pub record Accepts (held : Files) (source : List ℕ) : Type 0 where
  pub program : Program
  pub is : HoldsProgram held source program

-- the status of a fault or limit of a source
abbrev pub status_of : SourceFault → Status
status_of (BadSource code line column) = Source code line column
status_of (OverLimit number count) = Limit number count
status_of NoRoom = NoMemory

-- why bytes give no words: the one fault or limit of the source
abbrev pub RefusesSource : (content : List ℕ) → Status → Type 0
RefusesSource content (Source code line column) = Refusal content (BadSource code line column)
RefusesSource content (Limit number count) = Refusal content (OverLimit number count)
RefusesSource content status = ⊥

-- the bytes of the source's file give no words, and the status says why
pub record Refuses (held : Files) (source : List ℕ) (status : Status) : Type 0 where
  pub content : List ℕ
  pub holds : held source ≡ Some content
  pub refused : RefusesSource content status

-- the most bytes of a profile
abbrev pub most_profile_bytes : ℕ
most_profile_bytes = 16777216

-- the file holds a profile, and these are its counts
pub record HoldsCounts (held : Files) (name : List ℕ) (counts : Counts) : Type 0 where
  pub content : List ℕ
  pub holds : held name ≡ Some content
  pub short : length content ≤ most_profile_bytes
  pub spells : SpellsCounts content counts

-- the counts that a command picks traces by: those of its profile; where none is named, nothing was passed
abbrev pub AreCounts : Files → (profile : Option (List ℕ)) → Counts → Type 0
AreCounts held None counts = CountsOf counts []
AreCounts held (Some name) counts = HoldsCounts held name counts

-- the profile of a command stands: its file holds one, or none is named
pub record ProfileStands (held : Files) (profile : Option (List ℕ)) : Type 0 where
  pub counts : Counts
  pub are : AreCounts held profile counts

-- the status of a fault of a profile
abbrev pub status_of_profile : ProfileFault → Status
status_of_profile (BadLine line) = Profile 1 line
status_of_profile (CountTooLarge line) = Profile 2 line
status_of_profile NoRoomForCounts = NoMemory

-- few enough bytes are no profile, and the status says which line is the first bad one
pub record BadProfile (content : List ℕ) (status : Status) : Type 0 where
  pub short : length content ≤ most_profile_bytes
  pub fault : ProfileFault
  pub first_bad : FaultAt content fault
  pub status_is : status ≡ status_of_profile fault

pub record LongProfile (content : List ℕ) (status : Status) : Type 0 where
  pub long : most_profile_bytes < length content
  pub status_is : status ≡ Limit 10 16777217

-- why a file gives no counts: it is missing, too long, or no profile
abbrev pub NoCountsIn : Option (List ℕ) → Status → Type 0
NoCountsIn None status = status ≡ NoFile TheProfile
NoCountsIn (Some content) status = LongProfile content status ⊎ BadProfile content status

-- the profile that is named gives no counts, and the status says why
abbrev pub RefusesProfile : Files → (profile : Option (List ℕ)) → Status → Type 0
RefusesProfile held None status = ⊥
RefusesProfile held (Some name) status = NoCountsIn (held name) status

-- what the machine of a command comes to: its numbers, the fault of its description, a description that is too
-- long, or none
pub data MachineFound : Type 0 where
  Is : (machine : Numbers) → MachineFound
  Refused : (why : MachineFault) → MachineFound
  TooLong : MachineFound
  Missing : MachineFound

abbrev pub found_by : Result Numbers MachineFault → MachineFound
found_by (Ok machine) = Is machine
found_by (Err why) = Refused why

abbrev pub found_in : Option (List ℕ) → MachineFound
found_in None = Missing
found_in (Some content) = if nat_le (length content) most_description_bytes then found_by (reading content) else TooLong

-- the machine that the named file describes; where none is named, the default machine
abbrev pub machine_found : Files → Option (List ℕ) → MachineFound
machine_found held None = Is (vex 1)
machine_found held (Some name) = found_in (held name)

-- why a description gives no machine
abbrev pub RefusesDescription : (content : List ℕ) → Status → Type 0
RefusesDescription content (Machine code field) = reading content ≡ Err (Bad code field)
RefusesDescription content NoMemory = Unit {0}
RefusesDescription content status = ⊥

-- the most bytes of an input
abbrev pub most_input_bytes : ℕ
most_input_bytes = 16777216

-- what a file gives: it is missing, too long, or read
abbrev pub file_in : {A : Type 0} → Role → (most : ℕ) → Status → (List ℕ → Result A Status) → Option (List ℕ) → Result A Status
file_in role most too_long read None = Err (NoFile role)
file_in role most too_long read (Some content) = if nat_le (length content) most then read content else Err too_long

abbrev pub input_as : Result (List ℤ) ℕ → Result (List ℤ) Status
input_as (Ok numbers) = Ok numbers
input_as (Err place) = Err (Input place)

abbrev pub input_in : Option (List ℕ) → Result (List ℤ) Status
input_in file = file_in TheInput most_input_bytes (Limit 12 16777217) (λ content. input_as (input_reading content)) file

-- the empty input where none is named
abbrev pub input_found : Files → Option (List ℕ) → Result (List ℤ) Status
input_found held None = Ok []
input_found held (Some name) = input_in (held name)

-- where no machine is named, the default one, whatever the depot tells
abbrev pub DefaultUnless : (machine : Option (List ℕ)) → Numbers → Type 0
DefaultUnless None m = m ≡ vex 1
DefaultUnless (Some name) m = Unit {0}

-- where no input is named, the empty one
abbrev pub EmptyUnless : (input : Option (List ℕ)) → List ℤ → Type 0
EmptyUnless None numbers = numbers ≡ []
EmptyUnless (Some name) numbers = Unit {0}
