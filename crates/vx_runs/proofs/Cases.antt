-- The statuses that the reading of a source or of an input can have.
use Rattle.std.proofs.Common.{◌≡◌, ℕ, List, Option}
use Rattle.vx_io.specs.declared.role.Role.TheVariants.{Source as TheSource, Words as TheWords, Profile as TheProfile, Machine as TheMachine, Input as TheInput}
use Rattle.vx_status.specs.declared.status.Status.{Status}
use Rattle.vx_status.specs.declared.status.Status.TheVariants.{Done, Trapped, Usage, Source, Limit, Words, Profile, Machine, NoFile, ReadFault, WriteFault, Stopped, Input, Stuck, NoMemory, NotStrict}
use Rattle.vx_files.specs.Effects.{Effect, SourceAnswers, InputAnswers}

-- what holds for each status that a source can have holds for the one that it has
module _ (source : List ℕ) (e : Effect) (P : Status → Type 0)
    (fault : (code line column : ℕ) → SourceAnswers source e (Source code line column) → P (Source code line column))
    (limit : (number count : ℕ) → SourceAnswers source e (Limit number count) → P (Limit number count))
    (missing : SourceAnswers source e (NoFile TheSource) → P (NoFile TheSource))
    (unread : SourceAnswers source e (ReadFault TheSource) → P (ReadFault TheSource))
    (memory : P NoMemory) where
  pub source_cases : (status : Status) → SourceAnswers source e status → P status
  source_cases Done a = absurd a
  source_cases (Trapped trap) a = absurd a
  source_cases Usage a = absurd a
  source_cases (Source code line column) a = fault code line column a
  source_cases (Limit number count) a = limit number count a
  source_cases (Words code line) a = absurd a
  source_cases (Profile code line) a = absurd a
  source_cases (Machine code field) a = absurd a
  source_cases (NoFile TheSource) a = missing a
  source_cases (NoFile TheWords) a = let is = a.0 in absurd cc
  source_cases (NoFile TheProfile) a = let is = a.0 in absurd cc
  source_cases (NoFile TheMachine) a = let is = a.0 in absurd cc
  source_cases (NoFile TheInput) a = let is = a.0 in absurd cc
  source_cases (ReadFault TheSource) a = unread a
  source_cases (ReadFault TheWords) a = let is = a.0 in absurd cc
  source_cases (ReadFault TheProfile) a = let is = a.0 in absurd cc
  source_cases (ReadFault TheMachine) a = let is = a.0 in absurd cc
  source_cases (ReadFault TheInput) a = let is = a.0 in absurd cc
  source_cases WriteFault a = absurd a
  source_cases Stopped a = absurd a
  source_cases (Input place) a = absurd a
  source_cases (Stuck reason place) a = absurd a
  source_cases (NotStrict breach place) a = absurd a
  source_cases NoMemory a = memory

-- and the same of an input, where more is known of the status
module _ (input : Option (List ℕ)) (e : Effect) (Q P : Status → Type 0) (answers : (status : Status) → Q status → InputAnswers input e status)
    (limit : (number count : ℕ) → Q (Limit number count) → P (Limit number count))
    (missing : Q (NoFile TheInput) → P (NoFile TheInput))
    (unread : Q (ReadFault TheInput) → P (ReadFault TheInput))
    (number : (place : ℕ) → Q (Input place) → P (Input place))
    (memory : P NoMemory) where
  of : (status : Status) → InputAnswers input e status → Q status → P status
  of Done a q = absurd a
  of (Trapped trap) a q = absurd a
  of Usage a q = absurd a
  of (Source code line column) a q = absurd a
  of (Limit count over) a q = limit count over q
  of (Words code line) a q = absurd a
  of (Profile code line) a q = absurd a
  of (Machine code field) a q = absurd a
  of (NoFile TheSource) a q = let is = a.0 in absurd cc
  of (NoFile TheWords) a q = let is = a.0 in absurd cc
  of (NoFile TheProfile) a q = let is = a.0 in absurd cc
  of (NoFile TheMachine) a q = let is = a.0 in absurd cc
  of (NoFile TheInput) a q = missing q
  of (ReadFault TheSource) a q = let is = a.0 in absurd cc
  of (ReadFault TheWords) a q = let is = a.0 in absurd cc
  of (ReadFault TheProfile) a q = let is = a.0 in absurd cc
  of (ReadFault TheMachine) a q = let is = a.0 in absurd cc
  of (ReadFault TheInput) a q = unread q
  of WriteFault a q = absurd a
  of Stopped a q = absurd a
  of (Input place) a q = number place q
  of (Stuck reason place) a q = absurd a
  of (NotStrict breach place) a q = absurd a
  of NoMemory a q = memory

  pub input_cases : (status : Status) → Q status → P status
  input_cases status q = of status (answers status q) q
