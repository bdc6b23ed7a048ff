-- The numbers of the statuses, and the line that each puts on the error stream.
use Rattle.std.specs.Prelude.{◌≡◌, ◌≤◌, ◌==◌, ◌++◌, ◌∷◌, [], ℕ, List, Option, Result, OnOk, OnErr, if◌then◌else◌, codes, decimal}
use Rattle.vx_base.specs.Outcome.{Begins}
use Rattle.vx_io.specs.Outside.{Rose, PutsFront, with_bytes}
use Rattle.vx_base.specs.declared.outcome.Reason.{Reason}
use Rattle.vx_base.specs.declared.outcome.Reason.TheVariants.{BadTarget, BadWord, Overfull, BadAddress, NoInputLeft}
use Rattle.vx_base.specs.declared.outcome.Trap.{Trap}
use Rattle.vx_base.specs.declared.outcome.Trap.TheVariants.{Divide, Index, Input as NoInput, Depth}
use Rattle.vx_machine.specs.Descriptions.{name_of}
use Rattle.vx_io.specs.declared.role.Role.{Role}
use Rattle.vx_io.specs.declared.role.Role.TheVariants.{Source as TheSource, Words as TheWords, Profile as TheProfile, Machine as TheMachine, Input as TheInput}
use Rattle.vx_status.specs.declared.status.Breach.{Breach}
use Rattle.vx_status.specs.declared.status.Breach.TheVariants.{Unfit, Pending}
use Rattle.vx_status.specs.declared.status.Status.{Status}
use Rattle.vx_status.specs.declared.status.Status.TheVariants.{Done, Trapped, Usage, Source, Limit, Words, Profile, Machine, NoFile, ReadFault, WriteFault, Stopped, Input, Stuck, NoMemory, NotStrict}

abbrev pub number_of : Status → ℕ
number_of Done = 0
number_of (Trapped trap) = 1
number_of Usage = 2
number_of (Source code line column) = 3
number_of (Limit number count) = 4
number_of (Words code line) = 5
number_of (Profile code line) = 6
number_of (Machine code field) = 7
number_of (NoFile role) = 8
number_of (ReadFault role) = 9
number_of WriteFault = 10
number_of Stopped = 11
number_of (Input place) = 12
number_of (Stuck reason place) = 13
number_of NoMemory = 14
number_of (NotStrict breach place) = 15

abbrev pub role_name : Role → List ℕ
role_name TheSource = codes "source"
role_name TheWords = codes "words"
role_name TheProfile = codes "profile"
role_name TheMachine = codes "machine"
role_name TheInput = codes "input"

abbrev pub reason_name : Reason → List ℕ
reason_name BadTarget = codes "bad target"
reason_name BadWord = codes "bad word"
reason_name Overfull = codes "overfull"
reason_name BadAddress = codes "bad address"
reason_name NoInputLeft = codes "no input left"

abbrev pub breach_name : Breach → List ℕ
breach_name Unfit = codes "unfit"
breach_name Pending = codes "pending"

-- some words, and a number in decimal behind them
abbrev pub counted : (words : List ℕ) → ℕ → List ℕ
counted words n = words ++ decimal n

-- the same twice, a line
abbrev pub twice_counted : (words : List ℕ) → ℕ → (more : List ℕ) → ℕ → List ℕ
twice_counted words n more k = counted words n ++ counted more k ++ 10 ∷ []

-- a blank and the name of a field of a description; nothing where there is no field
abbrev pub field_words : ℕ → List ℕ
field_words field = if field == 0 then [] else codes " " ++ name_of field

abbrev pub trap_line : Trap → List ℕ
trap_line Divide = codes "trap 1 divide\n"
trap_line Index = codes "trap 2 index\n"
trap_line NoInput = codes "trap 3 input\n"
trap_line Depth = codes "trap 4 depth\n"

-- the line of a status; a command that is done has none here
abbrev pub status_line : Status → List ℕ
status_line Done = []
status_line (Trapped trap) = trap_line trap
status_line Usage = codes "no command\n"
status_line (Source code line column) = counted (codes "source S") code ++ twice_counted (codes " at ") line (codes ":") column
status_line (Limit number count) = twice_counted (codes "limit L") number (codes " at ") count
status_line (Words code line) = twice_counted (codes "words V") code (codes " at line ") line
status_line (Profile code line) = twice_counted (codes "profile P") code (codes " at line ") line
status_line (Machine code field) = counted (codes "machine M") code ++ field_words field ++ 10 ∷ []
status_line (NoFile role) = codes "no file " ++ role_name role ++ 10 ∷ []
status_line (ReadFault role) = codes "read fault " ++ role_name role ++ 10 ∷ []
status_line WriteFault = codes "write fault\n"
status_line Stopped = codes "stopped\n"
status_line (Input place) = counted (codes "input at ") place ++ 10 ∷ []
status_line (Stuck reason place) = codes "stuck " ++ reason_name reason ++ counted (codes " at word ") place ++ 10 ∷ []
status_line NoMemory = codes "no memory\n"
status_line (NotStrict breach place) = breach_name breach ++ counted (codes " at word ") place ++ 10 ∷ []

-- the line of a name that no box has
abbrev pub no_box_line : (name : List ℕ) → List ℕ
no_box_line name = codes "no box " ++ name ++ 10 ∷ []

-- what a call that puts some bytes says by its result: all of them were put, or a front of them and a fault was counted
pub record Puts {T E : Type 0} (result : Result T E) (bytes : List ℕ) (before after : Option (List ℕ)) (faults faults' : ℕ) : Type 0 where
  pub all : OnOk result (after ≡ with_bytes before bytes)
  pub part : OnErr result (PutsFront before after bytes)
  pub failed : OnErr result (Rose faults faults')
  pub never_fall : faults ≤ faults'

-- a front of a line was put, and all of it where the count of faults did not rise, which has not fallen
pub record Tells (line : List ℕ) (before after : Option (List ℕ)) (faults faults' : ℕ) : Type 0 where
  pub part : PutsFront before after line
  pub whole : (Rose faults faults' → ⊥) → after ≡ with_bytes before line
  pub never_fall : faults ≤ faults'

-- a front of a line, a front of the one behind it, and all reports were put; and both lines whole where the count of faults did
-- not rise
pub record TellsWith (line next reports : List ℕ) (before after : Option (List ℕ)) (faults faults' : ℕ) : Type 0 where
  pub front : List ℕ
  pub begins : Begins front line
  pub back : List ℕ
  pub follows : Begins back next
  pub part : after ≡ with_bytes before (front ++ back ++ reports)
  pub whole : (Rose faults faults' → ⊥) → after ≡ with_bytes before (line ++ next ++ reports)

-- a sink tells some bytes more
pub record Appends (before after : Option (List ℕ)) : Type 0 where
  pub more : List ℕ
  pub is : after ≡ with_bytes before more

-- the same, and the count of its faults has not fallen
pub record Adds (before after : Option (List ℕ)) (faults faults' : ℕ) : Type 0 where
  pub more : List ℕ
  pub is : after ≡ with_bytes before more
  pub never_fall : faults ≤ faults'
