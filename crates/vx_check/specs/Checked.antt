-- What the check of a program of words for a machine answers: that it is strict on every static path, or the lowest place where it
-- is not.
use Rattle.std.specs.Prelude.{◌≡◌, ◌<◌, ℕ, false}
use Rattle.vx_base.specs.Paths.{After, Reached}
use Rattle.vx_isa.specs.declared.operation.Register.{Register}
use Rattle.vx_isa.specs.declared.program.Word.{Word}
use Rattle.vx_isa.specs.declared.program.WordProgram.{WordProgram}
use Rattle.vx_isa.specs.Numbers.{Numbers}
use Rattle.vx_isa.specs.Fits.{fits}
use Rattle.vx_isa.specs.Machine.{issuing_machine}
use Rattle.vx_isa.specs.Paths.{Leads, PathStrict, ReadsAt, WordAt, WritesAt, cycles_at}
use Rattle.vx_isa.specs.Strict.{Strict}
use Rattle.vx_check.specs.declared.verdict.Verdict.{Verdict}
use Rattle.vx_check.specs.declared.verdict.Verdict.TheVariants.{Yes, Unfit, Pending}

-- the word at a place does not fit the machine, which has one branch a word where the program is of version 1
abbrev pub IsUnfit : Numbers → WordProgram → ℕ → Type 0
IsUnfit m w p = (word : Word) × WordAt w p word × (fits (issuing_machine w m) word.ops ≡ false)

-- on a path from the start the word at a place reads a register, other than a register 0, that an earlier word of the path wrote
-- with a latency of more cycles than have passed since
pub record IsEarly (m : Numbers) (w : WordProgram) (q : ℕ) : Type 0 where
  pub writer : ℕ
  pub register : Register
  pub latency : ℕ
  pub since : ℕ
  pub reached : Reached (Leads w) 0 writer
  pub writes : WritesAt m w writer register latency
  pub path : After (Leads w) (cycles_at w) writer since q
  pub reads : ReadsAt w q register
  pub early : since < latency

-- a place of which something holds, and of none below it
pub record IsLowest (Holds : ℕ → Type 0) (p : ℕ) : Type 0 where
  pub here : Holds p
  pub first : (q : ℕ) → q < p → Holds q → ⊥

-- every word fits the machine, by the version of the program
abbrev pub AllFit : Numbers → WordProgram → Type 0
AllFit m w = (p : ℕ) → IsUnfit m w p → ⊥

-- what each answer says of the program
abbrev pub Checks : Numbers → WordProgram → Verdict → Type 0
Checks m w Yes = PathStrict m w
Checks m w (Unfit p) = IsLowest (IsUnfit m w) p
Checks m w (Pending p) = AllFit m w × IsLowest (IsEarly m w) p

-- the laws of the check, each the clause of a public function of this crate

-- a program has one verdict at most
abbrev pub OneVerdict : Type 0
OneVerdict = (m : Numbers) (w : WordProgram) (verdict other : Verdict) → Checks m w verdict → Checks m w other → verdict ≡ other

-- what passes is strict on every run
abbrev pub PassedIsStrict : Type 0
PassedIsStrict = (m : Numbers) (w : WordProgram) → Checks m w Yes → Strict m w
