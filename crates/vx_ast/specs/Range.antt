-- The numbers that a program holds, reads and gives are numbers of 32 bits.
use Rattle.std.specs.Prelude.{◌≡◌, ℕ, ℤ, true, List}
use Rattle.std.specs.List.{All}
use Rattle.vx_base.specs.Arithmetic.{IsNumber}
use Rattle.vx_base.specs.Outcome.{Outcome, Ends, Traps, Goes, Stuck, Wrong}
use Rattle.vx_ast.specs.Tree.{Shape, One, Row, Program}
use Rattle.vx_ast.specs.Meaning.{Store, Part, With, Trapped, Going, Leaves, Falls, Breaks, Continues, Returns, Result, numbers_given, source}
use Rattle.vx_ast.specs.Accepted.{is_accepted}

-- every scalar, every word of an array and every number of the input
pub record InRange (s : Store) : Type 0 where
  pub scalars : (x : ℕ) → IsNumber (s.scalars x)
  pub arrays : All (All IsNumber) s.arrays
  pub input : All IsNumber s.input

-- what a part ends with, and what it leaves
abbrev pub PartInRange : {A : Type 0} → (A → Type 0) → Part A → Type 0
PartInRange Good (With a s) = Good a × InRange s
PartInRange Good (Trapped k out) = Unit {0}
PartInRange Good (Going out) = Unit {0}

-- of an expression its value, of a row of arguments each number
abbrev pub ValueInRange : (k : Shape) → Result k → Type 0
ValueInRange One z = IsNumber z
ValueInRange Row args = All IsNumber (numbers_given args)

-- the value that a statement returns
abbrev pub LeavesInRange : Leaves → Type 0
LeavesInRange Falls = Unit {0}
LeavesInRange Breaks = Unit {0}
LeavesInRange Continues = Unit {0}
LeavesInRange (Returns r) = IsNumber r

-- the result of a program
abbrev pub ResultInRange : Outcome → Type 0
ResultInRange (Ends r out) = IsNumber r
ResultInRange (Traps k out) = Unit {0}
ResultInRange (Goes out) = Unit {0}
ResultInRange (Stuck why place out) = Unit {0}
ResultInRange (Wrong out) = Unit {0}

-- an accepted program gives a number of 32 bits, where its input has no others
abbrev pub SourceStaysInRange : Type 0
SourceStaysInRange = (p : Program) (input : List ℤ) (n : ℕ) → is_accepted p ≡ true → All IsNumber input → ResultInRange (source p input n)
