-- What the code that was added to a graph that is being made says of each graph that finishes it.
use Rattle.std.specs.Prelude.{◌≡◌, ℕ, ◌<◌, ◌≤◌, pos, Option, Some, None, List, [], ◌∷◌, ◌++◌, length, slice_get}
use Rattle.vx_ast.specs.declared.tree.BinaryOperator.{BinaryOperator}
use Rattle.vx_ast.specs.Accepted.{row_length}
use Rattle.vx_ast.specs.Tree.{Shape, One, Row, Tree, Literal, Local, Global, Element, Unary, Binary, Both, Either, Choice, Apply, ReadInt, MoreInput, NoMore, Then, Hand}
use Rattle.vx_flow.specs.declared.graph.Bank.TheVariants.{General}
use Rattle.vx_base.specs.declared.arithmetic.Code.TheVariants.{Mov, ToBranch}
use Rattle.vx_base.specs.declared.arithmetic.Compare.{Compare}
use Rattle.vx_base.specs.declared.arithmetic.Compare.TheVariants.{Ne}
use Rattle.vx_flow.specs.declared.graph.Operand.{Operand}
use Rattle.vx_flow.specs.declared.graph.Operand.TheVariants.{Held, Number}
use Rattle.vx_flow.specs.declared.graph.Op.{Op}
use Rattle.vx_flow.specs.declared.graph.Op.TheVariants.{Compute, Base}
use Rattle.vx_flow.specs.declared.graph.Block.{Block}
use Rattle.vx_lower.specs.Seen.{Sees, seen_at}
use Rattle.vx_lower.specs.Holds.{IsBelow, Goes, Tests, Checks, Combines, Bases, Way, To, Into, Tested, Lands, Holds, then_op}
use Rattle.vx_lower.specs.Builds.{Grows, Finishes, Opens, From, with_value}
use Rattle.vx_lower.specs.declared.builder.Builder.{Builder}

-- each scalar that the tree names is below n
abbrev pub IsWithin : {k : Shape} → ℕ → Tree k → Type 0
IsWithin n (Literal z) = Unit {0}
IsWithin n (Local x) = x < n
IsWithin n (Global a) = Unit {0}
IsWithin n (Element a i) = IsWithin n i
IsWithin n (Unary operator a) = IsWithin n a
IsWithin n (Binary operator a b) = IsWithin n a × IsWithin n b
IsWithin n (Both a b) = IsWithin n a × IsWithin n b
IsWithin n (Either a b) = IsWithin n a × IsWithin n b
IsWithin n (Choice c a b) = IsWithin n c × IsWithin n a × IsWithin n b
IsWithin n (Apply f row) = IsWithin n row
IsWithin n ReadInt = Unit {0}
IsWithin n MoreInput = Unit {0}
IsWithin n NoMore = Unit {0}
IsWithin n (Then a rest) = IsWithin n a × IsWithin n rest
IsWithin n (Hand a rest) = IsWithin n rest

-- where a result is wanted: in any operand, or in a value that is named
abbrev pub way_of : Option ℕ → Operand → Block → Way One
way_of None o q = To (o ∷ []) q
way_of (Some t) o q = Into t q

-- the value that a last operation writes
abbrev pub Aimed : Option ℕ → ℕ → Builder → Builder → Type 0
Aimed None t old new = (t ≡ length old.banks) × (new ≡ with_value old General)
Aimed (Some d) t old new = (t ≡ d) × (new ≡ old)

-- a last operation, which writes t
pub record Lasts (op : Op) (dest : Option ℕ) (t : ℕ) (old new : Builder) : Type 0 where
  pub grows : Grows old new
  pub below : dest ≡ None → t < length new.banks
  pub lands : (q : Block) → Lands (length old.banks) (way_of dest (Held t) q) t q
  pub step : (B : List Block) (q : Block) → Finishes B new → Opens B new q → From B old (λ p. Goes B (then_op op q) p)

-- an operand as it is, or moved to where it is wanted
abbrev pub IsMoved : List Block → Option ℕ → (o r : Operand) → (p q : Block) → Type 0
IsMoved B None o r p q = (r ≡ o) × (p ≡ q)
IsMoved B (Some t) o r p q = (r ≡ Held t) × Goes B (then_op (Compute Mov t o (Number (pos 0))) q) p

pub record Delivers (dest : Option ℕ) (o r : Operand) (old new : Builder) : Type 0 where
  pub grows : Grows old new
  pub kept : dest ≡ None → r ≡ o
  pub step : (B : List Block) (q : Block) → Finishes B new → Opens B new q → From B old (λ p. IsMoved B dest o r p q)

-- the check of an index, whose place is in t
pub record Checked (words : Sees) (a : ℕ) (o : Operand) (t : ℕ) (old new : Builder) : Type 0 where
  pub grows : Grows old new
  pub below : t < length new.banks
  pub step : IsBelow (length old.banks) o → (B : List Block) (q : Block) → Finishes B new → Opens B new q → From B old (λ p. Checks B words a (length old.banks) t o p q)

-- a base of array a was made, in v
pub record MakesBase (a : ℕ) (from : Operand) (v : ℕ) (old new : Builder) : Type 0 where
  pub grows : Grows old new
  pub fresh : length old.banks ≤ v
  pub below : v < length new.banks
  pub step : (B : List Block) (q : Block) → Finishes B new → Opens B new q → From B old (λ p. Goes B (then_op (Base v a from) q) p)

-- where array a stands is in v
pub record Stands (words : Sees) (a v : ℕ) (old new : Builder) : Type 0 where
  pub grows : Grows old new
  pub step : (B : List Block) (q : Block) → Finishes B new → Opens B new q → From B old (λ p. Bases B a (length old.banks) (length new.banks) (seen_at words a) v p q)

-- an operator done to two operands, whose result is in t
pub record Combined (operator : BinaryOperator) (a b : Operand) (dest : Option ℕ) (t : ℕ) (old new : Builder) : Type 0 where
  pub grows : Grows old new
  pub below : dest ≡ None → t < length new.banks
  pub lands : (q : Block) → Lands (length old.banks) (way_of dest (Held t) q) t q
  pub step : (B : List Block) (q : Block) → Finishes B new → Opens B new q → From B old (λ p. Combines B (length old.banks) operator a b p t q)

-- the code of an expression
pub record Emits (words : Sees) (e : Tree One) (dest : Option ℕ) (o : Operand) (old new : Builder) : Type 0 where
  pub grows : Grows old new
  pub below : dest ≡ None → IsWithin (length old.banks) e → IsBelow (length new.banks) o
  pub code : IsWithin (length old.banks) e → (B : List Block) (q : Block) → Finishes B new → Opens B new q → From B old (λ p. Holds B words One e p (way_of dest o q) (length old.banks))

-- a block that was reserved and is not open
pub record Spare (b : Builder) (n : ℕ) : Type 0 where
  pub free : slice_get b.blocks n ≡ Some None
  pub apart : n ≡ b.current → ⊥

-- the code of a test: the open block is where it holds, and n where it does not
pub record EmitsTest (words : Sees) (e : Tree One) (n : ℕ) (old new : Builder) : Type 0 where
  pub grows : Grows old new
  pub spare : Spare new n
  pub late : length old.blocks ≤ n
  -- the open block is a later one and has no operation yet
  pub moved : length old.blocks ≤ new.current
  pub empty : new.ops ≡ []
  pub code : IsWithin (length old.banks) e → (B : List Block) (one two : Block) → Finishes B new → Opens B new one → slice_get B n ≡ Some two → From B old (λ p. Holds B words One e p (Tested one two) (length old.banks))

-- the code of a row of arguments
pub record EmitsRow (words : Sees) (row : Tree Row) (os : List Operand) (old new : Builder) : Type 0 where
  pub grows : Grows old new
  pub many : row_length row ≤ length os
  pub code : IsWithin (length old.banks) row → (B : List Block) (q : Block) → Finishes B new → Opens B new q → From B old (λ p. Holds B words Row row p (To os q) (length old.banks))

-- a compare is tested: the open block is where it holds, and n where it does not
pub record Asked (compare : Compare) (a b : Operand) (n : ℕ) (old new : Builder) : Type 0 where
  pub c : ℕ
  pub above : length old.banks ≤ c
  pub grows : Grows old new
  pub spare : Spare new n
  pub late : length old.blocks ≤ n
  pub moved : length old.blocks ≤ new.current
  pub empty : new.ops ≡ []
  pub step : (B : List Block) (one two : Block) → Finishes B new → Opens B new one → slice_get B n ≡ Some two → From B old (λ p. Tests B (Compute (ToBranch compare) c a b) c p one two)

-- a number is tested: the open block is where it is not 0, and n where it is
abbrev pub Truth : Operand → ℕ → Builder → Builder → Type 0
Truth o n old new = Asked Ne o (Number (pos 0)) n old new

-- a row, and another one behind it
abbrev pub row_before : Tree Row → Tree Row → Tree Row
row_before NoMore rest = rest
row_before (Then a more) rest = Then a (row_before more rest)
row_before (Hand a more) rest = Hand a (row_before more rest)

-- the code of the front of a row, whatever row comes behind it
pub record EmitsFront (words : Sees) (front : Tree Row) (os : List Operand) (old new : Builder) : Type 0 where
  pub grows : Grows old new
  pub many : row_length front ≤ length os
  pub code : IsWithin (length old.banks) front → (B : List Block) (m : Block) → Finishes B new → Opens B new m → From B old (λ p. (rest : Tree Row) (ros : List Operand) (q : Block) → Holds B words Row rest m (To ros q) (length new.banks) → Holds B words Row (row_before front rest) p (To (os ++ ros) q) (length old.banks))

-- the code of more arguments, and what is passed with them
pub record EmitsBehind (words : Sees) (row : Tree Row) (before after : List Operand) (old new : Builder) : Type 0 where
  pub own : List Operand
  pub is : after ≡ before ++ own
  pub front : EmitsFront words row own old new
