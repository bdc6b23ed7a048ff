-- What the code of statements that was added to a graph that is being made says of each graph that finishes it.
use Rattle.std.specs.Prelude.{◌≡◌, ℕ, suc, ◌<◌, ◌≤◌, pos, Bool, true, false, Option, Some, None, List, [], ◌∷◌, ◌++◌, length, map, slice_get}
use Rattle.vx_base.specs.declared.arithmetic.Code.TheVariants.{Add}
use Rattle.vx_ast.specs.Tree.{One, Tree, Place, InLocal, InGlobal, InElement, Action, Evaluate, Assign, Compound, Increase, Decrease, Code, Nothing, Seq, Empty, Block as Braces, Clear, Declare, ClearArray, Simply, Head, Print, If, IfElse, While, DoWhile, For, Break, Continue, Return, ReturnValue}
use Rattle.vx_ast.specs.Meaning.{Piece, AByte, ANumber, pieces_of, directive_of}
use Rattle.vx_ast.specs.Accepted.{row_length}
use Rattle.vx_flow.specs.declared.graph.Operand.{Operand}
use Rattle.vx_flow.specs.declared.graph.Operand.TheVariants.{Held, Number}
use Rattle.vx_flow.specs.declared.graph.Op.TheVariants.{Compute, Place as Places, Store}
use Rattle.vx_flow.specs.declared.graph.Exit.{Exit}
use Rattle.vx_flow.specs.declared.graph.Exit.TheVariants.{Goto, Return as Returns}
use Rattle.vx_flow.specs.declared.graph.Block.{Block}
use Rattle.vx_lower.specs.Seen.{Sees}
use Rattle.vx_lower.specs.Holds.{IsBelow, Goes, Lands, then_op, ends}
use Rattle.vx_lower.specs.Does.{Change, By, Up, Down, Changes, Acts, Shows, Asks, Does}
use Rattle.vx_lower.specs.Builds.{Grows, Finishes, Opens, From}
use Rattle.vx_lower.specs.Emits.{IsWithin, Spare, way_of}
use Rattle.vx_lower.specs.declared.builder.Builder.{Builder}
use Rattle.vx_lower.specs.declared.prints.Format.{Format}

-- how many numbers there are among pieces
abbrev pub numbers_in : List Piece → ℕ
numbers_in [] = 0
numbers_in (AByte b ∷ pieces) = numbers_in pieces
numbers_in (ANumber ∷ pieces) = suc (numbers_in pieces)

-- each scalar that is named is below vars, and a print has an argument for each number

abbrev pub PlaceWithin : ℕ → Place → Type 0
PlaceWithin vars (InLocal x) = x < vars
PlaceWithin vars (InGlobal a) = Unit {0}
PlaceWithin vars (InElement a i) = IsWithin vars i

abbrev pub ChangeWithin : ℕ → Change → Type 0
ChangeWithin vars (By operator e) = IsWithin vars e
ChangeWithin vars Up = Unit {0}
ChangeWithin vars Down = Unit {0}

abbrev pub ActionWithin : ℕ → Action → Type 0
ActionWithin vars (Evaluate e) = IsWithin vars e
ActionWithin vars (Assign t e) = PlaceWithin vars t × IsWithin vars e
ActionWithin vars (Compound t operator e) = PlaceWithin vars t × IsWithin vars e
ActionWithin vars (Increase t) = PlaceWithin vars t
ActionWithin vars (Decrease t) = PlaceWithin vars t

abbrev pub TestWithin : ℕ → Option (Tree One) → Type 0
TestWithin vars None = Unit {0}
TestWithin vars (Some e) = IsWithin vars e

abbrev pub CodeWithin : Sees → ℕ → Code → Type 0
CodeWithin sees vars Nothing = Unit {0}
CodeWithin sees vars (Seq a b) = CodeWithin sees vars a × CodeWithin sees vars b
CodeWithin sees vars Empty = Unit {0}
CodeWithin sees vars (Braces a) = CodeWithin sees vars a
CodeWithin sees vars (Clear x) = x < sees.scalars
CodeWithin sees vars (Declare x e) = (x < sees.scalars) × IsWithin vars e
CodeWithin sees vars (ClearArray a) = a < length sees.arrays
CodeWithin sees vars (Simply a) = ActionWithin vars a
CodeWithin sees vars (Head a) = ActionWithin vars a
CodeWithin sees vars (Print format row) = (numbers_in (pieces_of format) ≤ row_length row) × IsWithin vars row
CodeWithin sees vars (If e a) = IsWithin vars e × CodeWithin sees vars a
CodeWithin sees vars (IfElse e a b) = IsWithin vars e × CodeWithin sees vars a × CodeWithin sees vars b
CodeWithin sees vars (While e a) = IsWithin vars e × CodeWithin sees vars a
CodeWithin sees vars (DoWhile a e) = CodeWithin sees vars a × IsWithin vars e
CodeWithin sees vars (For first test step a) = CodeWithin sees vars first × TestWithin vars test × CodeWithin sees vars step × CodeWithin sees vars a
CodeWithin sees vars Break = Unit {0}
CodeWithin sees vars Continue = Unit {0}
CodeWithin sees vars Return = Unit {0}
CodeWithin sees vars (ReturnValue e) = IsWithin vars e

-- simple statements

abbrev pub step_change : Bool → Change
step_change true = Up
step_change false = Down

-- the new value is made of the old one, and is in t
pub record Alters (words : Sees) (c : Change) (from : Operand) (dest : Option ℕ) (t : ℕ) (old new : Builder) : Type 0 where
  pub grows : Grows old new
  pub below : dest ≡ None → t < length new.banks
  pub lands : (q : Block) → Lands (length old.banks) (way_of dest (Held t) q) t q
  pub code : ChangeWithin (length old.banks) c → IsBelow (length old.banks) from → (B : List Block) (q : Block) → Finishes B new → Opens B new q → From B old (λ p. Changes B words (length old.banks) from c p t q)

pub record Acted (words : Sees) (a : Action) (old new : Builder) : Type 0 where
  pub grows : Grows old new
  pub code : (vars : ℕ) → ActionWithin vars a → vars ≤ length old.banks → (B : List Block) (q : Block) → Finishes B new → Opens B new q → From B old (λ p. Acts B words vars a p q)

-- statements

-- where a break or a continue leads; outside of every loop the function returns
abbrev pub way_exit : Option ℕ → Exit
way_exit None = Returns (Number (pos 0))
way_exit (Some block) = Goto block

-- the texts begin with these
pub record Begins (front whole : List (List ℕ)) : Type 0 where
  pub more : List (List ℕ)
  pub is : whole ≡ front ++ more

-- the code of what neither prints nor is left but at its end
pub record MakesPlain (words : Sees) (s : Code) (old new : Builder) : Type 0 where
  pub grows : Grows old new
  pub code : (vars : ℕ) → CodeWithin words vars s → vars ≤ length old.banks → (B : List Block) (texts : List (List ℕ)) (q out more : Block) → Finishes B new → Opens B new q → From B old (λ p. Does B words texts vars s p q out more)

-- the code of a statement; leaves and again tell where a break and a continue lead
pub record Makes (words : Sees) (s : Code) (leaves again : Option ℕ) (old new : Builder) (before after : List (List ℕ)) : Type 0 where
  pub grows : Grows old new
  pub texts : Begins before after
  pub code : (vars : ℕ) → CodeWithin words vars s → vars ≤ length old.banks → (B : List Block) (texts : List (List ℕ)) (q : Block) → Begins after texts → Finishes B new → Opens B new q → From B old (λ p. Does B words texts vars s p q (ends (way_exit leaves)) (ends (way_exit again)))

-- the test of a loop: the open block is where it holds, and n where it does not
pub record MakesTest (words : Sees) (test : Option (Tree One)) (n : ℕ) (old new : Builder) : Type 0 where
  pub grows : Grows old new
  pub spare : Spare new n
  pub late : length old.blocks ≤ n
  pub code : (vars : ℕ) → TestWithin vars test → vars ≤ length old.banks → (B : List Block) (one two : Block) → Finishes B new → Opens B new one → slice_get B n ≡ Some two → From B old (λ p. Asks B words vars test p one two)

-- the word of array a at the place in i is set to 0, and i is one more then
pub record WordCleared (B : List Block) (a i t : ℕ) (p q : Block) : Type 0 where
  pub store : Block
  pub step : Block
  pub places : Goes B (then_op (Places t a (Held i)) store) p
  pub stores : Goes B (then_op (Store a (Held t) (Number (pos 0))) step) store
  pub steps : Goes B (then_op (Compute Add i (Held i) (Number (pos 1))) q) step

pub record ClearsWord (a i : ℕ) (old new : Builder) : Type 0 where
  pub grows : Grows old new
  pub t : ℕ
  pub fresh : length old.banks ≤ t
  pub code : (B : List Block) (q : Block) → Finishes B new → Opens B new q → From B old (λ p. WordCleared B a i t p q)

-- formats

abbrev pub bytes_of : List ℕ → List Piece
bytes_of text = map AByte text

-- what bytes come to, behind the first byte of a directive or not
abbrev pub left_of : Bool → List ℕ → List Piece
left_of true bs = directive_of bs
left_of false bs = pieces_of bs

-- what is still to be shown before these bytes and of them
abbrev pub to_show : Format → List ℕ → List Piece
to_show format bs = bytes_of format.text ++ left_of format.directive bs

-- the code that was added shows the first pieces, up to where others are still to be shown
pub record Shifts (pieces : List Piece) (os : List Operand) (still : List Piece) (left : List Operand) (old new : Builder) (before after : List (List ℕ)) : Type 0 where
  pub grows : Grows old new
  pub texts : Begins before after
  pub enough : numbers_in pieces ≤ length os → numbers_in still ≤ length left
  pub code : numbers_in pieces ≤ length os → (B : List Block) (texts : List (List ℕ)) (m : Block) → Begins after texts → Finishes B new → Opens B new m → From B old (λ p. (q : Block) → Shows B texts still left m q → Shows B texts pieces os p q)

pub record Showed (pieces : List Piece) (os : List Operand) (old new : Builder) (before after : List (List ℕ)) : Type 0 where
  pub grows : Grows old new
  pub texts : Begins before after
  pub code : numbers_in pieces ≤ length os → (B : List Block) (texts : List (List ℕ)) (q : Block) → Begins after texts → Finishes B new → Opens B new q → From B old (λ p. Shows B texts pieces os p q)
