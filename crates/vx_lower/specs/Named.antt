-- What the code of a function may name is there and of its kind: scalars, arrays, functions with what they take.
use Rattle.std.specs.Prelude.{◌≡◌, ℕ, ◌<◌, true, List, length, Option, Some, None, slice_get}
use Rattle.vx_ast.specs.declared.tree.Takes.{Takes}
use Rattle.vx_ast.specs.Accepted.{takes_of_row, has_numbers}
use Rattle.vx_ast.specs.Tree.{Shape, One, Tree, Literal, Local, Global, Element, Unary, Binary, Both, Either, Choice, Apply, ReadInt, MoreInput, NoMore, Then, Hand, Place, InLocal, InGlobal, InElement, Action, Evaluate, Assign, Compound, Increase, Decrease, Code, Nothing, Seq, Empty, Block, Clear, Declare, ClearArray, Simply, Head, Print, If, IfElse, While, DoWhile, For, Break, Continue, Return, ReturnValue}
use Rattle.vx_lower.specs.declared.seen.Seen.TheVariants.{GlobalArray, OwnArray}
use Rattle.vx_lower.specs.Seen.{Sees}
use Rattle.vx_lower.specs.Does.{Change, By, Up, Down}

-- what is known beside what a function sees: what the parameters of each function take
pub record Known (words : Sees) : Type 0 where
  pub parameters : List (List Takes)

-- function f is there, and takes this
abbrev pub TakesArguments : {words : Sees} → Known words → (f : ℕ) → List Takes → Type 0
TakesArguments k f takes = slice_get k.parameters f ≡ Some takes

-- array a is there
abbrev pub IsThere : {words : Sees} → Known words → ℕ → Type 0
IsThere {words} k a = a < length words.arrays

-- array a is a global, or one of the function's own
abbrev pub IsGlobal : {words : Sees} → Known words → ℕ → Type 0
IsGlobal {words} k a = (n : ℕ) × (slice_get words.arrays a ≡ Some (GlobalArray n))

abbrev pub IsOwn : {words : Sees} → Known words → ℕ → Type 0
IsOwn {words} k a = (n : ℕ) × (slice_get words.arrays a ≡ Some (OwnArray n))

abbrev pub IsScalar : {words : Sees} → Known words → ℕ → Type 0
IsScalar {words} k x = x < words.scalars

abbrev pub IsNamed : {words : Sees} {shape : Shape} → Known words → Tree shape → Type 0
IsNamed k (Literal z) = Unit {0}
IsNamed k (Local x) = IsScalar k x
IsNamed k (Global a) = IsGlobal k a
IsNamed k (Element a i) = IsThere k a × IsNamed k i
IsNamed k (Unary operator a) = IsNamed k a
IsNamed k (Binary operator a b) = IsNamed k a × IsNamed k b
IsNamed k (Both a b) = IsNamed k a × IsNamed k b
IsNamed k (Either a b) = IsNamed k a × IsNamed k b
IsNamed k (Choice c a b) = IsNamed k c × IsNamed k a × IsNamed k b
IsNamed k (Apply f row) = TakesArguments k f (takes_of_row row) × IsNamed k row
IsNamed k ReadInt = Unit {0}
IsNamed k MoreInput = Unit {0}
IsNamed k NoMore = Unit {0}
IsNamed k (Then a rest) = IsNamed k a × IsNamed k rest
IsNamed k (Hand a rest) = IsThere k a × IsNamed k rest

abbrev pub PlaceNamed : {words : Sees} → Known words → Place → Type 0
PlaceNamed k (InLocal x) = IsScalar k x
PlaceNamed k (InGlobal a) = IsGlobal k a
PlaceNamed k (InElement a i) = IsThere k a × IsNamed k i

abbrev pub ChangeNamed : {words : Sees} → Known words → Change → Type 0
ChangeNamed k (By operator e) = IsNamed k e
ChangeNamed k Up = Unit {0}
ChangeNamed k Down = Unit {0}

abbrev pub ActionNamed : {words : Sees} → Known words → Action → Type 0
ActionNamed k (Evaluate e) = IsNamed k e
ActionNamed k (Assign t e) = PlaceNamed k t × IsNamed k e
ActionNamed k (Compound t operator e) = PlaceNamed k t × IsNamed k e
ActionNamed k (Increase t) = PlaceNamed k t
ActionNamed k (Decrease t) = PlaceNamed k t

abbrev pub TestNamed : {words : Sees} → Known words → Option (Tree One) → Type 0
TestNamed k None = Unit {0}
TestNamed k (Some e) = IsNamed k e

abbrev pub CodeNamed : {words : Sees} → Known words → Code → Type 0
CodeNamed k Nothing = Unit {0}
CodeNamed k (Seq a b) = CodeNamed k a × CodeNamed k b
CodeNamed k Empty = Unit {0}
CodeNamed k (Block a) = CodeNamed k a
CodeNamed k (Clear x) = IsScalar k x
CodeNamed k (Declare x e) = IsScalar k x × IsNamed k e
CodeNamed k (ClearArray a) = IsOwn k a
CodeNamed k (Simply a) = ActionNamed k a
CodeNamed k (Head a) = ActionNamed k a
CodeNamed k (Print format row) = (has_numbers row ≡ true) × IsNamed k row
CodeNamed k (If e a) = IsNamed k e × CodeNamed k a
CodeNamed k (IfElse e a b) = IsNamed k e × CodeNamed k a × CodeNamed k b
CodeNamed k (While e a) = IsNamed k e × CodeNamed k a
CodeNamed k (DoWhile a e) = CodeNamed k a × IsNamed k e
CodeNamed k (For first test step a) = CodeNamed k first × TestNamed k test × CodeNamed k step × CodeNamed k a
CodeNamed k Break = Unit {0}
CodeNamed k Continue = Unit {0}
CodeNamed k Return = Unit {0}
CodeNamed k (ReturnValue e) = IsNamed k e
