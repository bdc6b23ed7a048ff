-- Short words for the programs of the worked runs.
use Rattle.std.proofs.Common.{ℕ, pos, List, [], ◌∷◌, replicate, refl, ◌≡◌}
use Rattle.std.specs.Prelude.{codes}
use Rattle.vx_ast.specs.declared.tree.Gives.TheVariants.{Int, Nothing as NoValue}
use Rattle.vx_ast.specs.declared.tree.Takes.{Takes}
use Rattle.vx_ast.specs.declared.tree.Takes.TheVariants.{Number as ANumber}
use Rattle.vx_ast.specs.declared.tree.GlobalVariable.{GlobalVariable}
use Rattle.vx_ast.specs.Tree.{One, Row, Tree, Literal, NoMore, Then, InLocal, Assign, Code, Nothing, Seq, Simply, Print, ReturnValue, Function, Program}
use Rattle.vx_ast.specs.Accepted.{numbers_among}

line_feed : codes "\n" ≡ 10 ∷ []
line_feed = refl

abbrev pub number : ℕ → Tree One
number n = Literal (pos n)

-- a list of statements
abbrev pub list_of : List Code → Code
list_of [] = Nothing
list_of (a ∷ rest) = Seq a (list_of rest)

-- functions that take numbers
abbrev pub int_function : (parameters scalars : ℕ) → (arrays : List ℕ) → List Code → Function
int_function parameters scalars arrays body = record { name = codes "f"; gives = Int; parameters = parameters; takes = replicate parameters ANumber; scalars = scalars; arrays = arrays; body = list_of body }

abbrev pub void_function : (parameters scalars : ℕ) → (arrays : List ℕ) → List Code → Function
void_function parameters scalars arrays body = record { name = codes "v"; gives = NoValue; parameters = parameters; takes = replicate parameters ANumber; scalars = scalars; arrays = arrays; body = list_of body }

abbrev pub main_of : (scalars : ℕ) → (arrays : List ℕ) → List Code → Function
main_of scalars arrays body = record { name = codes "main"; gives = Int; parameters = 0; takes = []; scalars = scalars; arrays = arrays; body = list_of body }

-- a function that takes this
abbrev pub taking : List Takes → Function → Function
taking takes f = record f { parameters = numbers_among takes; takes = takes }

-- a program of one function, and of main and further functions behind it
abbrev pub only : List GlobalVariable → Function → Program
only globals main = record { globals = globals; functions = main ∷ []; main = 0 }

abbrev pub with_functions : List GlobalVariable → Function → List Function → Program
with_functions globals main others = record { globals = globals; functions = main ∷ others; main = 0 }

abbrev pub row : List (Tree One) → Tree Row
row [] = NoMore
row (e ∷ es) = Then e (row es)

-- printf("%d", e);
abbrev pub shows : Tree One → Code
shows e = Print (codes "%d") (row (e ∷ []))

-- printf("%d\n", e);
abbrev pub line : Tree One → Code
line e = Print (codes "%d\n") (row (e ∷ []))

-- printf("%d %d\n", a, b);
abbrev pub line_of_two : Tree One → Tree One → Code
line_of_two a b = Print (codes "%d %d\n") (row (a ∷ b ∷ []))

-- return n;
abbrev pub returns : ℕ → Code
returns n = ReturnValue (number n)

-- local x = e;
abbrev pub sets : ℕ → Tree One → Code
sets x e = Simply (Assign (InLocal x) e)
