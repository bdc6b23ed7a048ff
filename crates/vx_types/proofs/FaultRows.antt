-- Faults of worked sources and what they resolve to, by computation. Each source stands in its comment, on one line.
use Rattle.std.proofs.Common.{◌≡◌, ℕ, pos, List, [], ◌∷◌, refl, Option, Some, None, codes, inl, inr, arith}
use Rattle.vx_ast.specs.declared.tree.Gives.{Gives}
use Rattle.vx_ast.specs.declared.tree.Gives.TheVariants.{Int, Nothing as NoValue}
use Rattle.vx_ast.specs.declared.tree.Takes.TheVariants.{Number as TakesNumber, Array as TakesArray}
use Rattle.vx_ast.specs.declared.tree.BinaryOperator.TheVariants.{Add}
use Rattle.vx_ast.specs.declared.tree.GlobalVariable.TheVariants.{Scalar as GlobalOf}
use Rattle.vx_ast.specs.declared.syntax.Place.{Place}
use Rattle.vx_ast.specs.declared.syntax.Name.{Name}
use Rattle.vx_ast.specs.declared.syntax.Parameter.{Parameter}
use Rattle.vx_ast.specs.declared.names.Fault.{Fault}
use Rattle.vx_ast.specs.Tree as tree
use Rattle.vx_ast.specs.Tree.{One, Row}
use Rattle.vx_ast.specs.Syntax.{Phrase, Number, Use, Element, Call, Binary, NoMore, Then, Target, Evaluate, Assign, Increase, Code, Nothing, Seq, Empty, Block, Scalar, ScalarWith, Array, Simply, Head, Print, While, For, Break, Return, ReturnValue, Definition, GlobalScalar, AFunction, Program}
use Rattle.vx_ast.specs.Scopes.{predeclared, look, declared}
use Rattle.vx_ast.specs.Faults.{first_fault}
use Rattle.vx_ast.specs.Resolved.{resolved}
use Rattle.vx_types.specs.Laws.{Before}

-- short words

abbrev at : ℕ → Place
at column = record { line = 1; column = column }

abbrev fault : ℕ → ℕ → Fault
fault code column = record { code = code; place = at column }

abbrev name : List ℕ → ℕ → Name
name bytes column = record { bytes = bytes; place = at column }

abbrev a : ℕ → Name
a column = name (codes "a") column

abbrev b : ℕ → Name
b column = name (codes "b") column

abbrev list_of : List Code → Code
list_of [] = Nothing
list_of (s ∷ ss) = Seq s (list_of ss)

abbrev number : ℕ → Phrase One
number n = Number (pos n)

-- a target or an argument, whose first token stands in this column
abbrev target : ℕ → Phrase One → Target
target column e = record { place = at column; phrase = e }

abbrev row : List Target → Phrase Row
row [] = NoMore
row (e ∷ es) = Then e.place e.phrase (row es)

abbrev scalar : Name → Parameter
scalar x = record { name = x; takes = TakesNumber }

abbrev array : Name → Parameter
array x = record { name = x; takes = TakesArray }

abbrev function : Gives → List ℕ → ℕ → List Parameter → List Code → Definition
function gives bytes column parameters body = AFunction (record { gives = gives; name = name bytes column; parameters = parameters; body = list_of body })

-- int main(void) { .. } of which the body begins at column 18, and other definitions before it
abbrev main : List Code → Definition
main body = function Int (codes "main") 5 [] body

abbrev only : List Code → Program
only body = record { definitions = main body ∷ []; end = at 99 }

abbrev with : List Definition → List Code → Program
with ds body = record { definitions = main body ∷ ds; end = at 99 }

abbrev first : Program → Option Fault
unfolding predeclared look declared
first p = first_fault p

-- int main(void) { return 0; }
fine : first (only (ReturnValue (at 18) (number 0) ∷ [])) ≡ None
unfolding first
fine = refl

-- { return a; }: an unknown name
unknown : first (only (ReturnValue (at 18) (Use (a 25)) ∷ [])) ≡ Some (fault 5 25)
unfolding first
unknown = refl

-- { int a = a; }: known from the end of its own item on; with a global a above none is unknown
own_item : (first (only (ScalarWith (a 22) (Use (a 26)) ∷ [])) ≡ Some (fault 5 26)) × (first (record { definitions = GlobalScalar (a 5) (pos 0) ∷ main (ScalarWith (a 22) (Use (a 26)) ∷ []) ∷ []; end = at 99 }) ≡ None)
unfolding first
own_item = (refl, refl)

-- { int a, b = a; }
item_before : first (only (list_of (Scalar (a 22) ∷ ScalarWith (b 25) (Use (a 29)) ∷ []) ∷ [])) ≡ None
unfolding first
item_before = refl

-- { a = 1; int a; }: above its declaration it is unknown, and as a target S5 comes before S12
above : first (only (Simply (Assign (target 18 (Use (a 18))) (number 1)) ∷ Scalar (a 29) ∷ [])) ≡ Some (fault 5 18)
unfolding first
above = refl

-- { (a) = 1; }: the parenthesis stands before the unknown name
parenthesis : first (only (Simply (Assign (target 18 (Use (a 19))) (number 1)) ∷ [])) ≡ Some (fault 12 18)
unfolding first
parenthesis = refl

-- { int a; int a; } and { int a; { int a; } }
twice : (first (only (Scalar (a 22) ∷ Scalar (a 29) ∷ [])) ≡ Some (fault 6 29)) × (first (only (Scalar (a 22) ∷ Block (list_of (Scalar (a 31) ∷ [])) ∷ [])) ≡ None)
unfolding first
twice = (refl, refl)

-- { int printf; } and int read_int(void) { .. }
predeclared_names : (first (only (Scalar (name (codes "printf") 22) ∷ [])) ≡ Some (fault 6 22)) × (first (with (function Int (codes "read_int") 40 [] [] ∷ []) (ReturnValue (at 18) (Call (name (codes "read_int") 25) (row [])) ∷ [])) ≡ Some (fault 6 40))
unfolding first
predeclared_names = (refl, refl)

-- { return b(); } int b(void) { .. }: a function is known above its definition; { return b; } int b; : a global is not
known_above : (first (with (function Int (codes "b") 40 [] [] ∷ []) (ReturnValue (at 18) (Call (b 25) (row [])) ∷ [])) ≡ None) × (first (with (GlobalScalar (b 40) (pos 0) ∷ []) (ReturnValue (at 18) (Use (b 25)) ∷ [])) ≡ Some (fault 5 25))
unfolding first
known_above = (refl, refl)

-- { b(); } void b(void) { .. } and { return b(); }: a void call is the whole of a statement and no number
void_calls : (first (with (function NoValue (codes "b") 40 [] [] ∷ []) (Simply (Evaluate (Call (b 18) (row []))) ∷ [])) ≡ None) × (first (with (function NoValue (codes "b") 40 [] [] ∷ []) (ReturnValue (at 18) (Call (b 25) (row [])) ∷ [])) ≡ Some (fault 7 25))
unfolding first
void_calls = (refl, refl)

-- { int a[2]; a = 1; } is S12, { int a[2]; return a; } and { int a; return a[0]; } are S7, { return printf(1); } too
kinds : (first (only (Array (a 22) (record { words = 2; place = at 24 }) ∷ Simply (Assign (target 28 (Use (a 28))) (number 1)) ∷ [])) ≡ Some (fault 12 28)) × (first (only (Array (a 22) (record { words = 2; place = at 24 }) ∷ ReturnValue (at 28) (Use (a 35)) ∷ [])) ≡ Some (fault 7 35)) × (first (only (Scalar (a 22) ∷ ReturnValue (at 25) (Element (a 32) (number 0)) ∷ [])) ≡ Some (fault 7 32)) × (first (only (ReturnValue (at 18) (Call (name (codes "printf") 25) (row (target 32 (number 1) ∷ []))) ∷ [])) ≡ Some (fault 7 25))
unfolding first
kinds = (refl, refl, refl, refl)

-- { return b(1); } int b(void) { .. }, and { printf("%d%x"); }: the number of `%d` comes before the bad `%`
counts : (first (with (function Int (codes "b") 40 [] [] ∷ []) (ReturnValue (at 18) (Call (b 25) (row (target 27 (number 1) ∷ []))) ∷ [])) ≡ Some (fault 8 25)) × (first (only (Print (at 18) (at 25) (codes "%d%x") (row []) ∷ [])) ≡ Some (fault 8 18)) × (first (only (Print (at 18) (at 25) (codes "%%%x") (row []) ∷ [])) ≡ Some (fault 9 25))
unfolding first
counts = (refl, refl, refl)

-- void main(void) { }, a file without functions, int main(int a) { .. }
no_main : (first (record { definitions = function NoValue (codes "main") 6 [] [] ∷ []; end = at 99 }) ≡ Some (fault 10 99)) × (first (record { definitions = []; end = at 1 }) ≡ Some (fault 10 1)) × (first (record { definitions = function Int (codes "main") 5 (scalar (a 14) ∷ []) [] ∷ []; end = at 99 }) ≡ Some (fault 10 99))
unfolding first
no_main = (refl, refl, refl)

-- { break; } and { while (1) { break; } }; { return; }; { int a[0]; }
others : (first (only (Break (at 18) ∷ [])) ≡ Some (fault 11 18)) × (first (only (While (number 1) (Block (list_of (Break (at 30) ∷ []))) ∷ [])) ≡ None) × (first (only (Return (at 18) ∷ [])) ≡ Some (fault 7 18)) × (first (only (Array (a 22) (record { words = 0; place = at 24 }) ∷ [])) ≡ Some (fault 13 24))
unfolding first
others = (refl, refl, refl, refl)

-- { for (int a = 0; a; a++) b = 1; } : b is unknown, and a is known in the `for` alone
in_for : first (only (For (list_of (ScalarWith (a 27) (number 0) ∷ [])) (Some (Use (a 34))) (Head (Increase (target 37 (Use (a 37))))) Empty ∷ ReturnValue (at 50) (Use (a 57)) ∷ [])) ≡ Some (fault 5 57)
unfolding first
in_for = refl

-- the line decides before the column, and the column before the code
least_place : first (only (ReturnValue (at 18) (Binary Add (Use (record { bytes = codes "a"; place = record { line = 2; column = 1 } })) (Use (b 60))) ∷ [])) ≡ Some (fault 5 60)
unfolding first
least_place = refl

-- int a; int main(void) { int b; { int a = b; b = a; } return a; }: the inner a hides the global one
hides : resolved (record { definitions = GlobalScalar (a 5) (pos 7) ∷ main (Scalar (b 30) ∷ Block (list_of (ScalarWith (a 40) (Use (b 44)) ∷ Simply (Assign (target 47 (Use (b 47))) (Use (a 51))) ∷ [])) ∷ ReturnValue (at 60) (Use (a 67)) ∷ []) ∷ []; end = at 99 })
    ≡ record {
      globals = GlobalOf (pos 7) ∷ [];
      functions = (record {
        name = codes "main";
        gives = Int;
        parameters = 0;
        takes = [];
        scalars = 2;
        arrays = [];
        body = tree.Seq (tree.Clear 0) (tree.Seq (tree.Block (tree.Seq (tree.Declare 1 (tree.Local 0)) (tree.Seq (tree.Simply (tree.Assign (tree.InLocal 0) (tree.Local 1))) tree.Nothing))) (tree.Seq (tree.ReturnValue (tree.Global 0)) tree.Nothing));
      }) ∷ [];
      main = 0;
    }
unfolding predeclared look declared
hides = refl

-- void b(int a[]) { } behind { int a[2]; .. } with b(a), b(c), b((a)), b(a[0]), b(a, a), and { int a; b(a); }
abbrev takes_array : List Definition
takes_array = function NoValue (codes "b") 60 (array (a 67) ∷ []) [] ∷ []

abbrev handing : List Target → Program
handing arguments = with takes_array (Array (a 22) (record { words = 2; place = at 24 }) ∷ Simply (Evaluate (Call (b 28) (row arguments))) ∷ [])

handed_arrays : (first (handing (target 30 (Use (a 30)) ∷ [])) ≡ None) × (first (handing (target 30 (Use (name (codes "c") 30)) ∷ [])) ≡ Some (fault 5 30)) × (first (handing (target 30 (Use (a 31)) ∷ [])) ≡ Some (fault 7 30))
    × (first (handing (target 30 (Element (a 30) (number 0)) ∷ [])) ≡ Some (fault 7 30)) × (first (handing (target 30 (Use (a 30)) ∷ target 33 (Use (a 33)) ∷ [])) ≡ Some (fault 8 28))
    × (first (with takes_array (Scalar (a 22) ∷ Simply (Evaluate (Call (b 25) (row (target 27 (Use (a 27)) ∷ [])))) ∷ [])) ≡ Some (fault 7 27))
unfolding first
handed_arrays = (refl, refl, refl, refl, refl, refl)

-- an array where a number is taken; int main(int a[]) { }; void b(int a[], int a) { }
handed_numbers : (first (with (function NoValue (codes "b") 60 (scalar (a 67) ∷ []) [] ∷ []) (Array (a 22) (record { words = 2; place = at 24 }) ∷ Simply (Evaluate (Call (b 28) (row (target 30 (Use (a 30)) ∷ [])))) ∷ [])) ≡ Some (fault 7 30))
    × (first (record { definitions = function Int (codes "main") 5 (array (a 14) ∷ []) [] ∷ []; end = at 99 }) ≡ Some (fault 10 99))
    × (first (with (function NoValue (codes "b") 60 (array (a 66) ∷ scalar (a 75) ∷ []) [] ∷ []) []) ≡ Some (fault 6 75))
unfolding first
handed_numbers = (refl, refl, refl)

-- int a; void f(int a[], int b, int c[]) { int d[2]; f(c, b, d); }: the array parameters stand behind the global, and the function's
-- own array behind them
array_numbers : resolved (record { definitions = GlobalScalar (a 5) (pos 7) ∷ function NoValue (codes "f") 12 (array (a 18) ∷ scalar (b 27) ∷ array (name (codes "c") 34) ∷ []) (Array (name (codes "d") 45) (record { words = 2; place = at 47 }) ∷ Simply (Evaluate (Call (name (codes "f") 51) (row (target 53 (Use (name (codes "c") 53)) ∷ target 56 (Use (b 56)) ∷ target 59 (Use (name (codes "d") 59)) ∷ [])))) ∷ []) ∷ []; end = at 99 })
    ≡ record {
      globals = GlobalOf (pos 7) ∷ [];
      functions = (record {
        name = codes "f";
        gives = NoValue;
        parameters = 1;
        takes = TakesArray ∷ TakesNumber ∷ TakesArray ∷ [];
        scalars = 1;
        arrays = 2 ∷ [];
        body = tree.Seq (tree.ClearArray 3) (tree.Seq (tree.Simply (tree.Evaluate (tree.Apply 0 (tree.Hand 2 (tree.Then (tree.Local 0) (tree.Hand 3 tree.NoMore)))))) tree.Nothing);
      }) ∷ [];
      main = 0;
    }
unfolding predeclared look declared
array_numbers = refl

-- `(a) = 1;` at column 18: S12 at the parenthesis stands before S5 at the name; at one place the lower code stands first
by_column : Before (fault 12 18) (fault 5 19)
by_column = inr (refl, inl (omega arith))

by_code : Before (fault 5 18) (fault 12 18)
by_code = inr (refl, inr (refl, omega arith))

by_line : Before (record { code = 13; place = record { line = 1; column = 60 } }) (record { code = 5; place = record { line = 2; column = 1 } })
by_line = inl (omega arith)
