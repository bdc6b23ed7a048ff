-- Worked runs of programs, by computation: arrays that are handed to functions, and which of such programs are accepted.
use Rattle.std.proofs.Common.{◌≡◌, ℕ, pos, true, false, [], ◌∷◌, refl, Some, None}
use Rattle.std.specs.Prelude.{codes}
use Rattle.std.specs.Int.{int_wrap}
use Rattle.std.specs.Fmt.{digits}
use Rattle.vx_base.specs.Outcome.{Ends, Traps}
use Rattle.vx_base.specs.Arithmetic.{sum_of}
use Rattle.vx_base.specs.declared.outcome.Trap.TheVariants.{Index as ByIndex}
use Rattle.vx_ast.specs.declared.tree.BinaryOperator.TheVariants.{Add, Less}
use Rattle.vx_ast.specs.declared.tree.Takes.TheVariants.{Number as ANumber, Array as AnArray}
use Rattle.vx_ast.specs.declared.tree.GlobalVariable.TheVariants.{Scalar as ScalarGlobal, Array as ArrayGlobal}
use Rattle.vx_ast.specs.Tree.{Row, Tree, Local, Element, Binary, Apply, ReadInt, NoMore, Then, Hand, InLocal, InElement, Evaluate, Assign, Compound, Increase, Code, Clear, Declare, ClearArray, Simply, Head, Print, For, ReturnValue, Function, Program}
use Rattle.vx_ast.specs.Meaning.{source, deepest}
use Rattle.vx_ast.specs.Accepted.{function_nodes, limit_of, is_suited, is_accepted, Over}
use Rattle.vx_ast.proofs.Programs.{number, row, shows, line, returns, taking, int_function, void_function, main_of}

-- a[index] = n;
abbrev puts : (a index n : ℕ) → Code
puts a index n = Simply (Assign (InElement a (number index)) (number n))

-- int sum(int a[], int n) { int s = 0; int i; for (i = 0; i < n; i++) s += a[i]; return s; }
abbrev summing : Function
summing = taking (AnArray ∷ ANumber ∷ []) (int_function 1 3 [] (Declare 1 (number 0) ∷ Clear 2 ∷ For (Head (Assign (InLocal 2) (number 0))) (Some (Binary Less (Local 2) (Local 0))) (Head (Increase (InLocal 2))) (Simply (Compound (InLocal 1) Add (Element 0 (Local 2)))) ∷ ReturnValue (Local 1) ∷ []))

-- .. int main(void) { int x[3]; x[0] = 1; x[1] = 2; x[2] = 4; printf("%d\n", sum(..)); return 0; }
abbrev sum_of_row : Tree Row → Program
sum_of_row arguments = record { globals = []; functions = summing ∷ main_of 0 (3 ∷ []) (ClearArray 0 ∷ puts 0 0 1 ∷ puts 0 1 2 ∷ puts 0 2 4 ∷ line (Apply 0 arguments) ∷ returns 0 ∷ []) ∷ []; main = 1 }

-- sum(x, read_int())
abbrev sum_read : Program
sum_read = sum_of_row (Hand 0 (row (ReadInt ∷ [])))

sums : source sum_read (pos 3 ∷ []) 4 ≡ Ends (pos 0) (codes "7\n")
unfolding sum_of int_wrap digits deepest
sums = refl

-- its size goes with the array
sums_too_many : source sum_read (pos 4 ∷ []) 4 ≡ Traps ByIndex []
unfolding sum_of int_wrap digits deepest
sums_too_many = refl

sum_is_accepted : is_accepted sum_read ≡ true
unfolding is_accepted
sum_is_accepted = refl

-- a number for an array, an array for a number, the other order, one argument less
sum_is_refused : (is_suited (sum_of_row (row (number 0 ∷ number 1 ∷ []))) ≡ false) × (is_suited (sum_of_row (Hand 0 (Hand 0 NoMore))) ≡ false) × (is_suited (sum_of_row (Then (number 1) (Hand 0 NoMore))) ≡ false) × (is_suited (sum_of_row (Hand 0 NoMore)) ≡ false)
sum_is_refused = (refl, refl, refl, refl)

-- an array that is not in force, and an array that is printed
not_handed : (is_suited (sum_of_row (Hand 1 (row (number 1 ∷ [])))) ≡ false) × (is_suited (record { globals = ArrayGlobal 2 ∷ []; functions = main_of 0 [] (Print (codes "%d") (Hand 0 NoMore) ∷ []) ∷ []; main = 0 }) ≡ false)
not_handed = (refl, refl)

-- int g[2]; int h[2]; void f(int p[], int q[]) { p[0] = 5; q[0] = 6; printf("%d\n", p[0]); } int main(void) { f(g, g); f(g, h); return 0; }
abbrev two_arrays : Program
two_arrays = record {
  globals = ArrayGlobal 2 ∷ ArrayGlobal 2 ∷ [];
  functions = taking (AnArray ∷ AnArray ∷ []) (void_function 0 0 [] (puts 2 0 5 ∷ puts 3 0 6 ∷ line (Element 2 (number 0)) ∷ []))
      ∷ main_of 0 [] (Simply (Evaluate (Apply 0 (Hand 0 (Hand 0 NoMore)))) ∷ Simply (Evaluate (Apply 0 (Hand 0 (Hand 1 NoMore)))) ∷ returns 0 ∷ []) ∷ [];
  main = 1;
}

one_and_two : source two_arrays [] 1 ≡ Ends (pos 0) (codes "6\n5\n")
unfolding digits deepest
one_and_two = refl

two_are_accepted : is_accepted two_arrays ≡ true
unfolding is_accepted
two_are_accepted = refl

-- void set(int a[], int n) { a[1] = n; } void pass(int n, int b[]) { int c[2]; set(c, 4); set(b, n); printf("%d", c[1]); }
-- .. int main(void) { int x[2]; pass(9, x); printf("%d", x[1]); return 0; }
abbrev handing_on : Program
handing_on = record {
  globals = [];
  functions = taking (AnArray ∷ ANumber ∷ []) (void_function 1 1 [] (Simply (Assign (InElement 0 (number 1)) (Local 0)) ∷ []))
      ∷ taking (ANumber ∷ AnArray ∷ []) (void_function 1 1 (2 ∷ []) (ClearArray 1 ∷ Simply (Evaluate (Apply 0 (Hand 1 (row (number 4 ∷ []))))) ∷ Simply (Evaluate (Apply 0 (Hand 0 (row (Local 0 ∷ []))))) ∷ shows (Element 1 (number 1)) ∷ []))
      ∷ main_of 0 (2 ∷ []) (ClearArray 0 ∷ Simply (Evaluate (Apply 1 (Then (number 9) (Hand 0 NoMore)))) ∷ shows (Element 0 (number 1)) ∷ returns 0 ∷ []) ∷ [];
  main = 2;
}

handed_on : source handing_on [] 1 ≡ Ends (pos 0) (codes "49")
unfolding digits deepest
handed_on = refl

handing_on_is_accepted : is_accepted handing_on ≡ true
unfolding is_accepted
handing_on_is_accepted = refl

-- an array parameter counts for L4 and is a node, and so is an array that is handed over; it has no words for L6
abbrev many_arrays : Program
many_arrays = record {
  globals = [];
  functions = main_of 0 [] (returns 0 ∷ []) ∷ taking (AnArray ∷ AnArray ∷ AnArray ∷ AnArray ∷ ANumber ∷ AnArray ∷ AnArray ∷ AnArray ∷ AnArray ∷ []) (void_function 1 1 (8192 ∷ []) (ClearArray 8 ∷ [])) ∷ [];
  main = 0;
}

arrays_counted : limit_of many_arrays ≡ Some (record { number = 4; count = 9 })
arrays_counted = refl

arrays_are_nodes : (function_nodes (taking (AnArray ∷ AnArray ∷ []) (void_function 0 0 [] [])) ≡ 3) × (function_nodes (main_of 0 [] (Simply (Evaluate (Apply 0 (Hand 0 (Hand 1 NoMore)))) ∷ [])) ≡ 5)
arrays_are_nodes = (refl, refl)

-- main takes nothing
main_takes_nothing : is_suited (record { globals = []; functions = taking (AnArray ∷ []) (main_of 0 [] (returns 0 ∷ [])) ∷ []; main = 0 }) ≡ false
main_takes_nothing = refl
