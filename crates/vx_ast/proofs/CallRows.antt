-- Worked runs of programs, by computation: calls.
use Rattle.std.proofs.Common.{◌≡◌, pos, false, [], ◌∷◌, refl}
use Rattle.std.specs.Prelude.{codes}
use Rattle.std.specs.Int.{int_wrap}
use Rattle.std.specs.Fmt.{digits}
use Rattle.vx_base.specs.Outcome.{Ends, Traps}
use Rattle.vx_base.specs.Arithmetic.{sum_of, difference_of}
use Rattle.vx_base.specs.declared.outcome.Trap.TheVariants.{Index as ByIndex, Depth as ByDepth}
use Rattle.vx_ast.specs.declared.tree.BinaryOperator.TheVariants.{Add, Subtract, LessEqual}
use Rattle.vx_ast.specs.declared.tree.GlobalVariable.TheVariants.{Scalar as ScalarGlobal, Array as ArrayGlobal}
use Rattle.vx_ast.specs.Tree.{Local, Global, Element, Binary, Apply, ReadInt, InGlobal, InElement, Evaluate, Assign, Compound, ClearArray, Simply, If, Return, ReturnValue, Program}
use Rattle.vx_ast.specs.Meaning.{ArrayArgument, spot_in, spot_of, active, at_start, outcome_of, source, deepest}
use Rattle.vx_ast.proofs.Programs.{number, with_functions, int_function, void_function, main_of, row, shows, line, line_of_two, returns, sets}

-- int f(int a, int b) { return a - b; } .. printf("%d\n", f(read_int(), read_int())); return 0;
left_to_right : source (with_functions [] (main_of 0 [] (line (Apply 1 (row (ReadInt ∷ ReadInt ∷ []))) ∷ returns 0 ∷ [])) (int_function 2 2 [] (ReturnValue (Binary Subtract (Local 0) (Local 1)) ∷ []) ∷ [])) (pos 9 ∷ pos 2 ∷ []) 1 ≡ Ends (pos 0) (codes "7\n")
unfolding difference_of int_wrap digits deepest
left_to_right = refl

-- void v(int a) { printf("%d", a); if (a) return; printf("%d", 5); } .. v(1); v(0); return 2;
void_calls : source (with_functions [] (main_of 0 [] (Simply (Evaluate (Apply 1 (row (number 1 ∷ [])))) ∷ Simply (Evaluate (Apply 1 (row (number 0 ∷ [])))) ∷ returns 2 ∷ [])) (void_function 1 1 [] (shows (Local 0) ∷ If (Local 0) Return ∷ shows (number 5) ∷ []) ∷ [])) [] 1 ≡ Ends (pos 2) (codes "105")
unfolding digits deepest
void_calls = refl

-- int f(int a) { a = 8; } .. int x; x = 3; printf("%d %d\n", f(x), x); return 0;
no_return : source (with_functions [] (main_of 1 [] (sets 0 (number 3) ∷ line_of_two (Apply 1 (row (Local 0 ∷ []))) (Local 0) ∷ returns 0 ∷ [])) (int_function 1 1 [] (sets 0 (number 8) ∷ []) ∷ [])) [] 1 ≡ Ends (pos 0) (codes "0 3\n")
unfolding digits deepest
no_return = refl

-- int g; int f(int n) { g = n; return 1; } .. g = 5; g += f(20); printf("%d\n", g); the old value is read before the call
read_before : source (with_functions (ScalarGlobal (pos 0) ∷ []) (main_of 0 [] (Simply (Assign (InGlobal 0) (number 5)) ∷ Simply (Compound (InGlobal 0) Add (Apply 1 (row (number 20 ∷ [])))) ∷ line (Global 0) ∷ returns 0 ∷ [])) (int_function 1 1 [] (Simply (Assign (InGlobal 0) (Local 0)) ∷ returns 1 ∷ []) ∷ [])) [] 1 ≡ Ends (pos 0) (codes "6\n")
unfolding sum_of int_wrap digits deepest
read_before = refl

-- int f(int n) { int a[2]; a[1] = n; if (n) f(n - 1); return a[1]; } .. int b[2]; b[1] = 7; printf("%d %d\n", f(2), b[1]);
own_arrays : source (with_functions [] (main_of 0 (2 ∷ []) (ClearArray 0 ∷ Simply (Assign (InElement 0 (number 1)) (number 7)) ∷ line_of_two (Apply 1 (row (number 2 ∷ []))) (Element 0 (number 1)) ∷ returns 0 ∷ [])) (int_function 1 1 (2 ∷ []) (ClearArray 0 ∷ Simply (Assign (InElement 0 (number 1)) (Local 0)) ∷ If (Local 0) (Simply (Evaluate (Apply 1 (row (Binary Subtract (Local 0) (number 1) ∷ []))))) ∷ ReturnValue (Element 0 (number 1)) ∷ []) ∷ [])) [] 1 ≡ Ends (pos 0) (codes "2 7\n")
unfolding difference_of int_wrap digits deepest
own_arrays = refl

-- int f(int n) { if (n <= 1) return 1; return 1 + f(n - 1); } .. printf("%d\n", f(read_int())); return 0;
abbrev recursive : Program
recursive = with_functions [] (main_of 0 [] (line (Apply 1 (row (ReadInt ∷ []))) ∷ returns 0 ∷ [])) (int_function 1 1 [] (If (Binary LessEqual (Local 0) (number 1)) (returns 1) ∷ ReturnValue (Binary Add (number 1) (Apply 1 (row (Binary Subtract (Local 0) (number 1) ∷ [])))) ∷ []) ∷ [])

four_deep : source recursive (pos 4 ∷ []) 1 ≡ Ends (pos 0) (codes "4\n")
unfolding sum_of difference_of int_wrap digits deepest
four_deep = refl

-- 512 functions are active at a time, main among them, and no more
deepest_calls : source recursive (pos 511 ∷ []) 1 ≡ Ends (pos 0) (codes "511\n")
unfolding sum_of difference_of int_wrap digits deepest
deepest_calls = refl

too_deep : source recursive (pos 512 ∷ []) 1 ≡ Traps ByDepth []
unfolding sum_of difference_of int_wrap digits deepest
too_deep = refl

-- int g[2]; int h[2]; and a function to which two arrays are given, p and q: p[0] = 5; q[0] = 6; printf("%d\n", p[0]);
abbrev given_arrays : Program
given_arrays = with_functions (ArrayGlobal 2 ∷ ArrayGlobal 2 ∷ []) (main_of 0 [] []) (void_function 0 0 [] (Simply (Assign (InElement 2 (number 0)) (number 5)) ∷ Simply (Assign (InElement 3 (number 0)) (number 6)) ∷ line (Element 2 (number 0)) ∷ []) ∷ [])

-- g for both of them, and then g and h
given_one_array : outcome_of (active given_arrays 1 1 1 (ArrayArgument 0 ∷ ArrayArgument 0 ∷ []) (at_start given_arrays [])) ≡ Ends (pos 0) (codes "6\n")
unfolding digits
given_one_array = refl

given_two_arrays : outcome_of (active given_arrays 1 1 1 (ArrayArgument 0 ∷ ArrayArgument 1 ∷ []) (at_start given_arrays [])) ≡ Ends (pos 0) (codes "5\n")
unfolding digits
given_two_arrays = refl

-- an array has the size of the one that is given: p is h, where h has one word
given_small_array : outcome_of (active (with_functions (ArrayGlobal 3 ∷ ArrayGlobal 1 ∷ []) (main_of 0 [] []) (void_function 0 0 [] (line (Element 2 (number 1)) ∷ []) ∷ [])) 1 1 1 (ArrayArgument 1 ∷ []) (at_start (with_functions (ArrayGlobal 3 ∷ ArrayGlobal 1 ∷ []) (main_of 0 [] []) (void_function 0 0 [] (line (Element 2 (number 1)) ∷ []) ∷ [])) [])) ≡ Traps ByIndex []
given_small_array = refl

-- one global, an array that was given, and two own ones behind it
given_spot : spot_in 1 (3 ∷ []) 7 1 ≡ 3
given_spot = refl

own_behind : spot_in 1 (3 ∷ []) 7 3 ≡ 8
own_behind = refl

own_alone : spot_of 1 7 2 ≡ 8
own_alone = refl
