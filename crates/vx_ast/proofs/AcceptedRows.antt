-- Worked rows by computation: nodes, limits, and what an accepted program is.
use Rattle.std.proofs.Common.{◌≡◌, ℕ, pos, negsuc, true, false, List, [], ◌∷◌, refl, replicate, Option, Some, None}
use Rattle.std.specs.Prelude.{codes}
use Rattle.vx_ast.specs.declared.tree.BinaryOperator.TheVariants.{Add, Less}
use Rattle.vx_ast.specs.declared.tree.UnaryOperator.TheVariants.{Minus}
use Rattle.vx_ast.specs.declared.tree.GlobalVariable.TheVariants.{Scalar as ScalarGlobal, Array as ArrayGlobal}
use Rattle.vx_ast.specs.Tree.{Local, Element, Global, Unary, Binary, Choice, Apply, ReadInt, InLocal, InElement, Evaluate, Assign, Compound, Increase, Code, Empty, Block, Clear, Declare, ClearArray, Simply, Head, Print, While, For, Break, Return, ReturnValue, Program}
use Rattle.vx_ast.specs.Accepted.{function_nodes, limit_of, is_suited, is_accepted, Over}
use Rattle.vx_ast.proofs.Programs.{number, list_of, int_function, void_function, main_of, only, with_functions, row, shows, returns, sets}

-- nodes

-- int main(void) { return 0; }: the body, the statement, the number
least_nodes : function_nodes (main_of 0 [] (returns 0 ∷ [])) ≡ 3
least_nodes = refl

-- int f(int a, int b) { int c = a + b; c += 1; return (c); }: parentheses and the assign are none
sum_nodes : function_nodes (int_function 2 3 [] (Declare 2 (Binary Add (Local 0) (Local 1)) ∷ Simply (Compound (InLocal 2) Add (number 1)) ∷ ReturnValue (Local 2) ∷ [])) ≡ 12
sum_nodes = refl

-- void v(void) { a[1]++; }: an element as target counts once, beside its index
element_nodes : function_nodes (void_function 0 0 [] (Simply (Increase (InElement 0 (number 1))) ∷ [])) ≡ 4
element_nodes = refl

-- void v(void) { for (int i = 0; i < 8; i++) ; }: a part of the head is no statement
for_nodes : function_nodes (void_function 0 1 [] (For (list_of (Declare 0 (number 0) ∷ [])) (Some (Binary Less (Local 0) (number 8))) (Head (Increase (InLocal 0))) Empty ∷ [])) ≡ 9
for_nodes = refl

-- void v(void) { printf("%d %d", f(1), read_int()); }
print_nodes : function_nodes (void_function 0 0 [] (Print (codes "%d %d") (row (Apply 0 (row (number 1 ∷ [])) ∷ ReadInt ∷ [])) ∷ [])) ≡ 5
print_nodes = refl

-- void v(void) { { int a[2], b; ; } }: each item counts, a declaration does not
block_nodes : function_nodes (void_function 0 1 (2 ∷ []) (Block (list_of (list_of (ClearArray 0 ∷ Clear 0 ∷ []) ∷ Empty ∷ [])) ∷ [])) ≡ 5
block_nodes = refl

-- int f(int c) { return c ? 1 : -2; }
choice_nodes : function_nodes (int_function 1 1 [] (ReturnValue (Choice (Local 0) (number 1) (Unary Minus (number 2))) ∷ [])) ≡ 8
choice_nodes = refl

-- limits, each at its number and one over

abbrev over : ℕ → ℕ → Option Over
over number count = Some (record { number = number; count = count })

-- main, and other functions
abbrev functions : ℕ → Program
functions n = with_functions [] (main_of 0 [] (returns 0 ∷ [])) (replicate n (void_function 0 0 [] []))

many_functions : (limit_of (functions 255) ≡ None) × (limit_of (functions 256) ≡ over 3 257)
many_functions = (refl, refl)

abbrev parameters : ℕ → Program
parameters n = with_functions [] (main_of 0 [] (returns 0 ∷ [])) (void_function n n [] [] ∷ [])

many_parameters : (limit_of (parameters 8) ≡ None) × (limit_of (parameters 9) ≡ over 4 9)
many_parameters = (refl, refl)

-- 3 nodes, and so many empty statements
abbrev nodes : ℕ → Program
nodes n = only [] (main_of 0 [] (list_of (replicate n Empty) ∷ returns 0 ∷ []))

many_nodes : (limit_of (nodes 3997) ≡ None) × (limit_of (nodes 3998) ≡ over 5 4001)
many_nodes = (refl, refl)

abbrev words : ℕ → Program
words n = only [] (main_of 0 (n ∷ 192 ∷ []) (ClearArray 0 ∷ ClearArray 1 ∷ returns 0 ∷ []))

many_words : (limit_of (words 8000) ≡ None) × (limit_of (words 8001) ≡ over 6 8193)
many_words = (refl, refl)

abbrev global_words : ℕ → Program
global_words n = only (ScalarGlobal (pos 7) ∷ ArrayGlobal n ∷ []) (main_of 0 [] (returns 0 ∷ []))

many_global_words : (limit_of (global_words 262143) ≡ None) × (limit_of (global_words 262144) ≡ over 7 262145)
many_global_words = (refl, refl)

abbrev format : ℕ → Program
format n = only [] (main_of 0 [] (Print (codes "x") (row []) ∷ While (number 0) (Print (replicate n 120) (row [])) ∷ returns 0 ∷ []))

long_format : (limit_of (format 4096) ≡ None) × (limit_of (format 4097) ≡ over 8 4097)
long_format = (refl, refl)

-- the lowest limit, and the first function that is over it
first_over : limit_of (with_functions [] (main_of 0 (9000 ∷ []) (ClearArray 0 ∷ returns 0 ∷ [])) (void_function 9 9 [] [] ∷ void_function 11 11 [] [] ∷ [])) ≡ over 4 9
first_over = refl

-- accepted programs

abbrev body : List Code → Program
body statements = only (ScalarGlobal (negsuc 0) ∷ ArrayGlobal 3 ∷ []) (main_of 1 (2 ∷ []) (Clear 0 ∷ ClearArray 2 ∷ statements))

is_fine : is_accepted (body (Simply (Assign (InElement 1 (Local 0)) (Element 2 (Global 0))) ∷ shows (Local 0) ∷ While (number 1) Break ∷ returns 0 ∷ [])) ≡ true
unfolding is_accepted
is_fine = refl

-- a scalar without a declaration in force, a global scalar with an index, an array as a number
not_in_force : (is_suited (only [] (main_of 1 [] (Block (list_of (Clear 0 ∷ [])) ∷ sets 0 (number 1) ∷ []))) ≡ false) × (is_suited (body (sets 0 (Element 0 (number 1)) ∷ [])) ≡ false) × (is_suited (body (sets 0 (Global 1) ∷ [])) ≡ false)
not_in_force = (refl, refl, refl)

-- break outside of a loop, a return without a value in an `int` function, a format with another number of arguments
misplaced : (is_suited (body (Break ∷ [])) ≡ false) × (is_suited (body (Return ∷ [])) ≡ false) × (is_suited (body (Print (codes "%d") (row []) ∷ [])) ≡ false)
misplaced = (refl, refl, refl)

-- a void call stands only as the whole of a statement
void_calls : (is_suited (with_functions [] (main_of 1 [] (Clear 0 ∷ Simply (Evaluate (Apply 1 (row []))) ∷ [])) (void_function 0 0 [] [] ∷ [])) ≡ true) × (is_suited (with_functions [] (main_of 1 [] (Clear 0 ∷ sets 0 (Apply 1 (row [])) ∷ [])) (void_function 0 0 [] [] ∷ [])) ≡ false)
void_calls = (refl, refl)

-- an array of no words, a scalar that is counted and not declared, a number that is declared and not counted
miscounted : (is_suited (only (ArrayGlobal 0 ∷ []) (main_of 0 [] [])) ≡ false) × (is_suited (only [] (main_of 1 [] [])) ≡ false) × (is_suited (only [] (main_of 2 [] (Clear 0 ∷ Clear 0 ∷ []))) ≡ false) × (is_suited (only [] (main_of 1 [] (Clear 0 ∷ Clear 1 ∷ []))) ≡ false)
miscounted = (refl, refl, refl, refl)

-- a scalar and an array that are declared twice, as a body that is repeated has them
declared_twice : is_suited (only [] (main_of 1 (2 ∷ []) (Block (list_of (Clear 0 ∷ ClearArray 0 ∷ [])) ∷ Block (list_of (Clear 0 ∷ ClearArray 0 ∷ [])) ∷ []))) ≡ true
declared_twice = refl
