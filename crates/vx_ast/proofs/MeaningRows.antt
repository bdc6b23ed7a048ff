-- Worked runs of programs, by computation: operators, divisions, indices, input and scopes.
use Rattle.std.proofs.Common.{◌≡◌, ℕ, pos, negsuc, true, [], ◌∷◌, refl}
use Rattle.std.specs.Prelude.{codes}
use Rattle.std.specs.Int.{int_wrap}
use Rattle.std.specs.Fmt.{digits}
use Rattle.vx_base.specs.Outcome.{Ends, Traps}
use Rattle.vx_base.specs.Arithmetic.{sum_of, quotient_of, remainder_of, shl_of}
use Rattle.vx_base.specs.declared.outcome.Trap.TheVariants.{Divide as ByDivide, Index as ByIndex, Input as ByInput}
use Rattle.vx_ast.specs.declared.tree.BinaryOperator.TheVariants.{Divide, Remainder, Add, ShiftLeft}
use Rattle.vx_ast.specs.declared.tree.GlobalVariable.{GlobalVariable}
use Rattle.vx_ast.specs.declared.tree.GlobalVariable.TheVariants.{Array as ArrayGlobal}
use Rattle.vx_ast.specs.Tree.{Local, Element, Binary, ReadInt, InElement, Assign, Block, Clear, Declare, Simply, Print, Program}
use Rattle.vx_ast.specs.Meaning.{source, deepest}
use Rattle.vx_ast.proofs.Programs.{number, list_of, only, main_of, row, line, line_of_two, returns, sets}

-- printf("%d\n", 2 + 3); return 0;
five : source (only [] (main_of 0 [] (line (Binary Add (number 2) (number 3)) ∷ returns 0 ∷ []))) [] 1 ≡ Ends (pos 0) (codes "5\n")
unfolding sum_of int_wrap digits deepest
five = refl

-- printf("%d\n", 2147483647 + 1); with no return behind it
overflow : source (only [] (main_of 0 [] (line (Binary Add (number 2147483647) (number 1)) ∷ []))) [] 1 ≡ Ends (pos 0) (codes "-2147483648\n")
unfolding sum_of int_wrap digits deepest
overflow = refl

-- printf("100%%\n"); return 7;
percent : source (only [] (main_of 0 [] (Print (codes "100%%\n") (row []) ∷ returns 7 ∷ []))) [] 1 ≡ Ends (pos 7) (codes "100%\n")
unfolding deepest
percent = refl

-- int x = read_int(); int y = read_int(); printf("%d %d\n", x / y, x % y); return 0;
abbrev divides : Program
divides = only [] (main_of 2 [] (Declare 0 ReadInt ∷ Declare 1 ReadInt ∷ line_of_two (Binary Divide (Local 0) (Local 1)) (Binary Remainder (Local 0) (Local 1)) ∷ returns 0 ∷ []))

least_by_minus_one : source divides (negsuc 2147483647 ∷ negsuc 0 ∷ []) 1 ≡ Ends (pos 0) (codes "-2147483648 0\n")
unfolding quotient_of remainder_of int_wrap digits deepest
least_by_minus_one = refl

toward_zero : source divides (negsuc 6 ∷ pos 2 ∷ []) 1 ≡ Ends (pos 0) (codes "-3 -1\n")
unfolding quotient_of remainder_of int_wrap digits deepest
toward_zero = refl

too_little_input : source divides (pos 7 ∷ []) 1 ≡ Traps ByInput []
unfolding deepest
too_little_input = refl

-- printf("a\n"); printf("b\n"); printf("%d\n", 10 / read_int()); return 0;
by_zero : source (only [] (main_of 0 [] (Print (codes "a\n") (row []) ∷ Print (codes "b\n") (row []) ∷ line (Binary Divide (number 10) ReadInt) ∷ returns 0 ∷ []))) (pos 0 ∷ []) 1 ≡ Traps ByDivide (codes "a\nb\n")
unfolding deepest
by_zero = refl

abbrev array : ℕ → GlobalVariable
array words = ArrayGlobal words

-- int a[10]; .. int i = read_int(); a[9] = 4; printf("%d\n", a[i]); return 0;
abbrev indexed : Program
indexed = only (array 10 ∷ []) (main_of 1 [] (Declare 0 ReadInt ∷ Simply (Assign (InElement 0 (number 9)) (number 4)) ∷ line (Element 0 (Local 0)) ∷ returns 0 ∷ []))

last_element : source indexed (pos 9 ∷ []) 1 ≡ Ends (pos 0) (codes "4\n")
unfolding digits deepest
last_element = refl

past_the_end : source indexed (pos 10 ∷ []) 1 ≡ Traps ByIndex []
unfolding deepest
past_the_end = refl

before_the_start : source indexed (negsuc 0 ∷ []) 1 ≡ Traps ByIndex []
unfolding deepest
before_the_start = refl

-- int a[4]; .. int i = read_int(); printf("before\n"); int x = a[i]; printf("%d\n", x); return 0;
abbrev before_index : Program
before_index = only (array 4 ∷ []) (main_of 2 [] (Declare 0 ReadInt ∷ Print (codes "before\n") (row []) ∷ Declare 1 (Element 0 (Local 0)) ∷ line (Local 1) ∷ returns 0 ∷ []))

inside : source before_index (pos 1 ∷ []) 1 ≡ Ends (pos 0) (codes "before\n0\n")
unfolding digits deepest
inside = refl

outside : source before_index (pos 4 ∷ []) 1 ≡ Traps ByIndex (codes "before\n")
unfolding deepest
outside = refl

-- int x; x = 1; { int x; x = 2; } printf("%d %d\n", x, 1 << 33); return 3;
scopes : source (only [] (main_of 2 [] (Clear 0 ∷ sets 0 (number 1) ∷ Block (list_of (Clear 1 ∷ sets 1 (number 2) ∷ [])) ∷ line_of_two (Local 0) (Binary ShiftLeft (number 1) (number 33)) ∷ returns 3 ∷ []))) [] 1 ≡ Ends (pos 3) (codes "1 2\n")
unfolding shl_of int_wrap digits deepest
scopes = refl
