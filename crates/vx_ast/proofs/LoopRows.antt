-- Worked runs of programs, by computation: loops, and what a part of a statement evaluates.
use Rattle.std.proofs.Common.{◌≡◌, pos, negsuc, false, [], ◌∷◌, Some, None, refl}
use Rattle.std.specs.Prelude.{codes}
use Rattle.std.specs.Int.{int_wrap}
use Rattle.std.specs.Fmt.{digits}
use Rattle.vx_base.specs.Outcome.{Ends, Traps, Goes}
use Rattle.vx_base.specs.Arithmetic.{sum_of, difference_of, product_of}
use Rattle.vx_base.specs.declared.outcome.Trap.TheVariants.{Index as ByIndex}
use Rattle.vx_ast.specs.declared.tree.BinaryOperator.TheVariants.{Add, Multiply, Less, Equal}
use Rattle.vx_ast.specs.declared.tree.UnaryOperator.TheVariants.{Not}
use Rattle.vx_ast.specs.declared.tree.GlobalVariable.TheVariants.{Scalar as ScalarGlobal}
use Rattle.vx_ast.specs.Tree.{Local, Global, Element, Unary, Binary, Both, Either, Choice, ReadInt, MoreInput, InLocal, InGlobal, InElement, Assign, Compound, Increase, Decrease, Empty, Block, Declare, ClearArray, Simply, Head, Print, If, While, DoWhile, For, Break, Continue, Program}
use Rattle.vx_ast.specs.Meaning.{source, deepest}
use Rattle.vx_ast.proofs.Programs.{number, list_of, only, main_of, row, shows, line, line_of_two, returns}

-- while (1) printf("x");
abbrev endless : Program
endless = only [] (main_of 0 [] (While (number 1) (Print (codes "x") (row [])) ∷ returns 0 ∷ []))

three_turns : source endless [] 3 ≡ Goes (codes "xxx")
unfolding deepest
three_turns = refl

-- do printf("x"); while (0); return 0;
once : source (only [] (main_of 0 [] (DoWhile (Print (codes "x") (row [])) (number 0) ∷ returns 0 ∷ []))) [] 1 ≡ Ends (pos 0) (codes "x")
unfolding deepest
once = refl

-- int n = read_int(); do { n--; if (n == 2) continue; printf("%d", n); } while (n);
do_continues : source (only [] (main_of 1 [] (Declare 0 ReadInt ∷ DoWhile (Block (list_of (Simply (Decrease (InLocal 0)) ∷ If (Binary Equal (Local 0) (number 2)) Continue ∷ shows (Local 0) ∷ []))) (Local 0) ∷ returns 0 ∷ []))) (pos 4 ∷ []) 4 ≡ Ends (pos 0) (codes "310")
unfolding difference_of int_wrap digits deepest
do_continues = refl

-- for (int i = 0; i < 9; i++) { if (i == 1) continue; if (i == 3) break; printf("%d", i); } return 0;
for_parts : source (only [] (main_of 1 [] (For (list_of (Declare 0 (number 0) ∷ [])) (Some (Binary Less (Local 0) (number 9))) (Head (Increase (InLocal 0)))
    (Block (list_of (If (Binary Equal (Local 0) (number 1)) Continue ∷ If (Binary Equal (Local 0) (number 3)) Break ∷ shows (Local 0) ∷ []))) ∷ returns 0 ∷ []))) [] 4 ≡ Ends (pos 0) (codes "02")
unfolding sum_of int_wrap digits deepest
for_parts = refl

-- the same within a bound of 3 turns goes on
for_goes : source (only [] (main_of 1 [] (For (list_of (Declare 0 (number 0) ∷ [])) (Some (Binary Less (Local 0) (number 9))) (Head (Increase (InLocal 0)))
    (Block (list_of (If (Binary Equal (Local 0) (number 1)) Continue ∷ If (Binary Equal (Local 0) (number 3)) Break ∷ shows (Local 0) ∷ []))) ∷ returns 0 ∷ []))) [] 3 ≡ Goes (codes "02")
unfolding sum_of int_wrap digits deepest
for_goes = refl

-- while (more_input()) for (;;) { printf("%d", read_int()); break; } return 0;
inner_break : source (only [] (main_of 0 [] (While MoreInput (For Empty None Empty (Block (list_of (shows ReadInt ∷ Break ∷ [])))) ∷ returns 0 ∷ []))) (pos 4 ∷ negsuc 4 ∷ []) 3 ≡ Ends (pos 0) (codes "4-5")
unfolding digits deepest
inner_break = refl

-- for (int i = 0; i < 2; i++) { int b[2]; printf("%d", b[0]); b[0] = 7; } return 0;
cleared_again : source (only [] (main_of 1 (2 ∷ []) (For (list_of (Declare 0 (number 0) ∷ [])) (Some (Binary Less (Local 0) (number 2))) (Head (Increase (InLocal 0)))
    (Block (list_of (ClearArray 0 ∷ shows (Element 0 (number 0)) ∷ Simply (Assign (InElement 0 (number 0)) (number 7)) ∷ []))) ∷ returns 0 ∷ []))) [] 3 ≡ Ends (pos 0) (codes "00")
unfolding sum_of int_wrap digits deepest
cleared_again = refl

-- int a[3]; .. a[read_int()] += 5; printf("%d %d\n", a[1], read_int()); return 0;
index_once : source (only [] (main_of 0 (3 ∷ []) (ClearArray 0 ∷ Simply (Compound (InElement 0 ReadInt) Add (number 5)) ∷ line_of_two (Element 0 (number 1)) ReadInt ∷ returns 0 ∷ []))) (pos 1 ∷ pos 9 ∷ []) 1 ≡ Ends (pos 0) (codes "5 9\n")
unfolding sum_of int_wrap digits deepest
index_once = refl

-- int a[3]; .. a[3] = read_int(); the index is checked before the number is read, where none is left
index_first : source (only [] (main_of 0 (3 ∷ []) (ClearArray 0 ∷ Simply (Assign (InElement 0 (number 3)) ReadInt) ∷ returns 0 ∷ []))) [] 1 ≡ Traps ByIndex []
unfolding deepest
index_first = refl

-- printf("%d\n", 0 && read_int()); printf("%d\n", 2 && read_int()); printf("%d\n", read_int()); return 0;
both_rows : source (only [] (main_of 0 [] (line (Both (number 0) ReadInt) ∷ line (Both (number 2) ReadInt) ∷ line ReadInt ∷ returns 0 ∷ []))) (pos 5 ∷ pos 6 ∷ []) 1 ≡ Ends (pos 0) (codes "0\n1\n6\n")
unfolding digits deepest
both_rows = refl

-- the same with ||
either_rows : source (only [] (main_of 0 [] (line (Either (number 3) ReadInt) ∷ line (Either (number 0) ReadInt) ∷ line ReadInt ∷ returns 0 ∷ []))) (pos 0 ∷ pos 6 ∷ []) 1 ≡ Ends (pos 0) (codes "1\n0\n6\n")
unfolding digits deepest
either_rows = refl

-- printf("%d %d\n", 1 ? read_int() : read_int() * 10, read_int()); return 0;
choice_rows : source (only [] (main_of 0 [] (line_of_two (Choice (number 1) ReadInt (Binary Multiply ReadInt (number 10))) ReadInt ∷ returns 0 ∷ []))) (pos 5 ∷ pos 6 ∷ []) 1 ≡ Ends (pos 0) (codes "5 6\n")
unfolding digits deepest
choice_rows = refl

-- int g = 5; .. g *= 3; printf("%d %d\n", g, !g); return 0;
global_start : source (only (ScalarGlobal (pos 5) ∷ []) (main_of 0 [] (Simply (Compound (InGlobal 0) Multiply (number 3)) ∷ line_of_two (Global 0) (Unary Not (Global 0)) ∷ returns 0 ∷ []))) [] 1 ≡ Ends (pos 0) (codes "15 0\n")
unfolding product_of int_wrap digits deepest
global_start = refl
