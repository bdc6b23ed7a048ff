-- Worked rows of unrolling, by computation.
use Rattle.std.proofs.Common.{◌≡◌, ℕ, pos, true, List, [], ◌∷◌, Some, None, refl, map, replicate}
use Rattle.std.specs.Prelude.{codes}
use Rattle.std.specs.Int.{int_wrap}
use Rattle.std.specs.Fmt.{digits}
use Rattle.vx_base.specs.Outcome.{Ends}
use Rattle.vx_base.specs.Arithmetic.{sum_of}
use Rattle.vx_ast.specs.declared.tree.BinaryOperator.TheVariants.{Less, Equal}
use Rattle.vx_ast.specs.declared.tree.UnaryOperator.TheVariants.{Not}
use Rattle.vx_ast.specs.declared.tree.Takes.TheVariants.{Array as AnArray}
use Rattle.vx_ast.specs.Tree.{One, Tree, Local, Element, Unary, Binary, ReadInt, InLocal, Assign, Increase, Code, Nothing, Empty, Block, Clear, Declare, ClearArray, Simply, Head, Print, If, While, DoWhile, For, Break, Continue, Program}
use Rattle.vx_ast.specs.Meaning.{source, deepest}
use Rattle.vx_ast.specs.Accepted.{function_nodes, is_accepted}
use Rattle.vx_ast.proofs.Programs.{number, list_of, only, taking, void_function, main_of, row, shows, line, returns}
use Rattle.vx_unroll.specs.Unrolling.{function_words, unrolled_program}

-- int n = read_int(); int i = 0; while (i < n) { printf("%d ", i); i++; } return 0;
abbrev below_n : Tree One
below_n = Binary Less (Local 1) (Local 0)

abbrev spaced : Code
spaced = Print (codes "%d ") (row (Local 1 ∷ []))

abbrev counts : Program
counts = only [] (main_of 2 [] (Declare 0 ReadInt ∷ Declare 1 (number 0) ∷ While below_n (Block (list_of (spaced ∷ Simply (Increase (InLocal 1)) ∷ []))) ∷ returns 0 ∷ []))

abbrev Counts : ℕ → Type 0
Counts k = source (unrolled_program k counts) (pos 5 ∷ []) 5 ≡ Ends (pos 0) (codes "0 1 2 3 4 ")

counted : Counts 2 × Counts 3 × Counts 4 × Counts 5 × Counts 6 × Counts 7 × Counts 8
unfolding sum_of int_wrap digits deepest
counted = (refl, refl, refl, refl, refl, refl, refl)

-- two turns, with the test between them
counts_twice : unrolled_program 2 counts
    ≡ only [] (main_of 2 [] (Declare 0 ReadInt ∷ Declare 1 (number 0) ∷ While below_n (Block (list_of (Block (list_of (spaced ∷ Simply (Increase (InLocal 1)) ∷ [])) ∷ If (Unary Not below_n) Break ∷ Block (list_of (spaced ∷ Simply (Increase (InLocal 1)) ∷ [])) ∷ []))) ∷ returns 0 ∷ []))
counts_twice = refl

-- int i; for (i = 0; i < 6; i++) { if (i == 2) continue; if (i == 5) break; printf("%d\n", i); } return 0;
abbrev left : Code
left = Block (list_of (If (Binary Equal (Local 0) (number 2)) Continue ∷ If (Binary Equal (Local 0) (number 5)) Break ∷ line (Local 0) ∷ []))

abbrev below_six : Tree One
below_six = Binary Less (Local 0) (number 6)

abbrev leaves : Program
leaves = only [] (main_of 1 [] (Clear 0 ∷ For (Head (Assign (InLocal 0) (number 0))) (Some below_six) (Head (Increase (InLocal 0))) left ∷ returns 0 ∷ []))

abbrev Leaves : ℕ → Type 0
Leaves k = source (unrolled_program k leaves) [] 6 ≡ Ends (pos 0) (codes "0\n1\n3\n4\n")

left_so : Leaves 2 × Leaves 3 × Leaves 4 × Leaves 5 × Leaves 6 × Leaves 7 × Leaves 8
unfolding sum_of int_wrap digits deepest
left_so = (refl, refl, refl, refl, refl, refl, refl)

leaves_twice : unrolled_program 2 leaves
    ≡ only [] (main_of 1 [] (Clear 0 ∷ For (Head (Assign (InLocal 0) (number 0))) (Some below_six) (Head (Increase (InLocal 0))) (Block (list_of (left ∷ Simply (Increase (InLocal 0)) ∷ If (Unary Not below_six) Break ∷ left ∷ []))) ∷ returns 0 ∷ []))
leaves_twice = refl

-- a body that is no block, and a `for` with neither step nor condition
alone : unrolled_program 2 (only [] (main_of 0 [] (For Nothing None Nothing Break ∷ returns 0 ∷ []))) ≡ only [] (main_of 0 [] (For Nothing None Nothing (Block (list_of (Block (list_of (Break ∷ [])) ∷ Block (list_of (Break ∷ [])) ∷ []))) ∷ returns 0 ∷ []))
alone = refl

-- a loop round another one stays, be it a `do`, which is never unrolled
round_a_do : unrolled_program 8 (only [] (main_of 0 [] (While (number 1) (DoWhile Break (number 0)) ∷ returns 0 ∷ []))) ≡ only [] (main_of 0 [] (While (number 1) (DoWhile Break (number 0)) ∷ returns 0 ∷ []))
round_a_do = refl

round_a_while : unrolled_program 2 (only [] (main_of 0 [] (While (number 1) (While (number 0) Break) ∷ returns 0 ∷ [])))
    ≡ only [] (main_of 0 [] (While (number 1) (While (number 0) (Block (list_of (Block (list_of (Break ∷ [])) ∷ If (Unary Not (number 0)) Break ∷ Block (list_of (Break ∷ [])) ∷ [])))) ∷ returns 0 ∷ []))
round_a_while = refl

-- while (1) { int a[n]; printf("%d", a[0]); break; }, so many times, with an array for each
abbrev reads : ℕ → Code
reads a = While (number 1) (Block (list_of (ClearArray a ∷ shows (Element a (number 0)) ∷ Break ∷ [])))

abbrev one_array : ℕ → Program
one_array n = only [] (main_of 0 (n ∷ []) (reads 0 ∷ returns 0 ∷ []))

abbrev two_arrays : ℕ → Program
two_arrays n = only [] (main_of 0 (n ∷ n ∷ []) (reads 0 ∷ reads 1 ∷ returns 0 ∷ []))

-- four times 3,000 words are too many, and four times 2,048 are not
stays : unrolled_program 4 (one_array 3000) ≡ one_array 3000
stays = refl

abbrev words_in : Program → List ℕ
words_in p = map (function_words 0) p.functions

fits : words_in (unrolled_program 4 (one_array 2048)) ≡ 8192 ∷ []
fits = refl

-- the first of two loops is unrolled, and then there is no room for the second
first_alone : words_in (unrolled_program 3 (two_arrays 2000)) ≡ 8000 ∷ []
first_alone = refl

-- void v(int p[]) { while (1) { int a[2048]; .. } }: the function's own arrays stand behind its array parameters
fits_behind : words_in (unrolled_program 4 (only [] (taking (AnArray ∷ []) (void_function 0 0 (2048 ∷ []) (reads 1 ∷ []))))) ≡ 8192 ∷ []
fits_behind = refl

-- while (1) { so many empty statements }: at two turns 4,000 nodes are in the limit, and 4,001 are not
abbrev empties : List Code → ℕ → Program
empties more n = only [] (main_of 0 [] (While (number 1) (Block (list_of (replicate n Empty))) ∷ returns 0 ∷ more))

abbrev nodes_in : Program → List ℕ
nodes_in p = map function_nodes p.functions

nodes_fit : nodes_in (unrolled_program 2 (empties [] 1994)) ≡ 4000 ∷ []
nodes_fit = refl

nodes_do_not : nodes_in (unrolled_program 2 (empties (Empty ∷ []) 1994)) ≡ 2001 ∷ []
nodes_do_not = refl

-- what is declared in a body that is repeated is accepted
declared_again : is_accepted (unrolled_program 4 (one_array 2048)) ≡ true
unfolding is_accepted
declared_again = refl
