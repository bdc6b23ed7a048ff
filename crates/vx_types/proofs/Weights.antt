-- How large the code of an expression and of a statement is: each call of their functions takes a smaller one, or as large a one by a function of lower rank.
use Rattle.std.proofs.Common.{◌≡◌, ◌<◌, ◌≤◌, ◌+◌, ◌*◌, ℕ, zero, suc, length, drop, get_or, List, [], ◌∷◌, ap, arith}
use Rattle.vx_ast.specs.declared.syntax.Name.{Name}
use Rattle.vx_ast.specs.declared.syntax.Expression.{Expression}
use Rattle.vx_ast.specs.declared.syntax.Argument.{Argument}
use Rattle.vx_ast.specs.declared.syntax.Statement.{Statement}
use Rattle.vx_ast.specs.Syntax.{Phrase, Number, Use, Element, Call, Unary, Binary, Both, Either, Choice, NoMore, Then, Code, Seq, Block, If, IfElse, While, DoWhile, For}
use Rattle.vx_ast.specs.Tree.{Shape, One}
use Rattle.vx_names.proofs.Lists.{drop_next}
use Rattle.vx_ast.specs.SyntaxView.{phrase_of, row_in, code_of, all_in}

abbrev pub phrase_weight : {k : Shape} → Phrase k → ℕ
phrase_weight (Number z) = 0
phrase_weight (Use x) = 0
phrase_weight (Element x a) = suc (phrase_weight a)
phrase_weight (Call f row) = suc (phrase_weight row)
phrase_weight (Unary o a) = suc (phrase_weight a)
phrase_weight (Binary o a b) = suc (phrase_weight a + phrase_weight b)
phrase_weight (Both a b) = suc (phrase_weight a + phrase_weight b)
phrase_weight (Either a b) = suc (phrase_weight a + phrase_weight b)
phrase_weight (Choice a b c) = suc (phrase_weight a + (phrase_weight b + phrase_weight c))
phrase_weight NoMore = 0
phrase_weight (Then at a row) = suc (phrase_weight a + phrase_weight row)

abbrev pub code_weight : Code → ℕ
code_weight (Seq a b) = suc (code_weight a + code_weight b)
code_weight (Block a) = suc (code_weight a)
code_weight (If e a) = suc (code_weight a)
code_weight (IfElse e a b) = suc (code_weight a + code_weight b)
code_weight (While e a) = suc (code_weight a)
code_weight (DoWhile a e) = suc (code_weight a)
code_weight (For first test step a) = suc (code_weight a)
code_weight s = 0

-- the one part, and each of two and of three
pub only : (a : ℕ) → a < suc a
only a = omega arith

pub left : (a b : ℕ) → a < suc (a + b)
left a b = omega arith

pub right : (a b : ℕ) → b < suc (a + b)
right a b = omega arith

pub second : (a b c : ℕ) → b < suc (a + (b + c))
second a b c = omega arith

pub third : (a b c : ℕ) → c < suc (a + (b + c))
third a b c = omega arith

-- a part of an expression, by a function of each rank

pub part_falls : (s p : Phrase One) (x d : Expression) (t : ℕ) → 3 * phrase_weight s ≡ t → s ≡ p → d ≡ x → phrase_weight (phrase_of x) < phrase_weight p → 3 * phrase_weight (phrase_of d) < t
part_falls s p x d t m e i h = let f = ap phrase_weight e in let j = ap (λ (z : Expression). phrase_weight (phrase_of z)) i in omega (arith, m, f, j, h)

pub boxed_falls : (s p : Phrase One) (x d : Expression) (t : ℕ) → 3 * phrase_weight s ≡ t → s ≡ p → d ≡ x → phrase_weight (phrase_of x) < phrase_weight p → 3 * phrase_weight (phrase_of d) + 1 < t
boxed_falls s p x d t m e i h = let f = ap phrase_weight e in let j = ap (λ (z : Expression). phrase_weight (phrase_of z)) i in omega (arith, m, f, j, h)

pub behind_falls : (s p : Phrase One) (x d : Expression) (t : ℕ) → 3 * phrase_weight s ≡ t → s ≡ p → d ≡ x → phrase_weight (phrase_of x) < phrase_weight p → 3 * phrase_weight (phrase_of d) + 2 < t
behind_falls s p x d t m e i h = let f = ap phrase_weight e in let j = ap (λ (z : Expression). phrase_weight (phrase_of z)) i in omega (arith, m, f, j, h)

pub row_falls : (s : Phrase One) (f : Name) (all row : List Argument) (t : ℕ) → 3 * phrase_weight s ≡ t → s ≡ Call f (row_in all) → row ≡ all → 3 * phrase_weight (row_in row) + 1 < t
row_falls s f all row t m e i =
    let g : phrase_weight s ≡ suc (phrase_weight (row_in all)) = ap phrase_weight e in let j = ap (λ (z : List Argument). phrase_weight (row_in z)) i in omega (arith, m, g, j)

pub application_falls : (s : Phrase One) (f : Name) (all row : List Argument) (t : ℕ) → 3 * phrase_weight s ≡ t → s ≡ Call f (row_in all) → row ≡ all → 3 * phrase_weight (row_in row) + 2 < t
application_falls s f all row t m e i =
    let g : phrase_weight s ≡ suc (phrase_weight (row_in all)) = ap phrase_weight e in let j = ap (λ (z : List Argument). phrase_weight (row_in z)) i in omega (arith, m, g, j)

-- the same one, by a function of lower rank
pub to_none : (n t : ℕ) → 3 * n + 1 ≡ t → 3 * n < t
to_none n t d = omega (arith, d)

pub to_one : (n t : ℕ) → 3 * n + 2 ≡ t → 3 * n + 1 < t
to_one n t d = omega (arith, d)

pub to_two : (n t : ℕ) → 3 * n + 3 ≡ t → 3 * n + 2 < t
to_two n t d = omega (arith, d)

pub from_three : (n t : ℕ) → 3 * n + 3 ≡ t → 3 * n < t
from_three n t d = omega (arith, d)

row_drop : (xs : List Argument) (i : ℕ) → phrase_weight (row_in (drop i xs)) ≤ phrase_weight (row_in xs)
row_drop xs zero = omega arith
row_drop [] (suc i) = omega arith
row_drop (y ∷ ys) (suc i) = let f = row_drop ys i in omega (arith, f)

in_row : (xs : List Argument) (i : ℕ) (x : Argument) → i < length xs → x ≡ get_or xs i x → phrase_weight (phrase_of x.expression) < phrase_weight (row_in xs)
in_row xs i x h e =
    let f : phrase_weight (row_in (drop i xs)) ≡ suc (phrase_weight (phrase_of x.expression) + phrase_weight (row_in (drop (i + 1) xs))) = ap (λ (z : List Argument). phrase_weight (row_in z)) (drop_next xs i x h e) in
    let g = row_drop xs i in omega (arith, f, g)

-- an argument of a row, with its place and without it
pub argument_falls : (xs : List Argument) (i : ℕ) (x : Argument) (t : ℕ) → 3 * phrase_weight (row_in xs) + 1 ≡ t → i < length xs → x ≡ get_or xs i x → 3 * phrase_weight (phrase_of x.expression) + 3 < t
argument_falls xs i x t d h e = let f = in_row xs i x h e in omega (arith, d, f)

pub expression_falls : (xs : List Argument) (i : ℕ) (x : Argument) (t : ℕ) → 3 * phrase_weight (row_in xs) + 1 ≡ t → i < length xs → x ≡ get_or xs i x → 3 * phrase_weight (phrase_of x.expression) + 1 < t
expression_falls xs i x t d h e = let f = in_row xs i x h e in omega (arith, d, f)

-- a part of a statement, by a function of each rank

pub block_falls : (s : Code) (xs all : List Statement) (t : ℕ) → 8 * code_weight s ≡ t → s ≡ Block (all_in all) → xs ≡ all → 8 * code_weight (all_in xs) + 2 < t
block_falls s xs all t m e i =
    let f : code_weight s ≡ suc (code_weight (all_in all)) = ap code_weight e in let j = ap (λ (z : List Statement). code_weight (all_in z)) i in omega (arith, m, f, j)

pub body_falls : (s p : Code) (x d : Statement) (t : ℕ) → 8 * code_weight s ≡ t → s ≡ p → d ≡ x → code_weight (code_of x) < code_weight p → 8 * code_weight (code_of d) + 3 < t
body_falls s p x d t m e i h = let f = ap code_weight e in let j = ap (λ (z : Statement). code_weight (code_of z)) i in omega (arith, m, f, j, h)

pub loop_falls : (s p : Code) (x d : Statement) (t : ℕ) → 8 * code_weight s ≡ t → s ≡ p → d ≡ x → code_weight (code_of x) < code_weight p → 8 * code_weight (code_of d) + 4 < t
loop_falls s p x d t m e i h = let f = ap code_weight e in let j = ap (λ (z : Statement). code_weight (code_of z)) i in omega (arith, m, f, j, h)

-- the same one, by a function of lower rank
pub to_statement : (n t : ℕ) → 8 * n + 1 ≡ t → 8 * n < t
to_statement n t d = omega (arith, d)

pub to_held : (n t : ℕ) → 8 * n + 2 ≡ t → 8 * n + 1 < t
to_held n t d = omega (arith, d)

pub to_alone : (n t : ℕ) → 8 * n + 3 ≡ t → 8 * n + 2 < t
to_alone n t d = omega (arith, d)

pub to_parts : (n t : ℕ) → 8 * n + 4 ≡ t → 8 * n + 3 < t
to_parts n t d = omega (arith, d)

list_drop : (xs : List Statement) (i : ℕ) → code_weight (all_in (drop i xs)) ≤ code_weight (all_in xs)
list_drop xs zero = omega arith
list_drop [] (suc i) = omega arith
list_drop (y ∷ ys) (suc i) = let f = list_drop ys i in omega (arith, f)

in_list : (xs : List Statement) (i : ℕ) (x : Statement) → i < length xs → x ≡ get_or xs i x → code_weight (code_of x) ≤ code_weight (all_in xs)
in_list xs i x h e =
    let f : code_weight (all_in (drop i xs)) ≡ suc (code_weight (code_of x) + code_weight (all_in (drop (i + 1) xs))) = ap (λ (z : List Statement). code_weight (all_in z)) (drop_next xs i x h e) in
    let g = list_drop xs i in omega (arith, f, g)

pub one_falls : (xs : List Statement) (i : ℕ) (x : Statement) (t : ℕ) → 8 * code_weight (all_in xs) + 1 ≡ t → i < length xs → x ≡ get_or xs i x → 8 * code_weight (code_of x) < t
one_falls xs i x t d h e = let f = in_list xs i x h e in omega (arith, d, f)
