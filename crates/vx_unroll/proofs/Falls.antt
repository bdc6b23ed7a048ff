-- How large what a call copies is: each call of the functions of a cycle takes a smaller part, or as large a one by a function of lower rank.
use Rattle.std.proofs.Common.{◌≡◌, ◌<◌, ◌≤◌, ◌+◌, ◌*◌, ℕ, zero, suc, length, drop, get_or, List, [], ◌∷◌, ap, sym, ◌∙◌, arith}
use Rattle.std.proofs.lemmas.List.{at_drop_more}
use Rattle.vx_ast.specs.declared.tree.Argument.{Argument}
use Rattle.vx_ast.specs.declared.tree.Argument.TheVariants.{Number as ANumber, Array as AnArray}
use Rattle.vx_ast.specs.declared.tree.Statement.{Statement}
use Rattle.vx_ast.specs.Accepted.{nodes_of, code_nodes}
use Rattle.vx_ast.specs.Tree.{Tree, One, Row, Apply, NoMore, Code, Block}
use Rattle.vx_ast.specs.View.{argument_before, arguments_in, code_of, all_in}

-- what is left of a list at one of its items
pub drop_next : {A : Type 0} (xs : List A) (i : ℕ) (x : A) → i < length xs → x ≡ get_or xs i x → drop i xs ≡ x ∷ drop (i + 1) xs
drop_next xs i x h e = at_drop_more (λ z. z) xs i x h ∙ ap (λ z. z ∷ drop (i + 1) xs) (sym e)

pub row_falls : (s : Tree One) (f : ℕ) (all row : List Argument) (t : ℕ) → 4 * nodes_of s ≡ t → s ≡ Apply f (arguments_in all) → row ≡ all → 4 * nodes_of (arguments_in row) + 2 < t
row_falls s f all row t m e i =
    let g : nodes_of s ≡ 1 + nodes_of (arguments_in all) = ap nodes_of e in let j = ap (λ (z : List Argument). nodes_of (arguments_in z)) i in omega (arith, m, g, j)

before_nodes : (x : Argument) (rest : Tree Row) → nodes_of (argument_before x rest) ≡ nodes_of (argument_before x NoMore) + nodes_of rest
before_nodes (ANumber e) rest = omega arith
before_nodes (AnArray a) rest = omega arith

row_drop : (xs : List Argument) (i : ℕ) → nodes_of (arguments_in (drop i xs)) ≤ nodes_of (arguments_in xs)
row_drop xs zero = omega arith
row_drop [] (suc i) = omega arith
row_drop (y ∷ ys) (suc i) = let f = row_drop ys i in let g = before_nodes y (arguments_in ys) in omega (arith, f, g)

pub argument_falls : (xs : List Argument) (i : ℕ) (x : Argument) (t : ℕ) → 4 * nodes_of (arguments_in xs) + 2 ≡ t → i < length xs → x ≡ get_or xs i x → 4 * nodes_of (argument_before x NoMore) + 1 < t
argument_falls xs i x t d h e =
    let f : nodes_of (arguments_in (drop i xs)) ≡ nodes_of (argument_before x NoMore) + nodes_of (arguments_in (drop (i + 1) xs)) =
    ap (λ (z : List Argument). nodes_of (arguments_in z)) (drop_next xs i x h e) ∙ before_nodes x (arguments_in (drop (i + 1) xs))
    in
    let g = row_drop xs i in omega (arith, d, f, g)

-- statements

pub all_falls : (s : Code) (all items : List Statement) (t : ℕ) → 8 * code_nodes s ≡ t → s ≡ Block (all_in items) → all ≡ items → 8 * code_nodes (all_in all) + 1 < t
all_falls s all items t m e i =
    let g : code_nodes s ≡ 1 + code_nodes (all_in items) = ap code_nodes e in let j = ap (λ (z : List Statement). code_nodes (all_in z)) i in omega (arith, m, g, j)

list_drop : (xs : List Statement) (i : ℕ) → code_nodes (all_in (drop i xs)) ≤ code_nodes (all_in xs)
list_drop xs zero = omega arith
list_drop [] (suc i) = omega arith
list_drop (y ∷ ys) (suc i) = let f = list_drop ys i in omega (arith, f)

pub one_falls : (xs : List Statement) (i : ℕ) (x : Statement) (t : ℕ) → 8 * code_nodes (all_in xs) + 1 ≡ t → i < length xs → x ≡ get_or xs i x → 8 * code_nodes (code_of x) < t
one_falls xs i x t d h e =
    let f : code_nodes (all_in (drop i xs)) ≡ code_nodes (code_of x) + code_nodes (all_in (drop (i + 1) xs)) = ap (λ (z : List Statement). code_nodes (all_in z)) (drop_next xs i x h e) in
    let g = list_drop xs i in omega (arith, d, f, g)
