-- Lists of copies: the same trees one by one are the same tree.
use Rattle.std.proofs.Common.{◌≡◌, List, [], ◌∷◌, map, refl, ap, sym, ◌∙◌}
use Rattle.vx_ast.specs.declared.tree.Expression.{Expression}
use Rattle.vx_ast.specs.declared.tree.Argument.{Argument}
use Rattle.vx_ast.specs.declared.tree.Argument.TheVariants.{Number as ANumber, Array as AnArray}
use Rattle.vx_ast.specs.declared.tree.Statement.{Statement}
use Rattle.vx_ast.specs.declared.tree.Item.{Item}
use Rattle.vx_ast.specs.Tree.{Tree, One, Row, Code, Nothing, NoMore, Then, Hand, Seq}
use Rattle.vx_ast.specs.View.{tree_of, argument_before, arguments_in, row_in, code_of, all_in, item_of, items_of}

abbrev row_of_trees : List (Tree One) → Tree Row
row_of_trees [] = NoMore
row_of_trees (t ∷ ts) = Then t (row_of_trees ts)

-- a row before another one
abbrev onto : Tree Row → Tree Row → Tree Row
onto NoMore rest = rest
onto (Then a more) rest = Then a (onto more rest)
onto (Hand a more) rest = Hand a (onto more rest)

abbrev row_of_rows : List (Tree Row) → Tree Row
row_of_rows [] = NoMore
row_of_rows (r ∷ rs) = onto r (row_of_rows rs)

abbrev list_of_codes : List Code → Code
list_of_codes [] = Nothing
list_of_codes (c ∷ cs) = Seq c (list_of_codes cs)

row_by_trees : (xs : List Expression) → row_in xs ≡ row_of_trees (map tree_of xs)
row_by_trees [] = refl
row_by_trees (x ∷ xs) = ap (Then (tree_of x)) (row_by_trees xs)

before_is : (x : Argument) (rest : Tree Row) → argument_before x rest ≡ onto (argument_before x NoMore) rest
before_is (ANumber e) rest = refl
before_is (AnArray a) rest = refl

arguments_by_rows : (xs : List Argument) → arguments_in xs ≡ row_of_rows (map (λ x. argument_before x NoMore) xs)
arguments_by_rows [] = refl
arguments_by_rows (x ∷ xs) = before_is x (arguments_in xs) ∙ ap (onto (argument_before x NoMore)) (arguments_by_rows xs)

items_by_codes : (xs : List Item) → items_of xs ≡ list_of_codes (map item_of xs)
items_by_codes [] = refl
items_by_codes (x ∷ xs) = ap (Seq (item_of x)) (items_by_codes xs)

all_by_codes : (xs : List Statement) → all_in xs ≡ list_of_codes (map code_of xs)
all_by_codes [] = refl
all_by_codes (x ∷ xs) = ap (Seq (code_of x)) (all_by_codes xs)

pub same_row : (xs ys : List Expression) → map tree_of xs ≡ map tree_of ys → row_in xs ≡ row_in ys
same_row xs ys e = row_by_trees xs ∙ ap row_of_trees e ∙ sym (row_by_trees ys)

pub same_arguments : (xs ys : List Argument) → map (λ x. argument_before x NoMore) xs ≡ map (λ x. argument_before x NoMore) ys → arguments_in xs ≡ arguments_in ys
same_arguments xs ys e = arguments_by_rows xs ∙ ap row_of_rows e ∙ sym (arguments_by_rows ys)

pub same_items : (xs ys : List Item) → map item_of xs ≡ map item_of ys → items_of xs ≡ items_of ys
same_items xs ys e = items_by_codes xs ∙ ap list_of_codes e ∙ sym (items_by_codes ys)

pub same_all : (xs ys : List Statement) → map code_of xs ≡ map code_of ys → all_in xs ≡ all_in ys
same_all xs ys e = all_by_codes xs ∙ ap list_of_codes e ∙ sym (all_by_codes ys)
