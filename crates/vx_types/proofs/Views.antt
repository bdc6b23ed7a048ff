-- The written trees of a call and of a block, and the trees of lists that are made item by item.
use Rattle.std.proofs.Common.{◌≡◌, List, [], ◌∷◌, ◌++◌, refl, ap, rules, Vec, Global}
use Rattle.vx_ast.specs.declared.syntax.Name.{Name}
use Rattle.vx_ast.specs.declared.syntax.Expression.{Row_of-Argument as RowWritten, end_of-Argument as end_written, more_of-Argument as more_written, items-the_row-Argument as items_written, the_lemmas as written_lemmas, Call as CallWritten}
use Rattle.vx_ast.specs.declared.syntax.Argument.{Argument as Written}
use Rattle.vx_ast.specs.declared.syntax.Statement.{Statement as WrittenStatement, Row_of-Statement as RowWrittenStatement, end_of-Statement as end_statement, more_of-Statement as more_statement, items-the_row-Statement as items_statement, the_lemmas as statement_lemmas, Block as BlockWritten}
use Rattle.vx_ast.specs.declared.tree.Expression.{Expression}
use Rattle.vx_ast.specs.declared.tree.Argument.{Argument}
use Rattle.vx_ast.specs.declared.tree.Statement.{Statement}
use Rattle.vx_ast.specs.declared.tree.Item.{Item}
use Rattle.vx_ast.specs.Syntax as syntax
use Rattle.vx_ast.specs.SyntaxView as written
use Rattle.vx_ast.specs.Tree as tree
use Rattle.vx_ast.specs.Tree.{Tree, Row, Code}
use Rattle.vx_ast.specs.View as view
use Rattle.vx_types.specs.Onto.{row_onto, arguments_onto, code_onto, items_onto}

rows_written : (n : _) (k : RowWritten n) → written.row_of k ≡ written.row_in (items_written n k)
rows_written n end_written = refl
rows_written n (more_written at a rest) = ap (syntax.Then at (written.phrase_of a)) (rows_written _ rest)

pub call_written : (f : Name) (all : Vec Written Global) → written.phrase_of (CallWritten f all) ≡ syntax.Call f (written.row_in all.items)
call_written f all = search (rules, written_lemmas, rows_written)

all_written : (n : _) (k : RowWrittenStatement n) → written.all_of k ≡ written.all_in (items_statement n k)
all_written n end_statement = refl
all_written n (more_statement a rest) = ap (syntax.Seq (written.code_of a)) (all_written _ rest)

pub block_written : (all : Vec WrittenStatement Global) → written.code_of (BlockWritten all) ≡ syntax.Block (written.all_in all.items)
block_written all = search (rules, statement_lemmas, all_written)

-- what is made so far, and what is still to be made

pub row_onto_push : (done : List Expression) (e : Expression) (rest : Tree Row) → row_onto (done ++ e ∷ []) rest ≡ row_onto done (tree.Then (view.tree_of e) rest)
row_onto_push [] e rest = refl
row_onto_push (d ∷ done) e rest = ap (tree.Then (view.tree_of d)) (row_onto_push done e rest)

pub row_onto_end : (done : List Expression) → row_onto done tree.NoMore ≡ view.row_in done
row_onto_end [] = refl
row_onto_end (d ∷ done) = ap (tree.Then (view.tree_of d)) (row_onto_end done)

pub arguments_onto_push : (done : List Argument) (x : Argument) (rest : Tree Row) → arguments_onto (done ++ x ∷ []) rest ≡ arguments_onto done (view.argument_before x rest)
arguments_onto_push [] x rest = refl
arguments_onto_push (d ∷ done) x rest = ap (view.argument_before d) (arguments_onto_push done x rest)

pub arguments_onto_end : (done : List Argument) → arguments_onto done tree.NoMore ≡ view.arguments_in done
arguments_onto_end [] = refl
arguments_onto_end (d ∷ done) = ap (view.argument_before d) (arguments_onto_end done)

pub code_onto_push : (done : List Statement) (s : Statement) (rest : Code) → code_onto (done ++ s ∷ []) rest ≡ code_onto done (tree.Seq (view.code_of s) rest)
code_onto_push [] s rest = refl
code_onto_push (d ∷ done) s rest = ap (tree.Seq (view.code_of d)) (code_onto_push done s rest)

pub code_onto_end : (done : List Statement) → code_onto done tree.Nothing ≡ view.all_in done
code_onto_end [] = refl
code_onto_end (d ∷ done) = ap (tree.Seq (view.code_of d)) (code_onto_end done)

pub items_onto_push : (done : List Item) (i : Item) (rest : Code) → items_onto (done ++ i ∷ []) rest ≡ items_onto done (tree.Seq (view.item_of i) rest)
items_onto_push [] i rest = refl
items_onto_push (d ∷ done) i rest = ap (tree.Seq (view.item_of d)) (items_onto_push done i rest)

pub items_onto_end : (done : List Item) → items_onto done tree.Nothing ≡ view.items_of done
items_onto_end [] = refl
items_onto_end (d ∷ done) = ap (tree.Seq (view.item_of d)) (items_onto_end done)
