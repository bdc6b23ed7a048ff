-- The trees of a call and of a block.
use Rattle.std.proofs.Common.{◌≡◌, ℕ, refl, ap, rules, Vec, Global}
use Rattle.vx_ast.specs.declared.tree.Expression.{Expression, Row_of-Argument, end_of-Argument, more_of-Argument, items-the_row-Argument, the_lemmas, Call}
use Rattle.vx_ast.specs.declared.tree.Argument.{Argument}
use Rattle.vx_ast.specs.declared.tree.Statement.{Statement, Row_of-Statement, end_of-Statement, more_of-Statement, items-the_row-Statement, the_lemmas as tree_statement_lemmas, Block}
use Rattle.vx_ast.specs.Tree as tree
use Rattle.vx_ast.specs.View as view

rows_are : (n : _) (k : Row_of-Argument n) → view.row_of k ≡ view.arguments_in (items-the_row-Argument n k)
rows_are n end_of-Argument = refl
rows_are n (more_of-Argument a rest) = ap (view.argument_before a) (rows_are _ rest)

pub call_view : (f : ℕ) (all : Vec Argument Global) → view.tree_of (Call f all) ≡ tree.Apply f (view.arguments_in all.items)
call_view f all = search (rules, the_lemmas, rows_are)

all_are : (n : _) (k : Row_of-Statement n) → view.all_of k ≡ view.all_in (items-the_row-Statement n k)
all_are n end_of-Statement = refl
all_are n (more_of-Statement a rest) = ap (tree.Seq (view.code_of a)) (all_are _ rest)

pub block_view : (all : Vec Statement Global) → view.code_of (Block all) ≡ tree.Block (view.all_in all.items)
block_view all = search (rules, tree_statement_lemmas, all_are)
