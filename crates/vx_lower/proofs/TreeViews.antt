-- The tree of a call.
use Rattle.std.proofs.Common.{◌≡◌, ℕ, refl, ap, rules, Vec, Global}
use Rattle.vx_ast.specs.declared.tree.Expression.{Row_of-Argument, end_of-Argument, more_of-Argument, items-the_row-Argument, the_lemmas, Call}
use Rattle.vx_ast.specs.declared.tree.Argument.{Argument}
use Rattle.vx_ast.specs.Tree.{Apply}
use Rattle.vx_ast.specs.View.{tree_of, row_of, argument_before, arguments_in}

pub rows_are : (n : _) (k : Row_of-Argument n) → row_of k ≡ arguments_in (items-the_row-Argument n k)
rows_are n end_of-Argument = refl
rows_are n (more_of-Argument a rest) = ap (argument_before a) (rows_are _ rest)

pub view-Call : (f : ℕ) (all : Vec Argument Global) → tree_of (Call f all) ≡ Apply f (arguments_in all.items)
view-Call f all = search (rules, the_lemmas, rows_are)
