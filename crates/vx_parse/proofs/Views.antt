-- The tree of a call and of a block.
use Rattle.std.proofs.Common.{◌≡◌, refl, ap, rules, Vec, Global}
use Rattle.vx_ast.specs.declared.syntax.Name.{Name}
use Rattle.vx_ast.specs.declared.syntax.Argument.{Argument}
use Rattle.vx_ast.specs.declared.syntax.Expression.{Row_of-Argument, end_of-Argument, more_of-Argument, items-the_row-Argument, the_lemmas, Call}
use Rattle.vx_ast.specs.declared.syntax.Statement.{Statement, Row_of-Statement, end_of-Statement, more_of-Statement, items-the_row-Statement, the_lemmas as statement_lemmas, Block}
use Rattle.vx_ast.specs.Syntax as syntax
use Rattle.vx_ast.specs.SyntaxView.{phrase_of, row_of, row_in, code_of, all_of, all_in}

pub rows_are : (n : _) (k : Row_of-Argument n) → row_of k ≡ row_in (items-the_row-Argument n k)
rows_are n end_of-Argument = refl
rows_are n (more_of-Argument at a rest) = ap (λ r. syntax.Then at (phrase_of a) r) (rows_are _ rest)

pub view-Call : (f : Name) (all : Vec Argument Global) → phrase_of (Call f all) ≡ syntax.Call f (row_in all.items)
view-Call f all = search (rules, the_lemmas, rows_are)

pub all_are : (n : _) (k : Row_of-Statement n) → all_of k ≡ all_in (items-the_row-Statement n k)
all_are n end_of-Statement = refl
all_are n (more_of-Statement a rest) = ap (λ r. syntax.Seq (code_of a) r) (all_are _ rest)

pub view-Block : (all : Vec Statement Global) → code_of (Block all) ≡ syntax.Block (all_in all.items)
view-Block all = search (rules, statement_lemmas, all_are)
