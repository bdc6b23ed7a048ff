-- The tree of a block.
use Rattle.std.proofs.Common.{◌≡◌, refl, ap, rules, Vec, Global}
use Rattle.vx_ast.specs.declared.tree.Statement.{Statement, Row_of-Statement, end_of-Statement, more_of-Statement, items-the_row-Statement, the_lemmas, Block}
use Rattle.vx_ast.specs.Tree.{Block as Braces, Seq}
use Rattle.vx_ast.specs.View.{code_of, all_of, all_in}

all_are : (n : _) (k : Row_of-Statement n) → all_of k ≡ all_in (items-the_row-Statement n k)
all_are n end_of-Statement = refl
all_are n (more_of-Statement a rest) = ap (Seq (code_of a)) (all_are _ rest)

pub view-Block : (all : Vec Statement Global) → code_of (Block all) ≡ Braces (all_in all.items)
view-Block all = search (rules, the_lemmas, all_are)
