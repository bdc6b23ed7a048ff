-- A list of made parts with the tree of what is still to be made behind it.
use Rattle.std.specs.Prelude.{List, [], ◌∷◌}
use Rattle.vx_ast.specs.declared.tree.Expression.{Expression}
use Rattle.vx_ast.specs.declared.tree.Argument.{Argument}
use Rattle.vx_ast.specs.declared.tree.Statement.{Statement}
use Rattle.vx_ast.specs.declared.tree.Item.{Item}
use Rattle.vx_ast.specs.Tree.{Tree, Row, Code, Then, Seq}
use Rattle.vx_ast.specs.View.{tree_of, argument_before, code_of, item_of}

abbrev pub row_onto : List Expression → Tree Row → Tree Row
row_onto [] rest = rest
row_onto (e ∷ es) rest = Then (tree_of e) (row_onto es rest)

abbrev pub arguments_onto : List Argument → Tree Row → Tree Row
arguments_onto [] rest = rest
arguments_onto (x ∷ xs) rest = argument_before x (arguments_onto xs rest)

abbrev pub code_onto : List Statement → Code → Code
code_onto [] rest = rest
code_onto (s ∷ ss) rest = Seq (code_of s) (code_onto ss rest)

abbrev pub items_onto : List Item → Code → Code
items_onto [] rest = rest
items_onto (i ∷ is) rest = Seq (item_of i) (items_onto is rest)
