-- A program of the code as a tree without pointers.
use Rattle.std.specs.Prelude.{ℕ, ℤ, List, [], ◌∷◌, map, option_map, Option, Some, None}
use Rattle.vx_ast.specs.declared.tree.Expression.{Expression, Row_of-Argument, end_of-Argument, more_of-Argument}
use Rattle.vx_ast.specs.declared.tree.Expression.TheVariants.{Number, Scalar, Global, Element', Unary', Binary', Both', Either', Choice', Call', ReadInt, MoreInput}
use Rattle.vx_ast.specs.declared.tree.Argument.{Argument}
use Rattle.vx_ast.specs.declared.tree.Argument.TheVariants.{Number as ANumber, Array as AnArray}
use Rattle.vx_ast.specs.declared.tree.Target.{Target}
use Rattle.vx_ast.specs.declared.tree.Target.TheVariants.{Scalar as ToScalar, Global as ToGlobal, Element as ToElement}
use Rattle.vx_ast.specs.declared.tree.Simple.{Simple}
use Rattle.vx_ast.specs.declared.tree.Simple.TheVariants.{Evaluate, Assign, Compound, Increase, Decrease}
use Rattle.vx_ast.specs.declared.tree.Item.{Item}
use Rattle.vx_ast.specs.declared.tree.Item.TheVariants.{Scalar as ClearScalar, ScalarWith, Array}
use Rattle.vx_ast.specs.declared.tree.First.{First}
use Rattle.vx_ast.specs.declared.tree.First.TheVariants.{Nothing, Simple as FirstSimple, Items}
use Rattle.vx_ast.specs.declared.tree.Statement.{Statement, Row_of-Statement, end_of-Statement, more_of-Statement}
use Rattle.vx_ast.specs.declared.tree.Statement.TheVariants.{Empty, Block', Declaration, Simple as ASimple, Print, If', IfElse', While', DoWhile', For', Break, Continue, Return, ReturnValue}
use Rattle.vx_ast.specs.declared.tree.Function.{Function}
use Rattle.vx_ast.specs.declared.tree.Program.{Program}
use Rattle.vx_ast.specs.Tree as tree
use Rattle.vx_ast.specs.Tree.{One, Row, Tree, Place, Action, Code}

abbrev mutual
  pub tree_of : Expression → Tree One
  tree_of (Number z) = tree.Literal z
  tree_of (Scalar x) = tree.Local x
  tree_of (Global a) = tree.Global a
  tree_of (Element' a p i) = tree.Element a (tree_of i)
  tree_of (Unary' operator p a) = tree.Unary operator (tree_of a)
  tree_of (Binary' operator p a q b) = tree.Binary operator (tree_of a) (tree_of b)
  tree_of (Both' p a q b) = tree.Both (tree_of a) (tree_of b)
  tree_of (Either' p a q b) = tree.Either (tree_of a) (tree_of b)
  tree_of (Choice' p c q a r b) = tree.Choice (tree_of c) (tree_of a) (tree_of b)
  tree_of (Call' f shape row) = tree.Apply f (row_of row)
  tree_of ReadInt = tree.ReadInt
  tree_of MoreInput = tree.MoreInput

  -- an argument before the others
  pub argument_before : Argument → Tree Row → Tree Row
  argument_before (ANumber e) rest = tree.Then (tree_of e) rest
  argument_before (AnArray a) rest = tree.Hand a rest

  pub row_of : {m : _} → Row_of-Argument m → Tree Row
  row_of end_of-Argument = tree.NoMore
  row_of (more_of-Argument a rest) = argument_before a (row_of rest)

-- the same of lists
abbrev pub arguments_in : List Argument → Tree Row
arguments_in [] = tree.NoMore
arguments_in (x ∷ xs) = argument_before x (arguments_in xs)

-- a row of numbers
abbrev pub row_in : List Expression → Tree Row
row_in [] = tree.NoMore
row_in (e ∷ es) = tree.Then (tree_of e) (row_in es)

abbrev pub place_of : Target → Place
place_of (ToScalar x) = tree.InLocal x
place_of (ToGlobal a) = tree.InGlobal a
place_of (ToElement a i) = tree.InElement a (tree_of i)

abbrev pub action_of : Simple → Action
action_of (Evaluate e) = tree.Evaluate (tree_of e)
action_of (Assign t e) = tree.Assign (place_of t) (tree_of e)
action_of (Compound t operator e) = tree.Compound (place_of t) operator (tree_of e)
action_of (Increase t) = tree.Increase (place_of t)
action_of (Decrease t) = tree.Decrease (place_of t)

abbrev pub item_of : Item → Code
item_of (ClearScalar x) = tree.Clear x
item_of (ScalarWith x e) = tree.Declare x (tree_of e)
item_of (Array a) = tree.ClearArray a

abbrev pub items_of : List Item → Code
items_of [] = tree.Nothing
items_of (i ∷ is) = tree.Seq (item_of i) (items_of is)

abbrev pub first_of : First → Code
first_of Nothing = tree.Nothing
first_of (FirstSimple a) = tree.Head (action_of a)
first_of (Items is) = items_of is.items

abbrev pub step_of : Option Simple → Code
step_of None = tree.Nothing
step_of (Some a) = tree.Head (action_of a)

abbrev mutual
  pub code_of : Statement → Code
  code_of Empty = tree.Empty
  code_of (Block' shape all) = tree.Block (all_of all)
  code_of (Declaration is) = items_of is.items
  code_of (ASimple a) = tree.Simply (action_of a)
  code_of (Print format row) = tree.Print format (row_in row.items)
  code_of (If' e p a) = tree.If (tree_of e) (code_of a)
  code_of (IfElse' e p a q b) = tree.IfElse (tree_of e) (code_of a) (code_of b)
  code_of (While' e p a) = tree.While (tree_of e) (code_of a)
  code_of (DoWhile' p a e) = tree.DoWhile (code_of a) (tree_of e)
  code_of (For' first test step p a) = tree.For (first_of first) (option_map tree_of test) (step_of step) (code_of a)
  code_of Break = tree.Break
  code_of Continue = tree.Continue
  code_of Return = tree.Return
  code_of (ReturnValue e) = tree.ReturnValue (tree_of e)

  pub all_of : {m : _} → Row_of-Statement m → Code
  all_of end_of-Statement = tree.Nothing
  all_of (more_of-Statement a rest) = tree.Seq (code_of a) (all_of rest)

abbrev pub all_in : List Statement → Code
all_in [] = tree.Nothing
all_in (s ∷ ss) = tree.Seq (code_of s) (all_in ss)

abbrev pub function_of : Function → tree.Function
function_of f = record {
  name = f.name;
  gives = f.gives;
  parameters = f.parameters;
  takes = f.takes;
  scalars = f.scalars;
  arrays = f.arrays;
  body = all_in f.body.items;
}

abbrev pub program_of : Program → tree.Program
program_of p = record { globals = p.globals; functions = map function_of p.functions.items; main = p.main }
