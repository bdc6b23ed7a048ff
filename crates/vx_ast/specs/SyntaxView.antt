-- A parsed source of the code as a tree without pointers.
use Rattle.std.specs.Prelude.{ℕ, ℤ, List, [], ◌∷◌, map, option_map, Option, Some, None}
use Rattle.vx_ast.specs.declared.syntax.Expression.{Expression, Row_of-Argument, end_of-Argument, more_of-Argument}
use Rattle.vx_ast.specs.declared.syntax.Expression.TheVariants.{Number, Name as ANameUsed, Element', Call', Unary', Binary', Both', Either', Choice'}
use Rattle.vx_ast.specs.declared.syntax.Argument.{Argument}
use Rattle.vx_ast.specs.declared.syntax.Target.{Target}
use Rattle.vx_ast.specs.declared.syntax.Simple.{Simple}
use Rattle.vx_ast.specs.declared.syntax.Simple.TheVariants.{Evaluate, Assign, Compound, Increase, Decrease}
use Rattle.vx_ast.specs.declared.syntax.Item.{Item}
use Rattle.vx_ast.specs.declared.syntax.Item.TheVariants.{Scalar, ScalarWith, Array}
use Rattle.vx_ast.specs.declared.syntax.First.{First}
use Rattle.vx_ast.specs.declared.syntax.First.TheVariants.{Nothing, Simple as FirstSimple, Items}
use Rattle.vx_ast.specs.declared.syntax.Statement.{Statement, Row_of-Statement, end_of-Statement, more_of-Statement}
use Rattle.vx_ast.specs.declared.syntax.Statement.TheVariants.{Empty, Block', Declaration, Simple as ASimple, Print, If', IfElse', While', DoWhile', For', Break, Continue, Return, ReturnValue}
use Rattle.vx_ast.specs.declared.syntax.Function.{Function}
use Rattle.vx_ast.specs.declared.syntax.Definition.{Definition}
use Rattle.vx_ast.specs.declared.syntax.Definition.TheVariants.{Scalar as DefinesScalar, Array as DefinesArray, Function as DefinesFunction}
use Rattle.vx_ast.specs.declared.syntax.Program.{Program}
use Rattle.vx_ast.specs.Syntax as syntax
use Rattle.vx_ast.specs.Syntax.{Phrase, Action, Code}
use Rattle.vx_ast.specs.Tree.{One, Row}

abbrev mutual
  pub phrase_of : Expression → Phrase One
  phrase_of (Number z) = syntax.Number z
  phrase_of (ANameUsed x) = syntax.Use x
  phrase_of (Element' a p i) = syntax.Element a (phrase_of i)
  phrase_of (Call' f shape row) = syntax.Call f (row_of row)
  phrase_of (Unary' operator p a) = syntax.Unary operator (phrase_of a)
  phrase_of (Binary' operator p a q b) = syntax.Binary operator (phrase_of a) (phrase_of b)
  phrase_of (Both' p a q b) = syntax.Both (phrase_of a) (phrase_of b)
  phrase_of (Either' p a q b) = syntax.Either (phrase_of a) (phrase_of b)
  phrase_of (Choice' p c q a r b) = syntax.Choice (phrase_of c) (phrase_of a) (phrase_of b)

  pub row_of : {m : _} → Row_of-Argument m → Phrase Row
  row_of end_of-Argument = syntax.NoMore
  row_of (more_of-Argument at a rest) = syntax.Then at (phrase_of a) (row_of rest)

-- the same of lists
abbrev pub row_in : List Argument → Phrase Row
row_in [] = syntax.NoMore
row_in (a ∷ rest) = syntax.Then a.place (phrase_of a.expression) (row_in rest)

abbrev pub target_of : Target → syntax.Target
target_of t = record { place = t.place; phrase = phrase_of t.expression }

abbrev pub action_of : Simple → Action
action_of (Evaluate e) = syntax.Evaluate (phrase_of e)
action_of (Assign t e) = syntax.Assign (target_of t) (phrase_of e)
action_of (Compound t operator e) = syntax.Compound (target_of t) operator (phrase_of e)
action_of (Increase t) = syntax.Increase (target_of t)
action_of (Decrease t) = syntax.Decrease (target_of t)

abbrev pub item_of : Item → Code
item_of (Scalar x) = syntax.Scalar x
item_of (ScalarWith x e) = syntax.ScalarWith x (phrase_of e)
item_of (Array a size) = syntax.Array a size

abbrev pub items_of : List Item → Code
items_of [] = syntax.Nothing
items_of (i ∷ is) = syntax.Seq (item_of i) (items_of is)

abbrev pub first_of : First → Code
first_of Nothing = syntax.Nothing
first_of (FirstSimple a) = syntax.Head (action_of a)
first_of (Items is) = items_of is.items

abbrev pub step_of : Option Simple → Code
step_of None = syntax.Nothing
step_of (Some a) = syntax.Head (action_of a)

abbrev mutual
  pub code_of : Statement → Code
  code_of Empty = syntax.Empty
  code_of (Block' shape all) = syntax.Block (all_of all)
  code_of (Declaration is) = items_of is.items
  code_of (ASimple a) = syntax.Simply (action_of a)
  code_of (Print at at_format format row) = syntax.Print at at_format format (row_in row.items)
  code_of (If' e p a) = syntax.If (phrase_of e) (code_of a)
  code_of (IfElse' e p a q b) = syntax.IfElse (phrase_of e) (code_of a) (code_of b)
  code_of (While' e p a) = syntax.While (phrase_of e) (code_of a)
  code_of (DoWhile' p a e) = syntax.DoWhile (code_of a) (phrase_of e)
  code_of (For' first test step p a) = syntax.For (first_of first) (option_map phrase_of test) (step_of step) (code_of a)
  code_of (Break at) = syntax.Break at
  code_of (Continue at) = syntax.Continue at
  code_of (Return at) = syntax.Return at
  code_of (ReturnValue at e) = syntax.ReturnValue at (phrase_of e)

  pub all_of : {m : _} → Row_of-Statement m → Code
  all_of end_of-Statement = syntax.Nothing
  all_of (more_of-Statement a rest) = syntax.Seq (code_of a) (all_of rest)

abbrev pub all_in : List Statement → Code
all_in [] = syntax.Nothing
all_in (s ∷ ss) = syntax.Seq (code_of s) (all_in ss)

abbrev pub function_of : Function → syntax.Function
function_of f = record { gives = f.gives; name = f.name; parameters = f.parameters; body = all_in f.body.items }

abbrev pub definition_of : Definition → syntax.Definition
definition_of (DefinesScalar x z) = syntax.GlobalScalar x z
definition_of (DefinesArray a size) = syntax.GlobalArray a size
definition_of (DefinesFunction f) = syntax.AFunction (function_of f)

abbrev pub program_of : Program → syntax.Program
program_of p = record { definitions = map definition_of p.definitions.items; end = p.end }
