-- The program that a parsed source is, each name with its declaration. What stands for a name that its place cannot
-- take, which is a fault, does not matter.
use Rattle.std.specs.Prelude.{ℕ, ◌+◌, pos, if◌then◌else◌, List, [], ◌∷◌, length, Option, Some, None}
use Rattle.vx_ast.specs.declared.tree.Takes.{Takes}
use Rattle.vx_ast.specs.declared.tree.Takes.TheVariants.{Number as TakesNumber, Array as TakesArray}
use Rattle.vx_ast.specs.declared.names.Named.{Named}
use Rattle.vx_ast.specs.declared.names.Named.TheVariants.{Scalar as AScalar, Global as AGlobal, Array as AnArray, Function as AFunctionNamed, ReadInt as Reads, MoreInput as AsksMore, Print as Prints}
use Rattle.vx_ast.specs.Tree as tree
use Rattle.vx_ast.specs.Tree.{One, Row, Tree, Place}
use Rattle.vx_ast.specs.Syntax.{Phrase, Number, Use, Element, Call, Unary, Binary, Both, Either, Choice, NoMore, Then, Action, Evaluate, Assign, Compound, Increase, Decrease, Code, Nothing, Seq, Empty, Block, Scalar, ScalarWith, Array, Simply, Head, Print, If, IfElse, While, DoWhile, For, Break, Continue, Return, ReturnValue, Function, Definition, GlobalScalar, GlobalArray, AFunction, Program}
use Rattle.vx_ast.specs.Scopes.{Environment, named, wanted_by, takes_of, with_parameters, inside, outside, behind, globals_of, at_function}
use Rattle.vx_ast.specs.Accepted.{numbers_among}
use Rattle.vx_ast.specs.Faults.{is_main}

abbrev pub number_named : Option Named → Tree One
number_named None = tree.Literal (pos 0)
number_named (Some (AScalar n)) = tree.Local n
number_named (Some (AGlobal a)) = tree.Global a
number_named (Some (AnArray a)) = tree.Literal (pos 0)
number_named (Some (AFunctionNamed f gives count)) = tree.Literal (pos 0)
number_named (Some Reads) = tree.Literal (pos 0)
number_named (Some AsksMore) = tree.Literal (pos 0)
number_named (Some Prints) = tree.Literal (pos 0)

abbrev pub array_named : Option Named → ℕ
array_named None = 0
array_named (Some (AScalar n)) = 0
array_named (Some (AGlobal a)) = 0
array_named (Some (AnArray a)) = a
array_named (Some (AFunctionNamed f gives count)) = 0
array_named (Some Reads) = 0
array_named (Some AsksMore) = 0
array_named (Some Prints) = 0

abbrev pub call_named : Option Named → Tree Row → Tree One
call_named None row = tree.Literal (pos 0)
call_named (Some (AScalar n)) row = tree.Literal (pos 0)
call_named (Some (AGlobal a)) row = tree.Literal (pos 0)
call_named (Some (AnArray a)) row = tree.Literal (pos 0)
call_named (Some (AFunctionNamed f gives count)) row = tree.Apply f row
call_named (Some Reads) row = tree.ReadInt
call_named (Some AsksMore) row = tree.MoreInput
call_named (Some Prints) row = tree.Literal (pos 0)

abbrev pub place_named : Option Named → Place
place_named None = tree.InLocal 0
place_named (Some (AScalar n)) = tree.InLocal n
place_named (Some (AGlobal a)) = tree.InGlobal a
place_named (Some (AnArray a)) = tree.InLocal 0
place_named (Some (AFunctionNamed f gives count)) = tree.InLocal 0
place_named (Some Reads) = tree.InLocal 0
place_named (Some AsksMore) = tree.InLocal 0
place_named (Some Prints) = tree.InLocal 0

-- the array that an argument names
abbrev pub array_in : Environment → Phrase One → ℕ
array_in env (Use x) = array_named (named x.bytes env)
array_in env e = 0

-- expressions, where this is known
abbrev mutual
  pub tree_in : Environment → Phrase One → Tree One
  tree_in env (Number z) = tree.Literal z
  tree_in env (Use x) = number_named (named x.bytes env)
  tree_in env (Element a i) = tree.Element (array_named (named a.bytes env)) (tree_in env i)
  tree_in env (Call f row) = call_named (named f.bytes env) (row_in env (wanted_by env (named f.bytes env)) row)
  tree_in env (Unary operator a) = tree.Unary operator (tree_in env a)
  tree_in env (Binary operator a b) = tree.Binary operator (tree_in env a) (tree_in env b)
  tree_in env (Both a b) = tree.Both (tree_in env a) (tree_in env b)
  tree_in env (Either a b) = tree.Either (tree_in env a) (tree_in env b)
  tree_in env (Choice c a b) = tree.Choice (tree_in env c) (tree_in env a) (tree_in env b)

  -- arguments, where this is taken: each one behind the last parameter is a number
  pub row_in : Environment → List Takes → Phrase Row → Tree Row
  row_in env takes NoMore = tree.NoMore
  row_in env [] (Then place a rest) = tree.Then (tree_in env a) (row_in env [] rest)
  row_in env (TakesNumber ∷ takes) (Then place a rest) = tree.Then (tree_in env a) (row_in env takes rest)
  row_in env (TakesArray ∷ takes) (Then place a rest) = tree.Hand (array_in env a) (row_in env takes rest)

abbrev pub target_in : Environment → Phrase One → Place
target_in env (Use x) = place_named (named x.bytes env)
target_in env (Element a i) = tree.InElement (array_named (named a.bytes env)) (tree_in env i)
target_in env e = tree.InLocal 0

abbrev pub action_in : Environment → Action → tree.Action
action_in env (Evaluate e) = tree.Evaluate (tree_in env e)
action_in env (Assign t e) = tree.Assign (target_in env t.phrase) (tree_in env e)
action_in env (Compound t operator e) = tree.Compound (target_in env t.phrase) operator (tree_in env e)
action_in env (Increase t) = tree.Increase (target_in env t.phrase)
action_in env (Decrease t) = tree.Decrease (target_in env t.phrase)

abbrev pub test_in : Environment → Option (Phrase One) → Option (Tree One)
test_in env None = None
test_in env (Some e) = Some (tree_in env e)

-- statements
abbrev pub code_in : Environment → Code → tree.Code
code_in env Nothing = tree.Nothing
code_in env (Seq a b) = tree.Seq (code_in env a) (code_in (behind a env) b)
code_in env Empty = tree.Empty
code_in env (Block a) = tree.Block (code_in (inside env) a)
code_in env (Scalar x) = tree.Clear env.scalars
code_in env (ScalarWith x e) = tree.Declare env.scalars (tree_in env e)
code_in env (Array a size) = tree.ClearArray env.arrays
code_in env (Simply a) = tree.Simply (action_in env a)
code_in env (Head a) = tree.Head (action_in env a)
code_in env (Print at at_format format row) = tree.Print format (row_in env [] row)
code_in env (If e a) = tree.If (tree_in env e) (code_in (inside env) a)
code_in env (IfElse e a b) = tree.IfElse (tree_in env e) (code_in (inside env) a) (code_in (inside (outside env (behind a (inside env)))) b)
code_in env (While e a) = tree.While (tree_in env e) (code_in (inside env) a)
code_in env (DoWhile a e) = tree.DoWhile (code_in (inside env) a) (tree_in env e)
code_in env (For first test step a) =
    tree.For (code_in (inside env) first) (test_in (behind first (inside env)) test) (code_in (behind first (inside env)) step) (code_in (inside (behind first (inside env))) a)
code_in env (Break at) = tree.Break
code_in env (Continue at) = tree.Continue
code_in env (Return at) = tree.Return
code_in env (ReturnValue at e) = tree.ReturnValue (tree_in env e)

abbrev pub function_in : Environment → Function → tree.Function
function_in env f = record {
  name = f.name.bytes;
  gives = f.gives;
  parameters = numbers_among (takes_of f.parameters);
  takes = takes_of f.parameters;
  scalars = (behind f.body (with_parameters f.parameters env)).scalars;
  arrays = (behind f.body (with_parameters f.parameters env)).sizes;
  body = code_in (with_parameters f.parameters env) f.body;
}

-- the functions among definitions with so many above them
abbrev pub functions_from : Program → (above : ℕ) → List Definition → List tree.Function
functions_from p above [] = []
functions_from p above (GlobalScalar x z ∷ ds) = functions_from p (above + 1) ds
functions_from p above (GlobalArray x size ∷ ds) = functions_from p (above + 1) ds
functions_from p above (AFunction f ∷ ds) = function_in (at_function p above) f ∷ functions_from p (above + 1) ds

-- the number of the first `main`, which is n where the first definition is it
abbrev pub main_from : (n : ℕ) → List Definition → ℕ
main_from n [] = 0
main_from n (GlobalScalar x z ∷ ds) = main_from n ds
main_from n (GlobalArray x size ∷ ds) = main_from n ds
main_from n (AFunction f ∷ ds) = if is_main (AFunction f) then n else main_from (n + 1) ds

abbrev pub resolved : Program → tree.Program
resolved p = record {
  globals = globals_of p.definitions;
  functions = functions_from p 0 p.definitions;
  main = main_from 0 p.definitions;
}
