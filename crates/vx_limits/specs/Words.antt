-- Numbers of 32 bits in a program. The code has no others.
use Rattle.std.specs.Prelude.{ℕ, Bool, true, ◌&&◌, Option, Some, None}
use Rattle.std.specs.List.{list_all}
use Rattle.vx_ast.specs.declared.tree.GlobalVariable.{GlobalVariable}
use Rattle.vx_ast.specs.declared.tree.GlobalVariable.TheVariants.{Scalar as ScalarGlobal, Array as ArrayGlobal}
use Rattle.vx_ast.specs.declared.tree.Argument.{Argument}
use Rattle.vx_ast.specs.declared.tree.Argument.TheVariants.{Number as ANumber, Array as AnArray}
use Rattle.vx_ast.specs.Tree.{Shape, One, Tree, Literal, Local, Global, Element, Unary, Binary, Both, Either, Choice, Apply, ReadInt, MoreInput, NoMore, Then, Hand, Place, InLocal, InGlobal, InElement, Action, Evaluate, Assign, Compound, Increase, Decrease, Code, Nothing, Seq, Empty, Block, Clear, Declare, ClearArray, Simply, Head, Print, If, IfElse, While, DoWhile, For, Break, Continue, Return, ReturnValue, Function, Program}
use Rattle.vx_ast.specs.Accepted.{is_word, nodes_of}
use Rattle.vx_ast.specs.View.{tree_of}

abbrev pub tree_words : {k : Shape} → Tree k → Bool
tree_words (Literal z) = is_word z
tree_words (Local x) = true
tree_words (Global a) = true
tree_words (Element a i) = tree_words i
tree_words (Unary operator a) = tree_words a
tree_words (Binary operator a b) = tree_words a && tree_words b
tree_words (Both a b) = tree_words a && tree_words b
tree_words (Either a b) = tree_words a && tree_words b
tree_words (Choice c a b) = tree_words c && (tree_words a && tree_words b)
tree_words (Apply f row) = tree_words row
tree_words ReadInt = true
tree_words MoreInput = true
tree_words NoMore = true
tree_words (Then a rest) = tree_words a && tree_words rest
tree_words (Hand a rest) = tree_words rest

-- an argument, and how many nodes it has
abbrev pub argument_words : Argument → Bool
argument_words (ANumber e) = tree_words (tree_of e)
argument_words (AnArray a) = true

abbrev pub argument_nodes : Argument → ℕ
argument_nodes (ANumber e) = nodes_of (tree_of e)
argument_nodes (AnArray a) = 1

abbrev pub place_words : Place → Bool
place_words (InLocal x) = true
place_words (InGlobal a) = true
place_words (InElement a i) = tree_words i

abbrev pub action_words : Action → Bool
action_words (Evaluate e) = tree_words e
action_words (Assign t e) = place_words t && tree_words e
action_words (Compound t operator e) = place_words t && tree_words e
action_words (Increase t) = place_words t
action_words (Decrease t) = place_words t

abbrev pub test_words : Option (Tree One) → Bool
test_words None = true
test_words (Some e) = tree_words e

abbrev pub code_words : Code → Bool
code_words Nothing = true
code_words (Seq a b) = code_words a && code_words b
code_words Empty = true
code_words (Block a) = code_words a
code_words (Clear x) = true
code_words (Declare x e) = tree_words e
code_words (ClearArray a) = true
code_words (Simply a) = action_words a
code_words (Head a) = action_words a
code_words (Print format row) = tree_words row
code_words (If e a) = tree_words e && code_words a
code_words (IfElse e a b) = tree_words e && (code_words a && code_words b)
code_words (While e a) = tree_words e && code_words a
code_words (DoWhile a e) = tree_words e && code_words a
code_words (For first test step a) = code_words first && (test_words test && (code_words step && code_words a))
code_words Break = true
code_words Continue = true
code_words Return = true
code_words (ReturnValue e) = tree_words e

abbrev pub function_words : Function → Bool
function_words f = code_words f.body

abbrev pub global_words : GlobalVariable → Bool
global_words (ScalarGlobal z) = is_word z
global_words (ArrayGlobal n) = true

abbrev pub program_words : Program → Bool
program_words p = list_all function_words p.functions && list_all global_words p.globals
