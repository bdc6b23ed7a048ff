-- The tree of a derivation, with its places, and how deep its constructs stand in each other.
use Rattle.std.specs.Prelude.{◌≡◌, ℕ, zero, suc, ◌+◌, ◌<◌, ℤ, ◌-ℤ◌, pos, max, Bool, true, false, if◌then◌else◌, Option, None, Some, List, [], ◌∷◌, ◌++◌}
use Rattle.vx_ast.specs.declared.token.Keyword.TheVariants as words
use Rattle.vx_ast.specs.declared.token.Mark.TheVariants as marks
use Rattle.vx_ast.specs.declared.token.TokenKind.{TokenKind}
use Rattle.vx_ast.specs.declared.token.TokenKind.TheVariants as kinds
use Rattle.vx_ast.specs.declared.token.Token.{Token}
use Rattle.vx_ast.specs.declared.tree.UnaryOperator.{UnaryOperator}
use Rattle.vx_ast.specs.declared.tree.UnaryOperator.TheVariants as unary
use Rattle.vx_ast.specs.declared.tree.BinaryOperator.{BinaryOperator}
use Rattle.vx_ast.specs.declared.tree.BinaryOperator.TheVariants as binary
use Rattle.vx_ast.specs.declared.tree.Gives.TheVariants as gives
use Rattle.vx_ast.specs.declared.tree.Takes.{Takes}
use Rattle.vx_ast.specs.declared.tree.Takes.TheVariants as takes
use Rattle.vx_ast.specs.declared.syntax.Place.{Place}
use Rattle.vx_ast.specs.declared.syntax.Name.{Name}
use Rattle.vx_ast.specs.declared.syntax.Size.{Size}
use Rattle.vx_ast.specs.declared.syntax.Parameter.{Parameter as AParameter}
use Rattle.vx_ast.specs.Tree.{One, Row}
use Rattle.vx_ast.specs.Syntax as syntax
use Rattle.vx_ast.specs.Phrases as phrases
use Rattle.vx_ast.specs.Phrases.{Phrase, Program, AfterName, GlobalValue, SignedNumber, MoreGlobals, Parameters, Parameter, ParameterBrackets, MoreParameters, Block, Items, Item, ItemValue, MoreItems, Statement, ElsePart, First, OptionalExpression, OptionalSimple, Print, Simple, SimpleRest, Expression, ChoiceRest, Level, LevelRest, Primary, NameRest, Arguments, MoreExpressions, A, Derivation, Leaf, Node, NoMore, Then, Begins}

-- what a token holds

abbrev pub place_of : Token → Place
place_of t = record { line = t.line; column = t.column }

abbrev pub bytes_of : TokenKind → List ℕ
bytes_of (kinds.Name name) = name
bytes_of (kinds.Text bytes) = bytes
bytes_of k = []

abbrev pub number_of : TokenKind → ℤ
number_of (kinds.Number z) = z
number_of k = pos 0

abbrev pub words_of : ℤ → ℕ
words_of (pos n) = n
words_of z = 0

abbrev pub name_of : Token → Name
name_of t = record { bytes = bytes_of t.kind; place = place_of t }

abbrev pub size_of : Token → Size
size_of t = record { words = words_of (number_of t.kind); place = place_of t }

abbrev pub unary_of : TokenKind → UnaryOperator
unary_of (kinds.Mark marks.Minus) = unary.Minus
unary_of (kinds.Mark marks.Plus) = unary.Plus
unary_of (kinds.Mark marks.Exclamation) = unary.Not
unary_of k = unary.Complement

-- the operator of a mark that has two operands and evaluates both, or of the assignment that is written with it
abbrev pub operator_of : TokenKind → Option BinaryOperator
operator_of (kinds.Mark marks.Star) = Some binary.Multiply
operator_of (kinds.Mark marks.Slash) = Some binary.Divide
operator_of (kinds.Mark marks.Percent) = Some binary.Remainder
operator_of (kinds.Mark marks.Plus) = Some binary.Add
operator_of (kinds.Mark marks.Minus) = Some binary.Subtract
operator_of (kinds.Mark marks.ShiftLeft) = Some binary.ShiftLeft
operator_of (kinds.Mark marks.ShiftRight) = Some binary.ShiftRight
operator_of (kinds.Mark marks.Less) = Some binary.Less
operator_of (kinds.Mark marks.LessEqual) = Some binary.LessEqual
operator_of (kinds.Mark marks.Greater) = Some binary.Greater
operator_of (kinds.Mark marks.GreaterEqual) = Some binary.GreaterEqual
operator_of (kinds.Mark marks.EqualEqual) = Some binary.Equal
operator_of (kinds.Mark marks.ExclamationEqual) = Some binary.NotEqual
operator_of (kinds.Mark marks.Ampersand) = Some binary.BitAnd
operator_of (kinds.Mark marks.Caret) = Some binary.BitXor
operator_of (kinds.Mark marks.Bar) = Some binary.BitOr
operator_of (kinds.Mark marks.PlusEqual) = Some binary.Add
operator_of (kinds.Mark marks.MinusEqual) = Some binary.Subtract
operator_of (kinds.Mark marks.StarEqual) = Some binary.Multiply
operator_of (kinds.Mark marks.SlashEqual) = Some binary.Divide
operator_of (kinds.Mark marks.PercentEqual) = Some binary.Remainder
operator_of (kinds.Mark marks.AmpersandEqual) = Some binary.BitAnd
operator_of (kinds.Mark marks.BarEqual) = Some binary.BitOr
operator_of (kinds.Mark marks.CaretEqual) = Some binary.BitXor
operator_of (kinds.Mark marks.ShiftLeftEqual) = Some binary.ShiftLeft
operator_of (kinds.Mark marks.ShiftRightEqual) = Some binary.ShiftRight
operator_of k = None

abbrev pub binary_by : Option BinaryOperator → (left right : syntax.Phrase One) → syntax.Phrase One
binary_by (Some operator) left right = syntax.Binary operator left right
binary_by None left right = left

-- an operator between two expressions
abbrev pub joined : TokenKind → (left right : syntax.Phrase One) → syntax.Phrase One
joined (kinds.Mark marks.AmpersandAmpersand) left right = syntax.Both left right
joined (kinds.Mark marks.BarBar) left right = syntax.Either left right
joined k left right = binary_by (operator_of k) left right

-- where the first token stands
unfoldable pub first_place : Derivation One → Place
first_place (Leaf t) = place_of t
first_place (Node p (Then d more)) = first_place d
first_place (Node p NoMore) = record { line = 0; column = 0 }

-- expressions; operators of one strength take what stands before them as their left operand
unfoldable mutual
  pub expression_of : Derivation One → syntax.Phrase One
  expression_of (Node Expression (Then left (Then rest NoMore))) = behind (expression_of left) rest
  expression_of (Node (Level (suc n)) (Then left (Then rest NoMore))) = behind (expression_of left) rest
  expression_of (Node (Level zero) (Then (Leaf mark) (Then operand NoMore))) = syntax.Unary (unary_of mark.kind) (expression_of operand)
  expression_of (Node (Level zero) (Then primary NoMore)) = expression_of primary
  expression_of (Node Primary (Then (Leaf number) NoMore)) = syntax.Number (number_of number.kind)
  expression_of (Node Primary (Then (Leaf name) (Then rest NoMore))) = named name rest
  expression_of (Node Primary (Then opening (Then inner (Then closing NoMore)))) = expression_of inner
  expression_of d = syntax.Number (pos 0)

  -- with this expression before it
  pub behind : syntax.Phrase One → Derivation One → syntax.Phrase One
  behind left (Node (LevelRest n) (Then (Leaf mark) (Then right (Then rest NoMore)))) = behind (joined mark.kind left (expression_of right)) rest
  behind test (Node ChoiceRest (Then question (Then chosen (Then colon (Then other NoMore))))) = syntax.Choice test (expression_of chosen) (expression_of other)
  behind left d = left

  pub named : Token → Derivation One → syntax.Phrase One
  named name (Node NameRest (Then opening (Then (Node Arguments row) (Then closing NoMore)))) = syntax.Call (name_of name) (arguments_in row)
  named name (Node NameRest (Then opening (Then index (Then closing NoMore)))) = syntax.Element (name_of name) (expression_of index)
  named name d = syntax.Use (name_of name)

  pub arguments_of : Derivation One → syntax.Phrase Row
  arguments_of (Node p row) = arguments_in row
  arguments_of (Leaf t) = syntax.NoMore

  -- an expression and those behind it, with a comma before it or without one
  pub arguments_in : Derivation Row → syntax.Phrase Row
  arguments_in (Then first (Then more NoMore)) = syntax.Then (first_place first) (expression_of first) (arguments_of more)
  arguments_in (Then comma (Then next (Then more NoMore))) = syntax.Then (first_place next) (expression_of next) (arguments_of more)
  arguments_in row = syntax.NoMore

abbrev pub target_of : Derivation One → syntax.Target
target_of d = record { place = first_place d; phrase = expression_of d }

-- `++` and `--`
abbrev pub stepped : TokenKind → syntax.Target → syntax.Action
stepped (kinds.Mark marks.PlusPlus) target = syntax.Increase target
stepped k target = syntax.Decrease target

abbrev pub assigned_by : Option BinaryOperator → syntax.Target → syntax.Phrase One → syntax.Action
assigned_by (Some operator) target value = syntax.Compound target operator value
assigned_by None target value = syntax.Assign target value

-- `=`, or an operator and `=`
abbrev pub assigned : TokenKind → syntax.Target → syntax.Phrase One → syntax.Action
assigned k target value = assigned_by (operator_of k) target value

-- what is done to an expression by what stands behind it
abbrev pub done_to : Derivation One → Derivation Row → syntax.Action
done_to e (Then (Leaf mark) NoMore) = stepped mark.kind (target_of e)
done_to e (Then (Leaf mark) (Then value NoMore)) = assigned mark.kind (target_of e) (expression_of value)
done_to e row = syntax.Evaluate (expression_of e)

unfoldable pub action_of : Derivation One → syntax.Action
action_of (Node Simple (Then (Leaf mark) (Then target NoMore))) = stepped mark.kind (target_of target)
action_of (Node Simple (Then e (Then (Node SimpleRest row) NoMore))) = done_to e row
action_of d = syntax.Evaluate (expression_of d)

-- declarations

abbrev pub valued : Token → Derivation Row → syntax.Code
valued name (Then equal (Then value NoMore)) = syntax.ScalarWith (name_of name) (expression_of value)
valued name (Then opening (Then (Leaf number) (Then closing NoMore))) = syntax.Array (name_of name) (size_of number)
valued name row = syntax.Scalar (name_of name)

unfoldable pub item_of : Derivation One → syntax.Code
item_of (Node Item (Then (Leaf name) (Then (Node ItemValue row) NoMore))) = valued name row
item_of d = syntax.Nothing

unfoldable pub more_items_of : Derivation One → syntax.Code
more_items_of (Node MoreItems (Then comma (Then item (Then more NoMore)))) = syntax.Seq (item_of item) (more_items_of more)
more_items_of d = syntax.Nothing

-- the first item and those behind it
abbrev pub items_of : (item more : Derivation One) → syntax.Code
items_of item more = syntax.Seq (item_of item) (more_items_of more)

-- statements

unfoldable pub print_of : Derivation One → syntax.Code
print_of (Node Print (Then (Leaf name) (Then opening (Then (Leaf format) (Then arguments (Then closing NoMore)))))) =
    syntax.Print (place_of name) (place_of format) (bytes_of format.kind) (arguments_of arguments)
print_of d = syntax.Nothing

unfoldable pub first_of : Derivation One → syntax.Code
first_of (Node First (Then simple NoMore)) = syntax.Head (action_of simple)
first_of (Node First (Then int (Then item (Then more NoMore)))) = items_of item more
first_of d = syntax.Nothing

unfoldable pub step_of : Derivation One → syntax.Code
step_of (Node OptionalSimple (Then simple NoMore)) = syntax.Head (action_of simple)
step_of d = syntax.Nothing

unfoldable pub test_of : Derivation One → Option (syntax.Phrase One)
test_of (Node OptionalExpression (Then e NoMore)) = Some (expression_of e)
test_of d = None

abbrev pub left_by : TokenKind → Place → syntax.Code
left_by (kinds.Keyword words.Break) place = syntax.Break place
left_by k place = syntax.Continue place

abbrev pub returned : Place → Option (syntax.Phrase One) → syntax.Code
returned place None = syntax.Return place
returned place (Some value) = syntax.ReturnValue place value

unfoldable mutual
  pub code_of : Derivation One → syntax.Code
  code_of (Node Statement row) = statement_of row
  code_of d = syntax.Nothing

  pub statement_of : Derivation Row → syntax.Code
  statement_of (Then (Leaf semicolon) NoMore) = syntax.Empty
  statement_of (Then (Leaf word) (Then (Leaf semicolon) NoMore)) = left_by word.kind (place_of word)
  statement_of (Then (Leaf word) (Then value (Then semicolon NoMore))) = returned (place_of word) (test_of value)
  statement_of (Then (Leaf word) (Then opening (Then test (Then closing (Then body NoMore))))) = syntax.While (expression_of test) (code_of body)
  statement_of (Then (Leaf word) (Then opening (Then test (Then closing (Then body (Then others NoMore)))))) = if_of (expression_of test) (code_of body) others
  statement_of (Then (Leaf word) (Then body (Then while (Then opening (Then test (Then closing (Then semicolon NoMore))))))) =
      syntax.DoWhile (code_of body) (expression_of test)
  statement_of (Then (Leaf word) (Then opening (Then first (Then one (Then test (Then two (Then step (Then closing (Then body NoMore))))))))) =
      syntax.For (first_of first) (test_of test) (step_of step) (code_of body)
  statement_of (Then (Node Block row) NoMore) = syntax.Block (body_of row)
  statement_of (Then (Node Simple row) more) = syntax.Simply (action_of (Node Simple row))
  statement_of (Then (Node Print row) more) = print_of (Node Print row)
  statement_of row = syntax.Nothing

  -- with its test and what is done where it holds
  pub if_of : syntax.Phrase One → syntax.Code → Derivation One → syntax.Code
  if_of test chosen (Node ElsePart (Then word (Then other NoMore))) = syntax.IfElse test chosen (code_of other)
  if_of test chosen d = syntax.If test chosen

  pub block_of : Derivation One → syntax.Code
  block_of (Node Block row) = body_of row
  block_of d = syntax.Nothing

  pub body_of : Derivation Row → syntax.Code
  body_of (Then opening (Then items (Then closing NoMore))) = all_of items
  body_of row = syntax.Nothing

  -- declarations and statements
  pub all_of : Derivation One → syntax.Code
  all_of (Node Items (Then statement (Then more NoMore))) = syntax.Seq (code_of statement) (all_of more)
  all_of (Node Items (Then int (Then item (Then items (Then semicolon (Then more NoMore)))))) = syntax.Seq (items_of item items) (all_of more)
  all_of d = syntax.Nothing

-- what stands outside of functions

abbrev pub signed_of : Derivation One → ℤ
signed_of (Node SignedNumber (Then (Leaf number) NoMore)) = number_of number.kind
signed_of (Node SignedNumber (Then minus (Then (Leaf number) NoMore))) = pos 0 -ℤ number_of number.kind
signed_of d = pos 0

unfoldable pub global_of : Token → Derivation One → syntax.Definition
global_of name (Node GlobalValue (Then equal (Then number NoMore))) = syntax.GlobalScalar (name_of name) (signed_of number)
global_of name (Node GlobalValue (Then opening (Then (Leaf number) (Then closing NoMore)))) = syntax.GlobalArray (name_of name) (size_of number)
global_of name d = syntax.GlobalScalar (name_of name) (pos 0)

unfoldable pub more_globals_of : Derivation One → List syntax.Definition
more_globals_of (Node MoreGlobals (Then comma (Then (Leaf name) (Then value (Then more NoMore))))) = global_of name value ∷ more_globals_of more
more_globals_of d = []

-- what a parameter takes with this behind its name
abbrev pub takes_of : Derivation One → Takes
takes_of (Node ParameterBrackets (Then opening (Then closing NoMore))) = takes.Array
takes_of d = takes.Number

abbrev pub parameter_of : Derivation One → List AParameter
parameter_of (Node Parameter (Then int (Then (Leaf name) (Then brackets NoMore)))) = (record { name = name_of name; takes = takes_of brackets }) ∷ []
parameter_of d = []

unfoldable pub parameters_of : Derivation One → List AParameter
parameters_of (Node Parameters (Then first (Then more NoMore))) = parameter_of first ++ parameters_of more
parameters_of (Node MoreParameters (Then comma (Then next (Then more NoMore)))) = parameter_of next ++ parameters_of more
parameters_of d = []

unfoldable pub after_name_of : Token → Derivation One → List syntax.Definition
after_name_of name (Node AfterName (Then opening (Then parameters (Then closing (Then block NoMore))))) =
    syntax.AFunction (record { gives = gives.Int; name = name_of name; parameters = parameters_of parameters; body = block_of block }) ∷ []
after_name_of name (Node AfterName (Then value (Then more (Then semicolon NoMore)))) = global_of name value ∷ more_globals_of more
after_name_of name d = []

unfoldable pub definitions_of : Derivation One → List syntax.Definition
definitions_of (Node Program (Then int (Then (Leaf name) (Then after (Then rest NoMore))))) = after_name_of name after ++ definitions_of rest
definitions_of (Node Program (Then void (Then (Leaf name) (Then opening (Then parameters (Then closing (Then block (Then rest NoMore)))))))) =
    syntax.AFunction (record { gives = gives.Nothing; name = name_of name; parameters = parameters_of parameters; body = block_of block }) ∷ definitions_of rest
definitions_of d = []

-- with the end token
abbrev pub program_of : Derivation Row → Token → syntax.Program
program_of (Then program NoMore) end = record { definitions = definitions_of program; end = place_of end }
program_of row end = record { definitions = []; end = place_of end }

-- how deep constructs stand in each other, counted as far as their own tokens are there

unfoldable mutual
  pub is_begun : Derivation One → Bool
  is_begun (Leaf t) = true
  is_begun (Node p row) = are_begun row

  pub are_begun : Derivation Row → Bool
  are_begun NoMore = false
  are_begun (Then d row) = if is_begun d then true else are_begun row

abbrev pub opens : TokenKind → ℕ
opens (kinds.Mark marks.OpenParenthesis) = 1
opens k = 0

-- 1 where the phrase itself is a construct: the body of a function, a statement, which as a block counts once, an operator
-- with one operand, an element, a call, an expression in parentheses
abbrev pub itself : Phrase → Derivation Row → ℕ
itself Block (Then (Leaf t) row) = 1
itself (Level zero) (Then (Leaf t) row) = 1
itself NameRest (Then (Leaf t) row) = 1
itself Primary (Then (Leaf t) row) = opens t.kind
itself Statement (Then (Node Block d) row) = 0
itself Statement row = if are_begun row then 1 else 0
itself p row = 0

-- the depth of a phrase, and the depth of what stands before it where it takes that as its left operand or stands beside it
unfoldable mutual
  pub depth_behind : (left : ℕ) → Derivation One → ℕ
  depth_behind left (Leaf t) = left
  depth_behind left (Node (LevelRest n) row) = operator_depth left row
  depth_behind left (Node ChoiceRest row) = choice_depth left row
  depth_behind left (Node p row) = max left (itself p row + row_depth 0 row)

  pub row_depth : (left : ℕ) → Derivation Row → ℕ
  row_depth left NoMore = left
  row_depth left (Then d row) = row_depth (depth_behind left d) row

  -- an operator, its right operand, and the operators behind it
  pub operator_depth : (left : ℕ) → Derivation Row → ℕ
  operator_depth left (Then (Leaf mark) NoMore) = suc left
  operator_depth left (Then (Leaf mark) (Then right row)) = row_depth (suc (max left (depth_behind 0 right))) row
  operator_depth left row = left

  -- `?` and what stands behind it
  pub choice_depth : (left : ℕ) → Derivation Row → ℕ
  choice_depth left (Then (Leaf mark) row) = suc (max left (row_depth 0 row))
  choice_depth left row = left

abbrev pub depth_of : Derivation Row → ℕ
depth_of row = row_depth 0 row

-- the tokens up to some token have a construct of depth 201, and up to there they begin a program
pub record TooDeep (ts : List Token) : Type 0 where
  pub derivation : Derivation Row
  pub rest : List Token
  pub begins : Begins (A Program ∷ []) ts derivation rest
  pub deep : 200 < depth_of derivation
