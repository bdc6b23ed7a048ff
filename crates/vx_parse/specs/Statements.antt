-- What the derivations of statements and declarations mean.
use Rattle.std.specs.Prelude.{◌≡◌, ℕ, ◌++◌, List, [], ◌∷◌, Option, Some, None, option_map}
use Rattle.vx_ast.specs.declared.syntax.Name.{Name}
use Rattle.vx_ast.specs.declared.syntax.Simple.{Simple}
use Rattle.vx_ast.specs.declared.syntax.Item.{Item}
use Rattle.vx_ast.specs.declared.syntax.Item.TheVariants as items
use Rattle.vx_ast.specs.declared.syntax.Expression.{Expression}
use Rattle.vx_ast.specs.declared.syntax.First.{First}
use Rattle.vx_ast.specs.declared.syntax.Statement.{Statement}
use Rattle.vx_ast.specs.declared.token.Mark.TheVariants as marks
use Rattle.vx_ast.specs.declared.token.Token.{Token}
use Rattle.vx_ast.specs.Tree.{One, Row}
use Rattle.vx_ast.specs.Syntax as syntax
use Rattle.vx_ast.specs.SyntaxView as view
use Rattle.vx_ast.specs.Phrases as phrases
use Rattle.vx_ast.specs.Phrases.{Phrase, MoreItems, OptionalExpression, OptionalSimple, Part, A, mark, Derivation, Leaf, Node, NoMore, Then}
use Rattle.vx_ast.specs.Derivations.{name_of, target_of, done_to, action_of, valued, item_of, more_items_of, items_of, expression_of, first_of, test_of, step_of, if_of, print_of, code_of, block_of, all_of}
use Rattle.vx_parse.specs.declared.simple.ItemsRead.{ItemsRead}
use Rattle.vx_parse.specs.declared.simple.Given.{Given}
use Rattle.vx_parse.specs.declared.simple.Given.TheVariants as givens
use Rattle.vx_parse.specs.declared.simple.GivenRead.{GivenRead}
use Rattle.vx_parse.specs.declared.statement.TestRead.{TestRead}
use Rattle.vx_parse.specs.declared.statement.HeadRead.{HeadRead}
use Rattle.vx_parse.specs.declared.statement.BodyRead.{BodyRead}
use Rattle.vx_parse.specs.declared.statement.PrintRead.{PrintRead}
use Rattle.vx_parse.specs.Reading.{Parted, IsPhrase}

abbrev pub MeansAction : Simple → Derivation One → Type 0
MeansAction simple d = action_of d ≡ view.action_of simple

-- what stands behind an expression
abbrev pub row_inside : Derivation One → Derivation Row
row_inside (Node p row) = row
row_inside (Leaf t) = NoMore

-- behind each expression that is such a target
abbrev pub MeansDone : syntax.Target → Simple → Derivation One → Type 0
MeansDone target simple d = (e : Derivation One) → target_of e ≡ target → done_to e (row_inside d) ≡ view.action_of simple

abbrev pub MeansItem : Item → Derivation One → Type 0
MeansItem item d = item_of d ≡ view.item_of item

-- behind each token that is this name
abbrev pub MeansValue : Name → Item → Derivation One → Type 0
MeansValue name item d = (t : Token) → name ≡ name_of t → valued t (row_inside d) ≡ view.item_of item

-- the item of a name with what stands behind it
abbrev pub item_with : Name → Given → Item
item_with name givens.Nothing = items.Scalar name
item_with name (givens.Value value) = items.ScalarWith name value
item_with name (givens.Words size) = items.Array name size

-- what stands behind the name of an item, whatever the name is
abbrev pub IsGiven : (tokens : List Token) (place depth : ℕ) → GivenRead → Type 0
IsGiven tokens place depth r = (name : Name) → IsPhrase phrases.ItemValue tokens place place r.next depth (MeansValue name (item_with name r.given))

-- items, each behind a comma
abbrev pub MeansItems : List Item → Derivation One → Type 0
MeansItems items d = more_items_of d ≡ view.items_of items

-- items with those that were read before
pub record ItemsBehind (before : ItemsRead) (tokens : List Token) (depth : ℕ) (r : ItemsRead) : Type 0 where
  pub more : List Item
  pub joined : r.items.items ≡ before.items.items ++ more
  pub phrase : IsPhrase MoreItems tokens before.next before.next r.next depth (MeansItems more)

-- the items of a declaration
pub record AreItems (tokens : List Token) (place depth : ℕ) (r : ItemsRead) : Type 0 where
  pub first : Derivation One
  pub more : Derivation One
  pub parted : Parted (A phrases.Item ∷ A MoreItems ∷ []) tokens place r.next depth (Then first (Then more NoMore))
  pub tree : items_of first more ≡ view.items_of r.items.items

-- statements

-- a test in parentheses
abbrev pub Test : List Part
Test = mark marks.OpenParenthesis ∷ A phrases.Expression ∷ mark marks.CloseParenthesis ∷ []

pub record IsTest (tokens : List Token) (place depth : ℕ) (r : TestRead) : Type 0 where
  pub opening : Token
  pub derivation : Derivation One
  pub closing : Token
  pub parted : Parted Test tokens place r.next depth (Then (Leaf opening) (Then derivation (Then (Leaf closing) NoMore)))
  pub tree : expression_of derivation ≡ view.phrase_of r.test.value

abbrev pub MeansFirst : First → Derivation One → Type 0
MeansFirst first d = first_of d ≡ view.first_of first

abbrev pub MeansTest : Option Expression → Derivation One → Type 0
MeansTest test d = test_of d ≡ option_map view.phrase_of test

abbrev pub MeansStep : Option Simple → Derivation One → Type 0
MeansStep step d = step_of d ≡ view.step_of step

-- the head of a `for`, in its parentheses
abbrev pub Head : List Part
Head = mark marks.OpenParenthesis ∷ A phrases.First ∷ mark marks.Semicolon ∷ A OptionalExpression ∷ mark marks.Semicolon ∷ A OptionalSimple ∷ mark marks.CloseParenthesis ∷ []

pub record IsHead (tokens : List Token) (place depth : ℕ) (r : HeadRead) : Type 0 where
  pub opening : Token
  pub first : Derivation One
  pub one : Token
  pub test : Derivation One
  pub two : Token
  pub step : Derivation One
  pub closing : Token
  pub parted : Parted Head tokens place r.next depth (Then (Leaf opening) (Then first (Then (Leaf one) (Then test (Then (Leaf two) (Then step (Then (Leaf closing) NoMore)))))))
  pub is_first : MeansFirst r.first.value first
  pub is_test : MeansTest r.test.value test
  pub is_step : MeansStep r.step.value step

-- an `if`, with what stands behind `else`
abbrev pub if_with : syntax.Phrase One → syntax.Code → Option BodyRead → syntax.Code
if_with test chosen None = syntax.If test chosen
if_with test chosen (Some other) = syntax.IfElse test chosen (view.code_of other.body.value)

abbrev pub MeansElse : Option BodyRead → Derivation One → Type 0
MeansElse other d = (test : syntax.Phrase One) (chosen : syntax.Code) → if_of test chosen d ≡ if_with test chosen other

abbrev pub MeansPrint : PrintRead → Derivation One → Type 0
MeansPrint print d = print_of d ≡ syntax.Print print.place print.format_place print.format (view.row_in print.arguments.items)

abbrev pub MeansCode : Statement → Derivation One → Type 0
MeansCode statement d = code_of d ≡ view.code_of statement

abbrev pub MeansBlock : List Statement → Derivation One → Type 0
MeansBlock statements d = block_of d ≡ view.all_in statements

-- declarations and statements
abbrev pub MeansAll : List Statement → Derivation One → Type 0
MeansAll statements d = all_of d ≡ view.all_in statements
