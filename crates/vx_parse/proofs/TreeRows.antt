-- Worked rows: trees and depths of derivations.
use Rattle.std.proofs.Common.{◌≡◌, ℕ, ℤ, pos, [], ◌∷◌, refl}
use Rattle.std.specs.Prelude.{codes}
use Rattle.vx_ast.specs.declared.token.Keyword.TheVariants as words
use Rattle.vx_ast.specs.declared.token.Mark.TheVariants as marks
use Rattle.vx_ast.specs.declared.token.TokenKind.TheVariants as kinds
use Rattle.vx_ast.specs.declared.tree.BinaryOperator.TheVariants as binary
use Rattle.vx_ast.specs.declared.tree.Takes.TheVariants as takes
use Rattle.vx_ast.specs.Tree.{One, Row}
use Rattle.vx_ast.specs.Syntax as syntax
use Rattle.vx_ast.specs.Phrases.{Parameter, ParameterBrackets, Level, LevelRest, Primary, Arguments, MoreExpressions, Derivation, Leaf, Node, NoMore, Then}
use Rattle.vx_ast.specs.Derivations.{expression_of, behind, arguments_of, arguments_in, first_place, parameter_of, depth_behind, row_depth, operator_depth}

-- a minus at this column
abbrev sign : ℕ → Derivation One
sign column = Leaf (record { kind = kinds.Mark marks.Minus; start = 0; end = 0; line = 1; column = column })

-- a number as an operand of `-`
abbrev number : ℤ → Derivation One
number z = Node (Level 1) (Then (Node (Level 0) (Then (Node Primary (Then (Leaf (record { kind = kinds.Number z; start = 0; end = 0; line = 1; column = 1 })) NoMore)) NoMore)) (Then (Node (LevelRest 0) NoMore) NoMore))

-- `- 2 - 3` behind a left operand
abbrev two_more : Derivation One
two_more = Node (LevelRest 1) (Then (sign 3) (Then (number (pos 2)) (Then (Node (LevelRest 1) (Then (sign 7) (Then (number (pos 3)) (Then (Node (LevelRest 1) NoMore) NoMore)))) NoMore)))

-- `1 - 2 - 3` is `(1 - 2) - 3`
to_the_left : behind (syntax.Number (pos 1)) two_more ≡ syntax.Binary binary.Subtract (syntax.Binary binary.Subtract (syntax.Number (pos 1)) (syntax.Number (pos 2))) (syntax.Number (pos 3))
unfolding behind expression_of
to_the_left = refl

-- its left operand stands in two operators, the others in one or two
left_is_deeper : depth_behind 1 two_more ≡ 3
unfolding depth_behind row_depth operator_depth
left_is_deeper = refl

abbrev parenthesis : Derivation One
parenthesis = Node Primary (Then (Leaf (record { kind = kinds.Mark marks.OpenParenthesis; start = 0; end = 0; line = 1; column = 5 })) (Then (number (pos 7)) (Then (Leaf (record { kind = kinds.Mark marks.CloseParenthesis; start = 0; end = 0; line = 1; column = 7 })) NoMore)))

-- parentheses leave no trace in the tree, are a construct, and are the first token
no_trace : expression_of parenthesis ≡ syntax.Number (pos 7)
unfolding expression_of behind
no_trace = refl

one_construct : depth_behind 0 parenthesis ≡ 1
unfolding depth_behind row_depth operator_depth
one_construct = refl

first_token : first_place parenthesis ≡ record { line = 1; column = 5 }
unfolding first_place
first_token = refl

-- `(7)` as an argument stands where the parenthesis does
argument_place : arguments_of (Node Arguments (Then parenthesis (Then (Node MoreExpressions NoMore) NoMore))) ≡ syntax.Then (record { line = 1; column = 5 }) (syntax.Number (pos 7)) syntax.NoMore
unfolding arguments_of arguments_in first_place expression_of behind
argument_place = refl

-- `int a`, with this behind it
abbrev parameter : Derivation Row → Derivation One
parameter brackets =
    Node Parameter (Then (Leaf (record { kind = kinds.Keyword words.Int; start = 0; end = 0; line = 1; column = 7 }))
    (Then (Leaf (record { kind = kinds.Name (codes "a"); start = 0; end = 0; line = 1; column = 11 })) (Then (Node ParameterBrackets brackets) NoMore)))

-- with brackets it takes an array, without them a number
an_array : parameter_of (parameter (Then (Leaf (record { kind = kinds.Mark marks.OpenBracket; start = 0; end = 0; line = 1; column = 12 })) (Then (Leaf (record { kind = kinds.Mark marks.CloseBracket; start = 0; end = 0; line = 1; column = 13 })) NoMore)))
    ≡ (record { name = record { bytes = codes "a"; place = record { line = 1; column = 11 } }; takes = takes.Array }) ∷ []
an_array = refl

a_number : parameter_of (parameter NoMore) ≡ (record { name = record { bytes = codes "a"; place = record { line = 1; column = 11 } }; takes = takes.Number }) ∷ []
a_number = refl
