-- The loop that gathers arguments.
use Rattle.std.proofs.Common.{◌≡◌, ◌≤◌, ◌<◌, ◌+◌, ℕ, max, List, [], ◌∷◌, ◌++◌, length, drop}
use Rattle.vx_ast.specs.declared.syntax.Argument.{Argument}
use Rattle.vx_ast.specs.declared.token.Token.{Token}
use Rattle.vx_ast.specs.Tree.{One}
use Rattle.vx_ast.specs.SyntaxView.{row_in}
use Rattle.vx_ast.specs.Phrases.{MoreExpressions, A, Derivation, NoMore, Then, Is}
use Rattle.vx_ast.specs.Derivations.{arguments_of, depth_behind}
use Rattle.vx_parse.specs.declared.stop.Stop.{Stop}
use Rattle.vx_parse.specs.declared.expression.Operands.{Operands}
use Rattle.vx_parse.specs.Reading.{Stops}

pub record Whole (before : Operands) (tokens : List Token) (rest : List Token) (gathered : List Argument) (height : ℕ) : Type 0 where
  pub derivation : Derivation One
  pub is : Is (A MoreExpressions ∷ []) (drop before.next tokens) (Then derivation NoMore) rest
  pub tree : arguments_of derivation ≡ row_in gathered
  pub depth : max before.height (depth_behind 0 derivation) ≡ height

-- what is read behind goes on what was gathered
pub record Gathers (before : Operands) (tokens : List Token) (depth : ℕ) (all : Operands) : Type 0 where
  pub more : List Argument
  pub joined : all.arguments.items ≡ before.arguments.items ++ more
  pub whole : (d : Derivation One) (rest : List Token) (ys : List Argument) → Is (A MoreExpressions ∷ []) (drop all.next tokens) (Then d NoMore) rest → arguments_of d ≡ row_in ys
      → Whole before tokens rest (more ++ ys) (max all.height (depth_behind 0 d))
  pub stops : (s : Stop) → Stops (A MoreExpressions ∷ []) (drop all.next tokens) tokens depth 0 s → Stops (A MoreExpressions ∷ []) (drop before.next tokens) tokens depth 0 s
  pub shallow : depth + all.height ≤ 200
  pub further : before.next ≤ all.next
  pub within : all.next < length tokens
