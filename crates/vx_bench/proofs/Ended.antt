-- The tokens of a source end with an end token.
use Rattle.std.proofs.Common.{◌≡◌, ℕ, List, [], ◌∷◌, ap}
use Rattle.vx_ast.specs.declared.token.Token.{Token}
use Rattle.vx_ast.specs.Tokens.{Lexes, InOrder}
use Rattle.vx_ast.proofs.TokenLaws.{spans_in_order}
use Rattle.vx_parse.specs.Reading.{Ended}

ended_from : (bytes : List ℕ) (place : ℕ) (tokens : List Token) → InOrder bytes place tokens → Ended tokens
ended_from bytes place [] order = order
ended_from bytes place (t ∷ []) order = ap (λ (u : Token). u.kind) order
ended_from bytes place (t ∷ u ∷ tokens) order = (order.0, ended_from bytes t.end (u ∷ tokens) order.3)

pub ended : (bytes : List ℕ) (tokens : List Token) → Lexes bytes tokens → Ended tokens
ended bytes tokens lexes = ended_from bytes 0 tokens (spans_in_order bytes tokens lexes)
