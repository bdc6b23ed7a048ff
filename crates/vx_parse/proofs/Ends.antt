-- The tokens of a source end with the end token and hold no other.
use Rattle.std.proofs.Common.{List, [], ◌∷◌, ℕ, ap}
use Rattle.vx_ast.specs.declared.token.Token.{Token}
use Rattle.vx_ast.specs.Tokens.{Lexes, InOrder}
use Rattle.vx_ast.proofs.TokenLaws.{spans_in_order}
use Rattle.vx_parse.specs.Reading.{Ended}

order_ends : (bytes : List ℕ) (place : ℕ) (ts : List Token) → InOrder bytes place ts → Ended ts
order_ends bytes place [] d = absurd d
order_ends bytes place (t ∷ []) d = ap (λ (u : Token). u.kind) d
order_ends bytes place (t ∷ u ∷ ts) d = (d.0, order_ends bytes t.end (u ∷ ts) d.3)

pub tokens_end : {bytes : List ℕ} {ts : List Token} → Lexes bytes ts → Ended ts
tokens_end {bytes} {ts} d = order_ends bytes 0 ts (spans_in_order bytes ts d)
