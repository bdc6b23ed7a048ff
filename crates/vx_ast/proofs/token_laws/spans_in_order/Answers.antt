use Rattle.vx_ast.proofs.TokenLaws.{spans_in_order}
use Rattle.vx_ast.proofs.token_laws.spans_in_order.Goals as goal

pub returns : goal.returns
returns c = spans_in_order
