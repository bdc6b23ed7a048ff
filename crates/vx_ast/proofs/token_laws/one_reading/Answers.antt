use Rattle.vx_ast.proofs.TokenLaws.{one_reading}
use Rattle.vx_ast.proofs.token_laws.one_reading.Goals as goal

pub returns : goal.returns
returns c = one_reading
