use Rattle.vx_ast.proofs.TokenLaws.{read_or_refused}
use Rattle.vx_ast.proofs.token_laws.read_or_refused.Goals as goal

pub returns : goal.returns
returns c = read_or_refused
