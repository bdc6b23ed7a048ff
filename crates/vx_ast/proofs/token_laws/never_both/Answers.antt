use Rattle.vx_ast.proofs.TokenLaws.{never_both}
use Rattle.vx_ast.proofs.token_laws.never_both.Goals as goal

pub returns : goal.returns
returns c = never_both
