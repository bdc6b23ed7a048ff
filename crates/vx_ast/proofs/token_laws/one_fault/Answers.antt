use Rattle.vx_ast.proofs.TokenLaws.{one_fault}
use Rattle.vx_ast.proofs.token_laws.one_fault.Goals as goal

pub returns : goal.returns
returns c = one_fault
