use Rattle.vx_ast.proofs.TokenLaws.{texts_are_slices}
use Rattle.vx_ast.proofs.token_laws.texts_are_slices.Goals as goal

pub returns : goal.returns
returns c = texts_are_slices
