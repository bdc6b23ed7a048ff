use Rattle.vx_parse.proofs.Ways.{one}
use Rattle.vx_parse.proofs.phrase_laws.one_derivation.Goals as goal

pub returns : goal.returns
returns c = λ parts ts r s d e p q. one p q
