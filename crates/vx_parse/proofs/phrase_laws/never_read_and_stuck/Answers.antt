use Rattle.vx_parse.proofs.Ways.{never}
use Rattle.vx_parse.proofs.phrase_laws.never_read_and_stuck.Goals as goal

pub returns : goal.returns
returns c = λ parts ts r s d e p q. never p q
