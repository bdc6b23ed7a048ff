use Rattle.vx_parse.proofs.Wholes.{one_misparse}
use Rattle.vx_parse.proofs.phrase_laws.one_misparse.Goals as goal

pub returns : goal.returns
returns c = one_misparse
