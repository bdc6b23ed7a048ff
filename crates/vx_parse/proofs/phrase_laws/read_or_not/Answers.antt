use Rattle.vx_parse.proofs.Wholes.{read_or_not}
use Rattle.vx_parse.proofs.phrase_laws.read_or_not.Goals as goal

pub returns : goal.returns
returns c = read_or_not
