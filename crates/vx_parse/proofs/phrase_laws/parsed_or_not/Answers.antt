use Rattle.vx_parse.proofs.Wholes.{parsed_or_not}
use Rattle.vx_parse.proofs.phrase_laws.parsed_or_not.Goals as goal

pub returns : goal.returns
returns c = parsed_or_not
