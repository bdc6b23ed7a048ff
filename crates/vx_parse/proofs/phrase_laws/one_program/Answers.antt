use Rattle.vx_parse.proofs.Wholes.{one_program}
use Rattle.vx_parse.proofs.phrase_laws.one_program.Goals as goal

pub returns : goal.returns
returns c = one_program
