use Rattle.vx_parse.proofs.Wholes.{one_refusal}
use Rattle.vx_parse.proofs.phrase_laws.one_refusal.Goals as goal

pub returns : goal.returns
returns c = one_refusal
