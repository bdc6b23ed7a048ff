use Rattle.vx_parse.proofs.Fronts.{unexpected}
use Rattle.vx_parse.proofs.phrase_laws.stuck_is_unexpected.Goals as goal

pub returns : goal.returns
returns c = unexpected
