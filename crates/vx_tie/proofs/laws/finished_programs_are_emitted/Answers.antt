use Rattle.vx_tie.proofs.Emission.{emitted_law}
use Rattle.vx_tie.proofs.laws.finished_programs_are_emitted.Goals as goal

pub returns : goal.returns
returns c = emitted_law
