use Rattle.vx_isa.proofs.Steady.{words_are_steady}
use Rattle.vx_isa.proofs.laws.words_run_is_steady.Goals as goal

pub returns : goal.returns
returns c = words_are_steady
