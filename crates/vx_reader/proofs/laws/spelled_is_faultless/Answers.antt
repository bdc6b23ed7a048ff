-- The text is read as the program.
use Rattle.vx_reader.proofs.RoundTrip.{no_fault_of_spelled}
use Rattle.vx_reader.proofs.laws.spelled_is_faultless.Goals as goal

pub returns : goal.returns
returns c = λ bytes w x e. no_fault_of_spelled bytes w (x.0, e) x.1
