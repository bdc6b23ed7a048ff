-- The text is that of the program that it is read as.
use Rattle.vx_reader.proofs.RoundTrip.{spelled_of_no_fault}
use Rattle.vx_reader.proofs.laws.faultless_is_spelled.Goals as goal

pub returns : goal.returns
returns c = λ bytes small e. spelled_of_no_fault bytes small e
