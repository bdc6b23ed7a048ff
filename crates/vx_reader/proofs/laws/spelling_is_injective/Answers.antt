-- Both programs are what their one text is read as.
use Rattle.vx_reader.proofs.RoundTrip.{spelling_injective}
use Rattle.vx_reader.proofs.laws.spelling_is_injective.Goals as goal

pub returns : goal.returns
returns c = λ v w x y e. spelling_injective v w x.0 y.0 x.1 y.1 e
