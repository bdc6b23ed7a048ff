use Rattle.vx_base.proofs.WrapLaws.{wrap_reduces_law}
use Rattle.vx_arithmetic.proofs.laws.wrap_reduces.Goals as goal

pub returns : goal.returns
returns c = wrap_reduces_law
