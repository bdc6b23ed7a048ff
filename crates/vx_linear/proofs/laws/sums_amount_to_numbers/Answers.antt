use Rattle.vx_linear.proofs.Reduced.{amount_law}
use Rattle.vx_linear.proofs.laws.sums_amount_to_numbers.Goals as goal

pub returns : goal.returns
returns c = amount_law
