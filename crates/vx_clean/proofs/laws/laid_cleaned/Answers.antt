use Rattle.vx_clean.proofs.Lays.{laid_cleaned}
use Rattle.vx_clean.proofs.laws.laid_cleaned.Goals as goal

pub returns : goal.returns
returns c = laid_cleaned
