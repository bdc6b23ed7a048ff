use Rattle.vx_region.proofs.Premises.{fits_law}
use Rattle.vx_region.proofs.copies.tidy_traces_fit.Goals as goal

pub returns : goal.returns
returns c = fits_law
