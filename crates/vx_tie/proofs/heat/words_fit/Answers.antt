use Rattle.vx_tie.proofs.Fit.{fit_law}
use Rattle.vx_tie.proofs.heat.words_fit.Goals as goal

pub returns : goal.returns
returns c = fit_law c.fits_by_room_law.ensures
