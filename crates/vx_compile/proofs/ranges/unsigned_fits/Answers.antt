use Rattle.vx_compile.proofs.NumbersFit.{unsigned_in_range}
use Rattle.vx_compile.proofs.ranges.unsigned_fits.Goals as goal

pub returns : goal.returns
returns c = unsigned_in_range c.args.number c.ranges.number.fits
