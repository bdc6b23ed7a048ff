use Rattle.vx_compile.proofs.NumbersFit.{signed_in_range}
use Rattle.vx_compile.proofs.ranges.signed_fits.Goals as goal

pub returns : goal.returns
returns c = signed_in_range c.args.number c.ranges.number
