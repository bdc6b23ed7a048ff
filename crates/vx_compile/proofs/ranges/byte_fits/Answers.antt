use Rattle.std.proofs.lemmas.Bool.{lt-ltb}
use Rattle.vx_compile.proofs.ranges.byte_fits.Goals as goal

pub returns : goal.returns
returns c = lt-ltb c.args.byte 256 c.ranges.byte.fits
