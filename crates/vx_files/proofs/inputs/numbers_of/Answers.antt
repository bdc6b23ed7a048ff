-- The numbers of a text are numbers of 32 bits.
use Rattle.vx_files.proofs.InRange.{reading_fits}
use Rattle.vx_files.proofs.inputs.numbers_of.Goals as goal

pub returns-in-Ok-clause-in_range : goal.returns-in-Ok-clause-in_range
returns-in-Ok-clause-in_range c = reading_fits c.args.bytes.now c.in-Ok.numbers.items c.in-Ok.ensures
