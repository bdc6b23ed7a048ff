use Rattle.std.proofs.Common.{length}
use Rattle.vx_tally.proofs.machine.+entry_values.Given as goal

abbrev pub decreases-entry_values : goal.decreases-entry_values
decreases-entry_values l = length l.parameters.now
