use Rattle.std.proofs.Common.{length}
use Rattle.vx_regs.proofs.busy.+note_values.Given as goal

abbrev pub decreases-note_values : goal.decreases-note_values
decreases-note_values l = length l.values.now
