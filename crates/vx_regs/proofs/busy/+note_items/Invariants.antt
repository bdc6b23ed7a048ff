use Rattle.std.proofs.Common.{length}
use Rattle.vx_regs.proofs.busy.+note_items.Given as goal

abbrev pub decreases-note_items : goal.decreases-note_items
decreases-note_items l = length l.items.now
