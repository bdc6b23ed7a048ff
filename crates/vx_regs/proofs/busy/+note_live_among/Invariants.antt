use Rattle.std.proofs.Common.{length}
use Rattle.vx_regs.proofs.busy.+note_live_among.Given as goal

abbrev pub decreases-note_live_among : goal.decreases-note_live_among
decreases-note_live_among l = length l.nodes.now
