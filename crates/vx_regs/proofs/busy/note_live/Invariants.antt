use Rattle.vx_regs.specs.Hulls.{Notes}
use Rattle.vx_regs.proofs.BusyNotes.{ListedBelow}
use Rattle.vx_regs.proofs.busy.note_live.Given as goal

abbrev pub invariant-loop-value : goal.invariant-loop-value
invariant-loop-value l = Notes (ListedBelow l.values l.place l.count l.value-index) l.initial.hulls.items l.hulls.items
