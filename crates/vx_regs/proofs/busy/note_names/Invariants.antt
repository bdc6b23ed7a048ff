use Rattle.vx_regs.specs.BusyPlaces.{NamedBelow}
use Rattle.vx_regs.specs.Hulls.{Notes}
use Rattle.vx_regs.proofs.busy.note_names.Given as goal

abbrev pub invariant-loop-place : goal.invariant-loop-place
invariant-loop-place l = Notes (NamedBelow l.words l.place) l.initial.hulls.items l.hulls.items
