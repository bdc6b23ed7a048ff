use Rattle.vx_room.specs.Items.{latency_of_op}
use Rattle.vx_regs.specs.BusyPlaces.{WroteBelow}
use Rattle.vx_regs.specs.Hulls.{Notes}
use Rattle.vx_regs.proofs.busy.note_pending.Given as goal

abbrev pub invariant-loop-place : goal.invariant-loop-place
invariant-loop-place l = Notes (WroteBelow (latency_of_op l.machine) l.words l.place) l.initial.hulls.items l.hulls.items
