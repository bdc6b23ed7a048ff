use Rattle.vx_regs.specs.BusyPlaces.{LiveNear}
use Rattle.vx_regs.specs.Hulls.{Notes}
use Rattle.vx_regs.proofs.busy.note_lives.Given as goal

abbrev pub invariant-loop-place : goal.invariant-loop-place
invariant-loop-place l = Notes (LiveNear l.living.live l.living.nodes.numbers l.words l.count l.place) l.initial.hulls.items l.hulls.items
