-- those so far are counted
use Rattle.std.proofs.Common.{◌≡◌, ◌≤◌, take}
use Rattle.vx_isa.specs.declared.operation.UnitKind.TheVariants.{Copies}
use Rattle.vx_room.specs.Room.{count_in, needs}
use Rattle.vx_sched.proofs.full_rows.copies_in.Given as goal

abbrev pub invariant-loop-item : goal.invariant-loop-item
invariant-loop-item l = (l.count ≡ count_in (needs Copies) (take l.item-index l.row)) × (l.count ≤ l.item-index)
