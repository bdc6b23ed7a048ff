-- those so far are counted
use Rattle.std.proofs.Common.{◌≡◌, ◌≤◌, take}
use Rattle.vx_room.specs.Room.{count_at, needs}
use Rattle.vx_sched.proofs.full_rows.units_at.Given as goal

abbrev pub invariant-loop-item : goal.invariant-loop-item
invariant-loop-item l = (l.count ≡ count_at l.cluster (needs l.unit) (take l.item-index l.row)) × (l.count ≤ l.item-index)
