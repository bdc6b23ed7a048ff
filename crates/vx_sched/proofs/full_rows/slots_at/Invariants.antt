-- those so far are counted
use Rattle.std.proofs.Common.{◌≡◌, ◌≤◌, take}
use Rattle.vx_sched.specs.Crowding.{slots_at}
use Rattle.vx_sched.proofs.full_rows.slots_at.Given as goal

abbrev pub invariant-loop-item : goal.invariant-loop-item
invariant-loop-item l = (l.count ≡ slots_at l.cluster (take l.item-index l.row)) × (l.count ≤ l.item-index)
