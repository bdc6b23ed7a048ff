-- those so far are counted
use Rattle.std.proofs.Common.{◌≡◌, ◌≤◌, take, count_by}
use Rattle.vx_bug.specs.Ledgers.{takes}
use Rattle.vx_bug.proofs.bookings.taking.Given as goal

abbrev pub invariant-loop-booking : goal.invariant-loop-booking
invariant-loop-booking l = (l.count ≡ count_by (takes l.cluster l.resource) (take l.booking-index l.row)) × (l.count ≤ l.booking-index)
