-- the estimates are as they were
use Rattle.std.proofs.Common.{◌≡◌, ◌+◌, ◌-◌, ℕ, length}
use Rattle.vx_bug.specs.Booked.{estimate_at}
use Rattle.vx_bug.proofs.booked.reach_place.Given as goal

abbrev pub invariant-reach : goal.invariant-reach
invariant-reach l = (other : ℕ) → estimate_at l.estimates.items other ≡ estimate_at l.fn.estimates.items other

abbrev pub decreases-reach : goal.decreases-reach
decreases-reach l = l.fn.place + 1 - length l.estimates.items
