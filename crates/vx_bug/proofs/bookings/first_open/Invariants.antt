-- none of the cycles passed is free
use Rattle.std.proofs.Common.{◌≡◌, ◌≤◌, ◌-◌}
use Rattle.vx_bug.specs.Booked.{row_at}
use Rattle.vx_bug.specs.Clusters.{first_free}
use Rattle.vx_bug.specs.Ledgers.{is_left}
use Rattle.vx_bug.proofs.bookings.first_open.Given as goal

abbrev pub invariant-wait : goal.invariant-wait
invariant-wait l = record {
  so_far : first_free (l.fn.most - l.wait) (λ w. is_left l.fn.machine l.fn.cluster l.fn.unit (row_at l.fn.rows w)) l.wait ≡ first_free l.fn.most (λ w. is_left l.fn.machine l.fn.cluster l.fn.unit (row_at l.fn.rows w)) 0;
  within : l.wait ≤ l.fn.most;
}

abbrev pub decreases-wait : goal.decreases-wait
decreases-wait l = l.fn.most - l.wait
