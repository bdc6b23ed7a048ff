-- the rows are as they were, with empty ones behind them
use Rattle.std.proofs.Common.{◌≡◌, ◌+◌, ◌-◌, ℕ, length}
use Rattle.vx_bug.specs.Booked.{row_at}
use Rattle.vx_bug.proofs.booked.reach.Given as goal

abbrev pub invariant-reach : goal.invariant-reach
invariant-reach l = (other : ℕ) → row_at l.rows.items other ≡ row_at l.fn.rows.items other

abbrev pub decreases-reach : goal.decreases-reach
decreases-reach l = l.fn.cycle + 1 - length l.rows.items
