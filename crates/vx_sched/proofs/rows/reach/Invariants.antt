-- the rows are as they were, with empty ones behind them
use Rattle.std.proofs.Common.{◌≡◌, ◌+◌, ◌-◌, ℕ, length}
use Rattle.vx_sched.specs.Filling.{row_of}
use Rattle.vx_sched.proofs.rows.reach.Given as goal

abbrev pub invariant-reach : goal.invariant-reach
invariant-reach l = (v : ℕ) → row_of l.rows.items v ≡ row_of l.fn.rows.items v

abbrev pub decreases-reach : goal.decreases-reach
decreases-reach l = l.fn.word + 1 - length l.rows.items
