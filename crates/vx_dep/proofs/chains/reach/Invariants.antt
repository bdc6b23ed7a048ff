-- the heads are as they were, with empty chains behind them
use Rattle.std.proofs.Common.{◌≡◌, ◌+◌, ◌-◌, ℕ, length}
use Rattle.vx_dep.specs.Links.{head_at}
use Rattle.vx_dep.proofs.chains.reach.Given as goal

abbrev pub invariant-reach : goal.invariant-reach
invariant-reach l = (other : ℕ) → head_at l.heads.items other ≡ head_at l.fn.heads.items other

abbrev pub decreases-reach : goal.decreases-reach
decreases-reach l = l.fn.row + 1 - length l.heads.items
