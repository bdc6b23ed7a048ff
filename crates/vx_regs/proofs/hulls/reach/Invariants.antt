-- the hulls stay
use Rattle.std.proofs.Common.{◌≡◌, ◌-◌, ◌+◌, ℕ, length}
use Rattle.vx_regs.specs.Hulls.{hull_at}
use Rattle.vx_regs.proofs.hulls.reach.Given as goal

abbrev pub invariant-grow : goal.invariant-grow
invariant-grow l = (v : ℕ) → hull_at l.hulls.items v ≡ hull_at l.initial.hulls.items v

abbrev pub decreases-grow : goal.decreases-grow
decreases-grow l = l.place + 1 - length l.hulls.items
