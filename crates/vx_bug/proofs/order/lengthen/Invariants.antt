-- the marks are as they were
use Rattle.std.proofs.Common.{◌≡◌, ◌+◌, ◌-◌, ℕ, length}
use Rattle.vx_flow.specs.Rows.{is_marked}
use Rattle.vx_bug.proofs.order.lengthen.Given as goal

abbrev pub invariant-grow : goal.invariant-grow
invariant-grow l = (i : ℕ) → is_marked l.marks.items i ≡ is_marked l.fn.marks.items i

abbrev pub decreases-grow : goal.decreases-grow
decreases-grow l = l.fn.at + 1 - length l.marks.items
