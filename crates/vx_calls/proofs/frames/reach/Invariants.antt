-- what was marked stays marked, and nothing else is
use Rattle.std.proofs.Common.{◌≡◌, ◌-◌, ◌+◌, ℕ, true, length}
use Rattle.vx_regs.specs.Marks.{is_marked}
use Rattle.vx_calls.proofs.frames.reach.Given as goal

abbrev pub invariant-grow : goal.invariant-grow
invariant-grow l = record {
  kept : (v : ℕ) → is_marked l.fn.marks.items v ≡ true → is_marked l.marks.items v ≡ true;
  only : (v : ℕ) → is_marked l.marks.items v ≡ true → is_marked l.fn.marks.items v ≡ true;
}

abbrev pub decreases-grow : goal.decreases-grow
decreases-grow l = l.place + 1 - length l.marks.items
