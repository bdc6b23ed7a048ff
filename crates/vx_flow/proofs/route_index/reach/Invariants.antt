use Rattle.std.proofs.Common.{◌≡◌, ℕ, ◌+◌, ◌-◌, vec_len}
use Rattle.vx_flow.specs.Closing.{mark_at}
use Rattle.vx_flow.proofs.route_index.reach.Given as goal

abbrev pub invariant-loop-marks : goal.invariant-loop-marks
invariant-loop-marks l = (v : ℕ) → mark_at l.marks.items v ≡ mark_at l.initial.marks.items v

abbrev pub decreases-loop-marks : goal.decreases-loop-marks
decreases-loop-marks l = l.place + 1 - vec_len l.marks
