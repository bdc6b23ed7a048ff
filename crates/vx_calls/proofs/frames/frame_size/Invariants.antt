-- the most of those so far
use Rattle.std.proofs.Common.{◌≤◌, ◌<◌, ℕ, length, slice_index_or}
use Rattle.vx_slots.specs.Seen.{no_frame}
use Rattle.vx_calls.proofs.frames.frame_size.Given as goal

abbrev pub invariant-loop-frame : goal.invariant-loop-frame
invariant-loop-frame l = record {
  some : 1 ≤ l.most;
  most : (f : ℕ) → f < l.frame-index → (slice_index_or l.frames f no_frame).words ≤ l.most;
  least : (n : ℕ) → 1 ≤ n → ((f : ℕ) → f < length l.frames → (slice_index_or l.frames f no_frame).words ≤ n) → l.most ≤ n;
}
