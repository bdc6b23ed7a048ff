-- the frames so far
use Rattle.std.proofs.Common.{◌≡◌, ◌<◌, ℕ, length, slice_index_or}
use Rattle.vx_calls.specs.Framing.{IsFrameOf}
use Rattle.vx_slots.specs.Seen.{no_frame, no_graph, no_layout, no_map}
use Rattle.vx_calls.proofs.frames.frames.Given as goal

abbrev pub invariant-loop-function : goal.invariant-loop-function
invariant-loop-function l = record {
  each : length l.frames ≡ l.function;
  stand : (f : ℕ) → f < l.function → IsFrameOf (slice_index_or l.graphs f no_graph) (slice_index_or l.layouts f no_layout) (slice_index_or l.maps f no_map) l.addresses (slice_index_or l.frames f no_frame);
}
