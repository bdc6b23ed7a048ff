-- What is saved and brought in each function of a whole program is so in the target that the program makes.
use Rattle.std.proofs.Common.{ℕ, slice_index_or}
use Rattle.vx_slots.specs.declared.program.Whole.{Whole}
use Rattle.vx_target.specs.Frames.{IsSaved}
use Rattle.vx_calls.specs.Framing.{SavesIn}
use Rattle.vx_slots.specs.Seen.{seen, frame_of, no_graph, no_layout, no_map}

-- what stands in the frame of function f
abbrev pub FrameSaves : Whole → ℕ → Type 0
FrameSaves w f = SavesIn (slice_index_or w.graphs.now f no_graph).parameters (slice_index_or w.layouts.now f no_layout) (slice_index_or w.maps.now f no_map) (frame_of w f).saved (frame_of w f).brought

pub seen_saves : (w : Whole) (f : ℕ) → FrameSaves w f → IsSaved (seen w) f
seen_saves w f s = record {
  saved = λ p g v arguments result at m. let k = s.saved p g v arguments result at m in record { live = k.live; other = k.other; number = k.number; register = k.register };
  saves = λ p g v arguments result at k. s.saves p g v arguments result at (record { live = k.live; other = k.other; number = k.number; register = k.register });
  brought = λ v m. let k = s.brought v m in record { passed = k.passed; live = k.live; number = k.number; register = k.register };
  brings = λ v k. s.brings v (record { passed = k.passed; live = k.live; number = k.number; register = k.register });
  saved_once = s.saved_once;
  brought_once = s.brought_once;
}
