-- What is found for a whole program before its words are made, and the program that is made of it.
use Rattle.std.specs.Prelude.{◌≡◌, ◌<◌, ◌≤◌, ◌+◌, ◌*◌, ◌^◌, ℕ, true, Some, List, length, slice_get, slice_index_or}
use Rattle.vx_flow.specs.declared.graph.Global.{Global}
use Rattle.vx_flow.specs.declared.graph.Flow.{Flow}
use Rattle.vx_flow.specs.Meaning.{deepest}
use Rattle.vx_isa.specs.declared.program.WordProgram.{WordProgram}
use Rattle.vx_isa.specs.Machine.{memory_at_start}
use Rattle.vx_isa.specs.Numbers.{IsMachine}
use Rattle.vx_isa.specs.Sound.{is_start}
use Rattle.vx_slots.specs.declared.program.Whole.{Whole}
use Rattle.vx_target.specs.Placed.{IsPlaced}
use Rattle.vx_target.specs.Frames.{first_or_zero}
use Rattle.vx_target.specs.Tied.{words_before}
use Rattle.vx_target.specs.Finish.{AllCanFinish}
use Rattle.vx_calls.specs.Bounds.{most_frame_words, most_global_words}
use Rattle.vx_calls.specs.Framing.{IsFrameOf}
use Rattle.vx_frame.specs.Placing.{standing}
use Rattle.vx_slots.specs.Seen.{no_graph, no_layout, no_map, no_frame, seen}

-- what stands in the frame of each function, where each global begins, and the sizes of all
pub record Found (W : Whole) (flow : Flow) : Type 0 where
  pub addresses : List ℕ
  pub machine : IsMachine W.machine.now
  pub functions : W.graphs.now ≡ flow.functions
  pub can : AllCanFinish W.machine.now flow W.layouts.now W.maps.now
  pub each : (f : ℕ) → f < length W.graphs.now → IsFrameOf (slice_index_or W.graphs.now f no_graph) (slice_index_or W.layouts.now f no_layout) (slice_index_or W.maps.now f no_map) addresses (slice_index_or W.frames.now f no_frame)
  pub some_frame : 1 ≤ W.sizes.frame
  pub most_frame : (f : ℕ) → (slice_index_or W.frames.now f no_frame).words ≤ W.sizes.frame
  pub as_many : length addresses ≡ length flow.globals
  pub address : (a : ℕ) → a < length flow.globals → slice_index_or addresses a 0 ≡ words_before flow.globals a
  pub globals : W.sizes.globals ≡ words_before flow.globals (length flow.globals)
  pub few_globals : W.sizes.globals ≤ most_global_words
  pub small_frame : W.sizes.frame ≤ most_frame_words

-- the program has the version of the machine's branches and that memory, the globals stand in it at the start, and its words stand
-- where they were placed
pub record Made (W : Whole) (flow : Flow) (w : WordProgram) : Type 0 where
  pub version : w.version ≡ W.machine.now.branches
  pub memory : w.memory ≡ 4 * (W.sizes.globals + W.sizes.frame * deepest)
  pub few_bytes : w.memory ≤ 132644864
  pub start : (a i : ℕ) (x : Global) → slice_get flow.globals a ≡ Some x → i < x.words → memory_at_start w.start (4 * (words_before flow.globals a + i)) ≡ first_or_zero x.first i
  pub ascending : (memory : ℕ) → 4 * words_before flow.globals (length flow.globals) ≤ memory → is_start memory 0 w.start ≡ true
  pub texts : w.texts ≡ flow.texts
  pub placed : IsPlaced (standing (seen W) flow.main (length flow.functions)) flow.main (length flow.functions) w.words
  pub few : length w.words < 2 ^ 32
