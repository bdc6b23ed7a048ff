-- The target that a whole program makes, while it is finished: what is not in its lists is empty, or 0.
use Rattle.std.specs.Prelude.{ℕ, ◌==◌, if◌then◌else◌, List, [], ◌∷◌, slice_index_or}
use Rattle.vx_flow.specs.declared.graph.Graph.{Graph}
use Rattle.vx_mixed.specs.declared.layout.VWords.{VWords}
use Rattle.vx_regs.specs.declared.map.RegMap.{RegMap}
use Rattle.vx_target.specs.Target.{Target}
use Rattle.vx_slots.specs.declared.program.FunctionFrame.{FunctionFrame}
use Rattle.vx_slots.specs.declared.program.FunctionPlaces.{FunctionPlaces}
use Rattle.vx_slots.specs.declared.program.SplitLanding.{SplitLanding}
use Rattle.vx_slots.specs.declared.program.Whole.{Whole}

abbrev pub no_graph : Graph
no_graph = record { blocks = []; banks = []; parameters = []; arrays = [] }

abbrev pub no_layout : VWords
no_layout = record { banks = []; homes = record { clusters = [] }; words = []; entry = 0; regions = 0 }

abbrev pub no_map : RegMap
no_map = record { values = [] }

abbrev pub no_frame : FunctionFrame
no_frame = record { slots = []; arrays = []; saved = []; brought = []; words = 0 }

abbrev pub no_places : FunctionPlaces
no_places = record { entry = 0; starts = []; landings = []; marks = [] }

abbrev pub frame_of : Whole → ℕ → FunctionFrame
frame_of w f = slice_index_or w.frames.now f no_frame

abbrev pub places_of : Whole → ℕ → FunctionPlaces
places_of w f = slice_index_or w.places.now f no_places

-- where the split that leaves to a place lands, of a word with these landings
abbrev pub landed : List SplitLanding → (to : ℕ) → ℕ
landed [] to = 0
landed (x ∷ xs) to = if x.to == to then x.at else landed xs to

abbrev pub seen : Whole → Target
seen w = record {
  machine = w.machine.now;
  graph = λ f. slice_index_or w.graphs.now f no_graph;
  layout = λ f. slice_index_or w.layouts.now f no_layout;
  maps = λ f. slice_index_or w.maps.now f no_map;
  globals = w.sizes.globals;
  frame = w.sizes.frame;
  slot = λ f v. slice_index_or (frame_of w f).slots v 0;
  array_at = λ f a. slice_index_or (frame_of w f).arrays a 0;
  saved = λ f p. slice_index_or (frame_of w f).saved p [];
  brought = λ f. (frame_of w f).brought;
  entry = λ f. (places_of w f).entry;
  starts = λ f p. slice_index_or (places_of w f).starts p 0;
  landing = λ f p to. landed (slice_index_or (places_of w f).landings p []) to;
  back = λ f p. slice_index_or (places_of w f).marks p 0;
  depth_trap = w.sizes.depth_trap;
}
