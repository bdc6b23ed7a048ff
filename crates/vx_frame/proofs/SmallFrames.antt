-- Frames are small where those of the functions are, whichever values have slots.
use Rattle.std.proofs.Common.{◌≡◌, ◌<◌, ◌≤◌, ◌∙◌, ℕ, List, length, slice_index_or, ap, sym, subst, arith}
use Rattle.std.proofs.lemmas.Option.{get_or_from_slice_get}
use Rattle.vx_flow.specs.declared.graph.Graph.{Graph}
use Rattle.vx_flow.specs.declared.graph.Flow.{Flow}
use Rattle.vx_isa.specs.Numbers.{Numbers}
use Rattle.vx_mixed.specs.declared.layout.VWords.{VWords}
use Rattle.vx_regs.specs.declared.map.RegMap.{RegMap}
use Rattle.vx_target.specs.Finish.{AllCanFinish}
use Rattle.vx_slots.specs.declared.program.FunctionFrame.{FunctionFrame}
use Rattle.vx_slots.specs.Seen.{no_graph, no_layout, no_map, no_frame}
use Rattle.vx_calls.specs.Bounds.{FitsMemory, SmallFrame, most_frame_words}
use Rattle.vx_calls.specs.Framing.{IsFrameOf}

module _ (m : Numbers) (flow : Flow) (ls : List VWords) (maps : List RegMap) (can : AllCanFinish m flow ls maps) (fits : FitsMemory flow ls maps) (graphs : List Graph) (addresses : List ℕ) (frames : List FunctionFrame) (same : graphs ≡ flow.functions) (many : length addresses ≡ length flow.globals) where
  abbrev GraphAt : ℕ → Graph
  GraphAt f = slice_index_or graphs f no_graph

  abbrev LayoutAt : ℕ → VWords
  LayoutAt f = slice_index_or ls f no_layout

  abbrev MapAt : ℕ → RegMap
  MapAt f = slice_index_or maps f no_map

  small : (f : ℕ) → f < length flow.functions → SmallFrame (GraphAt f) (length addresses) (LayoutAt f) (MapAt f)
  small f lt =
      let c = can.each f lt in
      let graph_is : GraphAt f ≡ c.graph = ap (λ xs. slice_index_or xs f no_graph) same ∙ get_or_from_slice_get flow.functions f c.graph no_graph c.graph_is in
      let layout_is : LayoutAt f ≡ c.layout = get_or_from_slice_get ls f c.layout no_layout c.layout_is in
      let map_is : MapAt f ≡ c.map = get_or_from_slice_get maps f c.map no_map c.map_is in
      let there : SmallFrame c.graph (length flow.globals) c.layout c.map = fits.frames f c.graph c.layout c.map c.graph_is c.layout_is c.map_is in
      subst (λ g. SmallFrame g (length addresses) (LayoutAt f) (MapAt f)) (sym graph_is)
      (subst (λ n. SmallFrame c.graph n (LayoutAt f) (MapAt f)) (sym many)
      (subst (λ l. SmallFrame c.graph (length flow.globals) l (MapAt f)) (sym layout_is)
      (subst (SmallFrame c.graph (length flow.globals) c.layout) (sym map_is) there)))

  pub frames_are_small : length frames ≡ length graphs → ((f : ℕ) → f < length graphs → IsFrameOf (GraphAt f) (LayoutAt f) (MapAt f) addresses (slice_index_or frames f no_frame)) → (f : ℕ) → f < length frames → (slice_index_or frames f no_frame).words ≤ most_frame_words
  frames_are_small each stand f lt =
      let l : f < length graphs = omega (arith, each, lt) in
      small f (subst (λ (xs : List Graph). f < length xs) same l) (slice_index_or frames f no_frame).words (stand f l).size
