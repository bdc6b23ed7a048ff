-- What was found for each function, and the words that stand where they were placed, make a program that carries its flow.
use Rattle.std.proofs.Common.{◌≡◌, ◌<◌, ◌≤◌, ⊎_elim, ◌+◌, ℕ, zero, suc, true, false, Some, List, [], ◌∷◌, length, slice_get, slice_index_or, refl, sym, ap, ◌∙◌, subst, arith}
use Rattle.std.proofs.lemmas.Bool.{cases_lt}
use Rattle.std.proofs.lemmas.Option.{get_or_from_slice_get}
use Rattle.vx_flow.specs.declared.graph.Array.{Array}
use Rattle.vx_flow.specs.declared.graph.Graph.{Graph}
use Rattle.vx_flow.specs.declared.graph.Flow.{Flow}
use Rattle.vx_flow.specs.Effects.{IsIn}
use Rattle.vx_flow.specs.Sound.{SoundFlow, is_sound_flow}
use Rattle.vx_flow.proofs.SoundFlowLaw.{told}
use Rattle.vx_isa.specs.declared.program.WordProgram.{WordProgram}
use Rattle.vx_isa.specs.Numbers.{Numbers}
use Rattle.vx_room.specs.Items.{latency_of_op}
use Rattle.vx_mixed.specs.declared.layout.VWords.{VWords}
use Rattle.vx_layout.specs.Brief.{IsBriefLayout}
use Rattle.vx_mixed.specs.LaidSettled.{SettledLayout, home_in}
use Rattle.vx_layout.specs.Numbered.{IsNumbered}
use Rattle.vx_layout.specs.Origins.{LaidFromGraph}
use Rattle.vx_regs.specs.declared.map.Kept.{Kept}
use Rattle.vx_regs.specs.declared.map.Kept.TheVariants.{InRegister, InSlot, Nowhere}
use Rattle.vx_regs.specs.declared.map.RegMap.{RegMap}
use Rattle.vx_regs.specs.Intervals.{IsBusy}
use Rattle.vx_regs.specs.Mapped.{KeepsApart, kept_of}
use Rattle.vx_target.specs.declared.finished.Finished.{Finished}
use Rattle.vx_slots.specs.declared.program.FunctionFrame.{FunctionFrame}
use Rattle.vx_slots.specs.declared.program.Whole.{Whole}
use Rattle.vx_target.specs.Target.{Target, is_slotted}
use Rattle.vx_target.specs.Frames.{IsSaved, NeedsSlot, is_passed, is_spilled, is_saved, HasWord, IsFramed}
use Rattle.vx_target.specs.Carried.{room_of, IsMapped, Carries}
use Rattle.vx_target.specs.Tied.{IsFunction, words_before}
use Rattle.vx_target.specs.Finish.{CanFinish, AllCanFinish, Finishes}
use Rattle.vx_tie.specs.Fitted.{SoundLaw}
use Rattle.vx_frame.specs.Found.{Found, Made}
use Rattle.vx_calls.specs.Framing.{IsFrameOf, SlotNeeded, is_passed as is_passed_there, is_kept, is_saved as is_saved_there}
use Rattle.vx_target.specs.Places.{ArePlaces}
use Rattle.vx_frame.specs.Placing.{WaysDiffer, all_places, functions_begin, standing}
use Rattle.vx_frame.specs.Regions.{all_traces}
use Rattle.vx_slots.specs.Seen.{no_graph, no_layout, no_map, no_frame, seen}
use Rattle.vx_target.proofs.Frames.{get_some, get_in}
use Rattle.vx_frame.proofs.RegionPlaces.{are_places}

-- lists

beyond : {A : Type 0} (xs : List A) (i : ℕ) (d : A) → length xs ≤ i → slice_index_or xs i d ≡ d
beyond [] i d le = refl
beyond (x ∷ xs) zero d le = absurd (omega arith)
beyond (x ∷ xs) (suc i) d le = beyond xs i d (omega arith)

module _ (m : Numbers) (flow : Flow) (ls : List VWords) (ms : List RegMap) (can : AllCanFinish m flow ls ms) where
  abbrev Layout : ℕ → VWords
  Layout f = slice_index_or ls f no_layout

  pub layout_settled : (f : ℕ) → f < length flow.functions → SettledLayout (room_of m) (latency_of_op m) (Layout f)
  layout_settled f lt = let c = can.each f lt in subst (SettledLayout (room_of m) (latency_of_op m)) (sym (get_or_from_slice_get ls f c.layout no_layout c.layout_is)) c.settled

  pub layouts_differ : (f : ℕ) → f < length flow.functions → WaysDiffer (Layout f).words
  layouts_differ f lt p r w items at = (layout_settled f lt).ways p items (r, w, at)

  pub no_more : (f : ℕ) → length flow.functions ≤ f → (Layout f).words ≡ []
  no_more f le = let e = can.layouts in ap (λ (l : VWords). l.words) (beyond ls f no_layout (omega arith))

module _ (W : Whole) (flow : Flow) (sound : SoundFlow flow) (found : Found W flow) where
  abbrev M : Numbers
  M = W.machine.now

  abbrev Count : ℕ
  Count = length flow.functions

  abbrev pub TheTarget : Target
  TheTarget = standing (seen W) flow.main Count

  abbrev GraphOf : ℕ → Graph
  GraphOf f = slice_index_or W.graphs.now f no_graph

  abbrev LayoutOf : ℕ → VWords
  LayoutOf f = slice_index_or W.layouts.now f no_layout

  abbrev MapOf : ℕ → RegMap
  MapOf f = slice_index_or W.maps.now f no_map

  abbrev FrameAt : ℕ → FunctionFrame
  FrameAt f = slice_index_or W.frames.now f no_frame

  module _ (f : ℕ) (lt : f < Count) where
    can : CanFinish M flow W.layouts.now W.maps.now f
    can = found.can.each f lt

    graph_is : GraphOf f ≡ can.graph
    graph_is = ap (λ xs. slice_index_or xs f no_graph) found.functions ∙ get_or_from_slice_get flow.functions f can.graph no_graph can.graph_is

    layout_is : LayoutOf f ≡ can.layout
    layout_is = get_or_from_slice_get W.layouts.now f can.layout no_layout can.layout_is

    map_is : MapOf f ≡ can.map
    map_is = get_or_from_slice_get W.maps.now f can.map no_map can.map_is

    frame : IsFrameOf (GraphOf f) (LayoutOf f) (MapOf f) found.addresses (FrameAt f)
    frame = found.each f (let e = ap (λ (xs : List Graph). length xs) found.functions in omega arith)

    is_function : IsFunction TheTarget flow W.layouts.now f
    is_function = record { graph = can.graph_is ∙ ap Some (sym graph_is); layout = can.layout_is ∙ ap Some (sym layout_is) }

    mapped : IsMapped TheTarget f
    mapped = record {
      settled = subst (SettledLayout (room_of M) (latency_of_op M)) (sym layout_is) can.settled;
      brief = subst IsBriefLayout (sym layout_is) can.brief;
      code = subst (λ g. LaidFromGraph g (LayoutOf f)) (sym graph_is) (subst (LaidFromGraph can.graph) (sym layout_is) can.code);
      apart = subst (λ l. KeepsApart M (latency_of_op M) l (MapOf f)) (sym layout_is) (subst (KeepsApart M (latency_of_op M) can.layout) (sym map_is) can.apart);
      homes = subst (λ l. (p v : ℕ) → IsBusy (latency_of_op M) l p v → home_in l v < M.clusters) (sym layout_is) can.homes;
    }

    saved : IsSaved TheTarget f
    saved = record {
      saved = λ p g v arguments result at i. (let s = frame.saves.saved p g v arguments result at i in record { live = s.live; other = s.other; number = s.number; register = s.register });
      saves = λ p g v arguments result at s. frame.saves.saves p g v arguments result at (record { live = s.live; other = s.other; number = s.number; register = s.register });
      brought = λ v i. (let a = frame.saves.brought v i in record { passed = a.passed; live = a.live; number = a.number; register = a.register });
      brings = λ v a. frame.saves.brings v (record { passed = a.passed; live = a.live; number = a.number; register = a.register });
      saved_once = frame.saves.saved_once;
      brought_once = frame.saves.brought_once;
    }

    abbrev Needs : ℕ → Type 0
    Needs v = SlotNeeded (GraphOf f).parameters (MapOf f) (FrameAt f).saved v

    -- what is busy and in no register is in a slot
    spilled : (p v : ℕ) → IsBusy (latency_of_op M) (LayoutOf f) p v → is_slotted (kept_of (MapOf f) v) ≡ true → Needs v
    spilled p v busy e = by (kept_of (MapOf f) v) refl
      where
        by : (k : Kept) → kept_of (MapOf f) v ≡ k → Needs v
        by (InRegister n) q = absurd (let z : true ≡ false = sym e ∙ ap is_slotted q in cc)
        by (InSlot k) q = is_kept k q
        by Nowhere q = absurd (mapped.apart.placed v p busy q)

    needed : (v : ℕ) → NeedsSlot TheTarget f v → Needs v
    needed v (is_passed i) = is_passed_there i
    needed v (is_spilled p busy e) = spilled p v busy e
    needed v (is_saved p g arguments result at i) = is_saved_there p i

    abbrev At : ℕ → ℕ
    At a = slice_index_or (FrameAt f).arrays a 0

    abbrev Globals : ℕ
    Globals = length flow.globals

    own : (a : ℕ) → Globals ≤ a → length found.addresses ≤ a
    own a le = let e = found.as_many in omega arith

    ends : (FrameAt f).words ≤ W.sizes.frame
    ends = found.most_frame f

    in_order : (a b i j : ℕ) → Globals ≤ a → HasWord TheTarget f a i → HasWord TheTarget f b j → a < b → At a + i ≡ At b + j → ⊥
    in_order a b i j le x y less e = let o = frame.arrays.own_apart a b x.array y.array x.is y.is (own a le) less in let z = x.below in omega arith

    same_array : (a : ℕ) (x y : Array) → slice_get (GraphOf f).arrays a ≡ Some x → slice_get (GraphOf f).arrays a ≡ Some y → x ≡ y
    same_array a x y e q = let z : Some x ≡ Some y = sym e ∙ q in cc

    own_apart : (a b i j : ℕ) → Globals ≤ a → Globals ≤ b → HasWord TheTarget f a i → HasWord TheTarget f b j → At a + i ≡ At b + j → (a ≡ b) × (i ≡ j)
    own_apart a b i j le lb x y e = ⊎_elim
        (λ less. absurd (in_order a b i j le x y less e))
        (λ other. ⊎_elim
        (λ less. absurd (in_order b a j i lb y x less (sym e)))
        (λ back. (let q : a ≡ b = omega arith in let z : At a ≡ At b = ap At q in (q, omega arith)))
        (cases_lt b a))
        (cases_lt a b)

    global_at : (a : ℕ) → a < Globals → At a ≡ words_before flow.globals a
    global_at a less =
        let x = get_some flow.globals a less in
        let graph_in : IsIn (GraphOf f) flow.functions = get_in flow.functions f (GraphOf f) is_function.graph in
        let g = sound.globals (GraphOf f) a x.0 graph_in x.1 in
        frame.arrays.globals a g.array g.is (let e = found.as_many in omega arith) ∙ found.address a less

    framed : IsFramed TheTarget flow f
    framed = record {
      slot_from = λ v n. frame.slots.from v (needed v n);
      slot_to = λ v n. (let a = frame.slots.to v (needed v n) in let b = frame.within in let c = ends in omega arith);
      slots = λ u v n k e. frame.slots.apart u v (needed u n) (needed v k) e;
      own_from = λ a i le x. (let z = frame.arrays.own_from a x.array x.is (own a le) in let y = frame.behind_link in omega arith);
      own_to = λ a i le x. (let z = frame.arrays.own_to a x.array x.is (own a le) in let y = x.below in let c = ends in omega arith);
      own_end = λ a array le is. (let z = frame.arrays.own_to a array is (own a le) in let c = ends in omega arith);
      own_apart = own_apart;
      slot_own = λ v a i n le x e. (let s = frame.slots.to v (needed v n) in let z = frame.arrays.own_from a x.array x.is (own a le) in let q : slice_index_or (FrameAt f).slots v 0 ≡ At a + i = e in omega arith);
      globals = global_at;
    }

  pub carries : (w : WordProgram) → Made W flow w → Carries TheTarget flow W.layouts.now w
  carries w made = record {
    machine = found.machine;
    functions = λ f lt. record { is = is_function f lt; mapped = mapped f lt; saved = saved f lt; framed = framed f lt };
    some_frame = found.some_frame;
    globals = found.globals;
    small = (let a = made.memory in let b = made.few_bytes in omega arith);
    memory = made.memory;
    start = made.start;
    version = made.version;
    texts = made.texts;
    placed = made.placed;
    few = made.few;
  }

pub finishes : (W : Whole) (flow : Flow) (x : Finished) → SoundLaw → is_sound_flow flow ≡ true → Found W flow → Made W flow x.program → x.places ≡ all_traces (all_places (seen W) (functions_begin (seen W) flow.main) 0 (length flow.functions)) 0 W.layouts.now → Finishes W.machine.now flow W.layouts.now W.maps.now x
finishes W flow x law sound found made places =
    let w = x.program in
    let flow_sound = (told flow (is_sound_flow flow) refl).0 sound in
    let T = TheTarget W flow flow_sound found in
    let c : Carries T flow W.layouts.now w = carries W flow flow_sound found w made in
    record {
      finished = record {
        target = T;
        machine_is = refl;
        version = made.version;
        maps_are = λ f lt. (let can = found.can.each f lt in can.map_is ∙ ap Some (sym (get_or_from_slice_get W.maps.now f can.map no_map can.map_is)));
        carries = c;
        sound = law T flow W.layouts.now w sound c (made.ascending w.memory (let a = made.memory in let b = found.globals in omega arith));
      };
      functions = found.can.layouts;
      places = subst (ArePlaces T W.layouts.now) (sym places) (are_places (seen W) flow.main (length flow.functions) W.layouts.now found.can.layouts (λ f. refl)
          (λ f lt. let can = found.can.each f lt in subst IsNumbered (sym (get_or_from_slice_get W.layouts.now f can.layout no_layout can.layout_is)) can.code.numbered));
    }
