-- A flow whose diamonds were converted is sound, does the same, and stays a flow of its program.
use Rattle.std.proofs.Common.{◌≡◌, ◌≢◌, inl, inr, ℕ, ◌<◌, ℤ, Bool, true, List, [], ◌∷◌, length, map, slice_get, Option, Some, None, refl, sym, ap, subst, ◌∙◌, arith}
use Rattle.std.specs.Option.{option_map}
use Rattle.std.proofs.lemmas.Option.{slice_get-map}
use Rattle.vx_base.specs.Outcome.{Same, NeverFails}
use Rattle.vx_base.proofs.Same.{same_on}
use Rattle.vx_ast.specs.Tree.{Function, Program}
use Rattle.vx_ast.specs.Meaning.{source}
use Rattle.vx_flow.specs.declared.graph.Operand.{Operand}
use Rattle.vx_flow.specs.declared.graph.Op.{Op}
use Rattle.vx_flow.specs.declared.graph.Op.TheVariants.{Text}
use Rattle.vx_flow.specs.declared.graph.Exit.{Exit}
use Rattle.vx_flow.specs.declared.graph.Exit.TheVariants.{Goto, Split, Call, Return, Ends}
use Rattle.vx_flow.specs.declared.graph.Block.{Block}
use Rattle.vx_flow.specs.declared.graph.Graph.{Graph}
use Rattle.vx_flow.specs.declared.graph.Flow.{Flow}
use Rattle.vx_flow.specs.Apart.{GlobalsFirst}
use Rattle.vx_flow.proofs.Entering.{globals_first}
use Rattle.vx_flow.specs.Meaning.{graph_run}
use Rattle.vx_flow.specs.Sound.{is_sound_flow, HasOperation, HasExit, Sound, SoundFlow}
use Rattle.vx_flow.proofs.SoundLaw.{sound_is, sound_of}
use Rattle.vx_flow.proofs.SoundFlowLaw.{flow_is, flow_of}
use Rattle.vx_lower.specs.FlowOf.{GraphOf, FlowOf}
use Rattle.vx_shape.specs.Flows.{with_graphs, Each}
use Rattle.vx_shape.proofs.Pairs.{At, each_at, each_length}
use Rattle.vx_mixed.specs.declared.mixed.MixedGraph.{MixedGraph}
use Rattle.vx_mixed.specs.Program.{mixed_run}
use Rattle.vx_motion.specs.Context.{Changes, Steps, Stays, Goes, BothStep, AllStep, EachOfGraph, HaveGlobalsFirst}
use Rattle.vx_motion.proofs.Chains.{steps_law}
use Rattle.vx_motion.proofs.FromGraphs.{means_the_flow}
use Rattle.vx_select.specs.Selected.{Diamond, numbered, led, changed, IsDiamond, converted, Selects, none_left, converts}
use Rattle.vx_select.specs.Laws.{ConvertedStays, SelectedSound, SelectedRuns, SelectedStays}
use Rattle.vx_select.proofs.Joined.{get_below, get_in}
use Rattle.vx_select.proofs.Numbered.{block_at}
use Rattle.vx_select.proofs.MixedLive.{mixed_of, of_graph}
use Rattle.vx_select.proofs.Converts.{same_meaning}
use Rattle.vx_select.proofs.Sounds.{new_operation, new_exit, base_was, base_stays, stays_sound}
use Rattle.vx_select.proofs.Shapes.{keeps_shape}
use Rattle.vx_select.proofs.Kept.{Keeps, keeps_itself, keeps_on, came, new_sound}

pub converted_stays : ConvertedStays
converted_stays live most g d h it = (sound_of (converted live g d) (stays_sound live most g d (sound_is g h) it), keeps_shape live most g d (sound_is g h) it)

-- ---- one graph

led_call : (to : ℕ → ℕ) (x : Exit) (f next : ℕ) (arguments : List Operand) (result : Option ℕ) → Call f arguments result next ≡ led to x → (c : ℕ) × (x ≡ Call f arguments result c)
led_call to (Goto c) f next arguments result e = absurd (cc)
led_call to (Split p c b) f next arguments result e = absurd (cc)
led_call to (Call k operands answer c) f next arguments result e =
    let a1 : k ≡ f = cc in
    let a2 : operands ≡ arguments = cc in
    let a3 : answer ≡ result = cc in
    (c, ap (λ z. Call z operands answer c) a1 ∙ ap (λ z. Call f z answer c) a2 ∙ ap (λ z. Call f arguments z c) a3)
led_call to (Return x) f next arguments result e = absurd (cc)
led_call to (Ends k) f next arguments result e = absurd (cc)

module _ (live : ℕ → ℕ → Bool) (most : ℕ) (g : Graph) (d : Diamond) (sound : Sound g) (it : IsDiamond live most g d) where
  text_was : (n : ℕ) → HasOperation (converted live g d) (Text n) → HasOperation g (Text n)
  text_was n at = elim (new_operation live most g d sound it (Text n) at) [ inl a ↦ a | inr f ↦ absurd (elim f.simple [ ]) ]

  call_was : (f next : ℕ) (arguments : List Operand) (result : Option ℕ) → HasExit (converted live g d) (Call f arguments result next) → (c : ℕ) × HasExit g (Call f arguments result c)
  call_was f next arguments result at =
      let o = new_exit live most g d sound it (Call f arguments result next) at in
      let c = led_call (numbered d) o.old f next arguments result o.is in
      (c.0, subst (HasExit g) c.1 o.has)

  first_stays : 0 < length g.blocks → 0 < length (converted live g d).blocks
  first_stays l = by g.blocks refl l
    where
      by : (xs : List Block) → g.blocks ≡ xs → 0 < length xs → 0 < length (converted live g d).blocks
      by [] e k = absurd (omega arith)
      by (x ∷ xs) e k = get_below (converted live g d).blocks (numbered d 0) (changed live g d 0 x) (block_at live g d 0 it.entry ∙ ap (λ (l : List Block). option_map (changed live g d 0) (slice_get l 0)) e)

  keeps_converted : Keeps g (converted live g d)
  keeps_converted = record {
    parameters = refl;
    arrays = refl;
    sound = stays_sound live most g d sound it;
    some = first_stays;
    texts = text_was;
    calls = call_was;
    bases = base_was live most g d sound it;
    bases_stay = base_stays live most g d sound it;
  }

selects_keeps : (most : ℕ) (g h : Graph) → Sound g → Selects most g h → Keeps g h
selects_keeps most g h s (none_left live l n) = keeps_itself g s
selects_keeps most g h s (converts live d l it low rest) =
    let k = keeps_converted live most g d s it in
    keeps_on g (converted live g d) h k (selects_keeps most (converted live g d) h k.sound rest)

selects_shape : (most : ℕ) (g h : Graph) → Sound g → Selects most g h → (p : Program) (f : Function) → GraphOf p f g → GraphOf p f h
selects_shape most g h s (none_left live l n) p f o = o
selects_shape most g h s (converts live d l it low rest) p f o = selects_shape most (converted live g d) h (stays_sound live most g d s it) rest p f (keeps_shape live most g d s it p f o)

selects_steps : (latency : Op → ℕ) (most : ℕ) (g h : Graph) → Sound g → Selects most g h → Steps latency (mixed_of g) (mixed_of h)
selects_steps latency most g h s (none_left live l n) = Stays
selects_steps latency most g h s (converts live d l it low rest) =
    Goes (Changes refl refl _ _ _ (same_meaning live most g d s l it latency)) (selects_steps latency most (converted live g d) h (stays_sound live most g d s it) rest)

-- ---- the flow

module _ (old : Flow) (graphs : List Graph) (most : ℕ) (each : Each (Selects most) old.functions graphs) (s : SoundFlow old) where
  abbrev new : Flow
  new = with_graphs old graphs

  -- ---- runs

  abbrev latency : Op → ℕ
  latency op = 0

  abbrev times : List ℕ
  times = 1 ∷ []

  some_times : times ≢ []
  some_times e = cc

  abbrev mixed : List Graph → List MixedGraph
  mixed gs = map mixed_of gs

  steps_by : (f : ℕ) (o q : Option Graph) → slice_get old.functions f ≡ o → At (Selects most) o q → BothStep latency (option_map mixed_of o) (option_map mixed_of q)
  steps_by f None None e a = tt
  steps_by f None (Some y) e a = absurd a
  steps_by f (Some x) None e a = absurd a
  steps_by f (Some x) (Some y) e a = selects_steps latency most x y (s.graphs x (get_in old.functions f x e)) a

  all_steps : AllStep latency (mixed old.functions) (mixed graphs)
  all_steps f =
      subst (λ z. BothStep latency z (slice_get (mixed graphs) f)) (sym (slice_get-map mixed_of old.functions f))
      (subst (BothStep latency (option_map mixed_of (slice_get old.functions f))) (sym (slice_get-map mixed_of graphs f))
      (steps_by f (slice_get old.functions f) (slice_get graphs f) refl (each_at (Selects most) old.functions graphs each f)))

  first_by : (f : ℕ) (o : Option Graph) → slice_get old.functions f ≡ o → (m : MixedGraph) → option_map mixed_of o ≡ Some m → GlobalsFirst (length old.globals) m.arrays
  first_by f None e m q = absurd (cc)
  first_by f (Some g) e m q =
      let r : mixed_of g ≡ m = cc in
      subst (λ (x : MixedGraph). GlobalsFirst (length old.globals) x.arrays) r (subst (GlobalsFirst (length old.globals)) (sym (of_graph g).arrays) (globals_first old s f g e))

  first_ones : HaveGlobalsFirst (length old.globals) (mixed old.functions)
  first_ones f m e = first_by f (slice_get old.functions f) refl m (sym (slice_get-map mixed_of old.functions f) ∙ e)

  of_graph_by : (o : Option Graph) → EachOfGraph o (option_map mixed_of o)
  of_graph_by None = tt
  of_graph_by (Some g) = of_graph g

  each_of : (gs : List Graph) (f : ℕ) → EachOfGraph (slice_get gs f) (slice_get (mixed gs) f)
  each_of gs f = subst (EachOfGraph (slice_get gs f)) (sym (slice_get-map mixed_of gs f)) (of_graph_by (slice_get gs f))

  module _ (input : List ℤ) where
    old_means : mixed_run old times latency (mixed old.functions) input ≡ graph_run old input
    old_means = λ i n. means_the_flow old (mixed old.functions) (each_of old.functions) times latency input n i

    new_means : mixed_run old times latency (mixed graphs) input ≡ graph_run new input
    new_means = λ i n. means_the_flow new (mixed graphs) (each_of graphs) times latency input n i

    pub same_runs : NeverFails (graph_run old input) → Same (graph_run old input) (graph_run new input) × NeverFails (graph_run new input)
    same_runs safe =
        let r = steps_law old times latency (mixed old.functions) (mixed graphs) input some_times first_ones all_steps (subst NeverFails (sym old_means) safe) in
        let a : Same (graph_run old input) (mixed_run old times latency (mixed graphs) input) = subst (λ x. Same x (mixed_run old times latency (mixed graphs) input)) old_means r.0 in
        (subst (Same (graph_run old input)) new_means a, subst NeverFails new_means r.1)

  shape_by : (p : Program) (function : Function) (f : ℕ) (h : Graph) → FlowOf p old → slice_get p.functions f ≡ Some function → slice_get graphs f ≡ Some h → GraphOf p function h
  shape_by p function f h o e q = let c = came (Selects most) (selects_keeps most) old graphs each s f h q in selects_shape most c.graph h (s.graphs c.graph (get_in old.functions f c.graph c.is)) c.related p function (o.graphs f function c.graph e c.is)

  pub stays_flow : (p : Program) → FlowOf p old → FlowOf p new
  stays_flow p o = record {
    sound = flow_of new (new_sound (Selects most) (selects_keeps most) old graphs each s);
    count = each_length (Selects most) old.functions graphs each ∙ o.count;
    graphs = λ f function h e q. shape_by p function f h o e q;
    globals = o.globals;
    main = o.main;
    runs = record {
      same = λ input numbers. let r = same_runs input (o.runs.never_wrong input numbers) in same_on (source p input) (graph_run old input) (graph_run new input) (o.runs.same input numbers) r.0;
      never_wrong = λ input numbers. let r = same_runs input (o.runs.never_wrong input numbers) in r.1;
    };
  }

pub selected_sound : SelectedSound
selected_sound old new most s h = subst (λ (f : Flow). is_sound_flow f ≡ true) (sym s.is) (flow_of (with_graphs old new.functions) (new_sound (Selects most) (selects_keeps most) old new.functions s.each (flow_is old h)))

pub selected_runs : SelectedRuns
selected_runs old new most s h input safe =
    let r = same_runs old new.functions most s.each (flow_is old h) input safe in
    subst (λ (f : Flow). Same (graph_run old input) (graph_run f input) × NeverFails (graph_run f input)) (sym s.is) r

pub selected_stays : SelectedStays
selected_stays p old new most s o = subst (FlowOf p) (sym s.is) (stays_flow old new.functions most s.each (flow_is old o.sound) p o)
