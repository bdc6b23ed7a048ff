-- From the source to its words, step by step: graphs, graphs of blocks and regions, layouts, words.
use Rattle.std.proofs.Common.{◌≡◌, ◌≢◌, inl, inr, ℕ, zero, suc, ◌<◌, ℤ, true, List, [], ◌∷◌, ◌++◌, length, Option, Some, None, refl, sym, ap, ◌∙◌, subst, arith, All, ◌+◌, ◌≤◌, get_or, take}
use Rattle.std.proofs.lemmas.List.{take_more}
use Rattle.std.specs.Prelude.{slice_get}
use Rattle.std.proofs.Math.Path.{fun_ext}
use Rattle.vx_base.specs.Arithmetic.{IsNumber}
use Rattle.vx_base.specs.Outcome.{Outcome, Same, NeverFails, SameIsTransitive}
use Rattle.vx_ast.specs.Tree.{Program}
use Rattle.vx_ast.specs.Meaning.{source}
use Rattle.vx_flow.specs.declared.graph.Graph.{Graph}
use Rattle.vx_flow.specs.declared.graph.Flow.{Flow}
use Rattle.vx_flow.specs.declared.graph.Op.{Op}
use Rattle.vx_flow.specs.Apart.{GlobalsFirst}
use Rattle.vx_flow.specs.Meaning.{graph_run}
use Rattle.vx_flow.proofs.Entering.{globals_first}
use Rattle.vx_flow.proofs.SoundFlowLaw.{flow_is}
use Rattle.vx_isa.specs.declared.program.WordProgram.{WordProgram}
use Rattle.vx_isa.specs.Fits.{fits}
use Rattle.vx_isa.specs.Machine.{issuing_machine, words_run}
use Rattle.vx_isa.specs.Numbers.{Numbers, IsMachine}
use Rattle.vx_isa.specs.Paths.{PathStrict}
use Rattle.vx_isa.proofs.IssuingMachine.{issuing_machine_own}
use Rattle.vx_lower.specs.FlowOf.{FlowOf, AreNumbers}
use Rattle.vx_room.specs.Items.{latency_of_op}
use Rattle.vx_mixed.specs.declared.mixed.MixedGraph.{MixedGraph}
use Rattle.vx_mixed.specs.declared.layout.VWords.{VWords}
use Rattle.vx_motion.specs.Context.{EachOfGraph, BothStep, HaveGlobalsFirst}
use Rattle.vx_mixed.specs.FromGraph.{OfGraph}
use Rattle.vx_layout.specs.Laid.{laid_run}
use Rattle.vx_layout.specs.LayoutLaws.{SameFrame, BothLaidOut}
use Rattle.vx_mixed.specs.Program.{mixed_run}
use Rattle.vx_mixed.specs.Settled.{Settled}
use Rattle.vx_region.specs.Regions.{room_in}
use Rattle.vx_regs.specs.declared.map.RegMap.{RegMap}
use Rattle.vx_regs.specs.Mapped.{KeepsApart, Mapped}
use Rattle.vx_target.specs.Carried.{DoesTheSame, KeepsTo}
use Rattle.vx_target.specs.declared.finished.Finished.{Finished}
use Rattle.vx_target.specs.Finish.{CanFinish, AllCanFinish, IsFinished, Finishes}
use Rattle.vx_tie.specs.Plans.{AreSpaced, IsSpaced, SpacedLaw}
use Rattle.vx_isa.specs.Range.{is_in_range}
use Rattle.vx_profile.specs.declared.counts.Counts.{Counts}
use Rattle.vx_region.specs.declared.trace_plan.TracePlan.{TracePlan}
use Rattle.vx_compiled.specs.Compiled.{AreMapsOf, Compiled, Planned, all_in_slots, layouts_of}
use Rattle.vx_compiled.specs.CompiledWith.{CompiledFrom, CompiledWith}
use Rattle.vx_report.specs.declared.plan.Plan.{Plan}
use Rattle.vx_rewrite.specs.Rewritten.{Rewritten}
use Rattle.vx_compiled.specs.declared.program.FlowSize.{FlowSize}
use Rattle.vx_compile.specs.Stages.{IsInside, AreInside, IsLayoutOf, AreLayoutsFrom, AreLayoutsOf, StageLaws}
use Rattle.vx_compiled.specs.Sized.{all_blocks, Sized}
use Rattle.vx_compile.proofs.OneFunction.{Finishable, finishable}

-- inputs

pub are_numbers : (input : List ℤ) → All IsNumber input → AreNumbers input
are_numbers [] all n m = absurd m
are_numbers (x ∷ xs) all n (inl e) = subst IsNumber (sym e) (all zero x (omega arith))
are_numbers (x ∷ xs) all n (inr m) = are_numbers xs (λ k d below. all (suc k) d (omega arith)) n m

-- the graphs of blocks and regions, as they begin, each with its number, and as they end

still_of : (m : MixedGraph) (f : ℕ) (graph : Graph) → OfGraph graph m → OfGraph graph (record m { function = f })
still_of m f graph b = record { nodes = b.nodes; regions = b.regions; banks = b.banks; parameters = b.parameters; arrays = b.arrays }

abbrev begun_of : (n : ℕ) (machine : Numbers) (graphs : List Graph) (ls : List VWords) → AreLayoutsFrom n machine graphs ls → List MixedGraph
begun_of n machine [] [] h = []
begun_of n machine (graph ∷ graphs) (l ∷ ls) h = record (h.0.begun) { function = n } ∷ begun_of (n + 1) machine graphs ls h.1
begun_of n machine [] (l ∷ ls) h = absurd h
begun_of n machine (graph ∷ graphs) [] h = absurd h

abbrev done_of : (n : ℕ) (machine : Numbers) (graphs : List Graph) (ls : List VWords) → AreLayoutsFrom n machine graphs ls → List MixedGraph
done_of n machine [] [] h = []
done_of n machine (graph ∷ graphs) (l ∷ ls) h = h.0.done ∷ done_of (n + 1) machine graphs ls h.1
done_of n machine [] (l ∷ ls) h = absurd h
done_of n machine (graph ∷ graphs) [] h = absurd h

begin_so : (n : ℕ) (machine : Numbers) (graphs : List Graph) (ls : List VWords) (h : AreLayoutsFrom n machine graphs ls) (f : ℕ) → EachOfGraph (slice_get graphs f) (slice_get (begun_of n machine graphs ls h) f)
begin_so n machine [] [] h f = tt
begin_so n machine (graph ∷ graphs) (l ∷ ls) h zero = still_of h.0.begun n graph h.0.from.blocks
begin_so n machine (graph ∷ graphs) (l ∷ ls) h (suc f) = begin_so (n + 1) machine graphs ls h.1 f
begin_so n machine [] (l ∷ ls) h f = absurd h
begin_so n machine (graph ∷ graphs) [] h f = absurd h

begin_first : (globals n : ℕ) (machine : Numbers) (graphs : List Graph) (ls : List VWords) (h : AreLayoutsFrom n machine graphs ls) →
    ((f : ℕ) (g : Graph) → slice_get graphs f ≡ Some g → GlobalsFirst globals g.arrays) → HaveGlobalsFirst globals (begun_of n machine graphs ls h)
begin_first globals n machine [] [] h first f m e = absurd (cc)
begin_first globals n machine (graph ∷ graphs) (l ∷ ls) h first zero m e =
    let q : record (h.0.begun) { function = n } ≡ m = cc in
    subst (λ (x : MixedGraph). GlobalsFirst globals x.arrays) q (subst (GlobalsFirst globals) (sym h.0.from.blocks.arrays) (first 0 graph refl))
begin_first globals n machine (graph ∷ graphs) (l ∷ ls) h first (suc f) m e = begin_first globals (n + 1) machine graphs ls h.1 (λ k g. first (suc k) g) f m e
begin_first globals n machine [] (l ∷ ls) h first f m e = absurd h
begin_first globals n machine (graph ∷ graphs) [] h first f m e = absurd h

all_step : (n : ℕ) (machine : Numbers) (graphs : List Graph) (ls : List VWords) (h : AreLayoutsFrom n machine graphs ls) (f : ℕ) →
    BothStep (latency_of_op machine) (slice_get (begun_of n machine graphs ls h) f) (slice_get (done_of n machine graphs ls h) f)
all_step n machine [] [] h f = tt
all_step n machine (graph ∷ graphs) (l ∷ ls) h zero = h.0.replaced.steps
all_step n machine (graph ∷ graphs) (l ∷ ls) h (suc f) = all_step (n + 1) machine graphs ls h.1 f
all_step n machine [] (l ∷ ls) h f = absurd h
all_step n machine (graph ∷ graphs) [] h f = absurd h

same_frames : (n : ℕ) (machine : Numbers) (graphs : List Graph) (ls : List VWords) (h : AreLayoutsFrom n machine graphs ls) (f : ℕ) → SameFrame (slice_get graphs f) (slice_get (done_of n machine graphs ls h) f)
same_frames n machine [] [] h f = tt
same_frames n machine (graph ∷ graphs) (l ∷ ls) h zero = (h.0.replaced.is.code.parameters, h.0.replaced.is.code.arrays)
same_frames n machine (graph ∷ graphs) (l ∷ ls) h (suc f) = same_frames (n + 1) machine graphs ls h.1 f
same_frames n machine [] (l ∷ ls) h f = absurd h
same_frames n machine (graph ∷ graphs) [] h f = absurd h

all_laid_out : (n : ℕ) (machine : Numbers) (graphs : List Graph) (ls : List VWords) (h : AreLayoutsFrom n machine graphs ls) (f : ℕ) → BothLaidOut (slice_get (done_of n machine graphs ls h) f) (slice_get ls f)
all_laid_out n machine [] [] h f = tt
all_laid_out n machine (graph ∷ graphs) (l ∷ ls) h zero = record { valid = h.0.valid; done = h.0.replaced.done; is = h.0.is }
all_laid_out n machine (graph ∷ graphs) (l ∷ ls) h (suc f) = all_laid_out (n + 1) machine graphs ls h.1 f
all_laid_out n machine [] (l ∷ ls) h f = absurd h
all_laid_out n machine (graph ∷ graphs) [] h f = absurd h

all_settled : (n : ℕ) (machine : Numbers) (graphs : List Graph) (ls : List VWords) (h : AreLayoutsFrom n machine graphs ls) (f : ℕ) (m : MixedGraph) → slice_get (done_of n machine graphs ls h) f ≡ Some m →
    Settled (room_in machine) (latency_of_op machine) m
all_settled n machine [] [] h f m e = absurd (cc)
all_settled n machine (graph ∷ graphs) (l ∷ ls) h zero m e = let q : h.0.done ≡ m = cc in subst (Settled (room_in machine) (latency_of_op machine)) q h.0.replaced.is.settled
all_settled n machine (graph ∷ graphs) (l ∷ ls) h (suc f) m e = all_settled (n + 1) machine graphs ls h.1 f m e
all_settled n machine [] (l ∷ ls) h f m e = absurd h
all_settled n machine (graph ∷ graphs) [] h f m e = absurd h

all_spaced : SpacedLaw → (n : ℕ) (machine : Numbers) (graphs : List Graph) (ls : List VWords) → AreLayoutsFrom n machine graphs ls → AreSpaced ls
all_spaced law n machine [] [] h f l e = absurd (let z : None ≡ Some l = e in cc)
all_spaced law n machine (graph ∷ graphs) (x ∷ ls) h zero l e = let same : x ≡ l = cc in subst IsSpaced same (subst IsSpaced (sym h.0.is) (law h.0.done))
all_spaced law n machine (graph ∷ graphs) (x ∷ ls) h (suc f) l e = all_spaced law (n + 1) machine graphs ls h.1 f l e
all_spaced law n machine [] (x ∷ ls) h f l e = absurd h
all_spaced law n machine (graph ∷ graphs) [] h f l e = absurd h

-- runs

-- where the one is the same as the source, and never fails, so is the other
pub record Does (p : Program) (input : List ℤ) (run : ℕ → Outcome) : Type 0 where
  pub same : Same (source p input) run
  pub never : NeverFails run

module _ (transitive : SameIsTransitive) (p : Program) (input : List ℤ) where
  on : (f g : ℕ → Outcome) → Does p input f → Same f g × NeverFails g → Does p input g
  on f g d h = record { same = transitive (source p input) f g d.same h.0; never = h.1 }

  like : (f g : ℕ → Outcome) → ((n : ℕ) → g n ≡ f n) → Does p input f → Does p input g
  like f g e d = subst (Does p input) (sym (fun_ext e)) d

module _ (laws : StageLaws) (p : Program) (flow : Flow) (machine : Numbers) (ls : List VWords) (is : FlowOf p flow) (laid : AreLayoutsOf machine flow.functions ls) where
  abbrev latency : Op → ℕ
  latency = latency_of_op machine

  abbrev soon : List ℕ
  soon = 1 ∷ []

  some_time : soon ≢ []
  some_time e = cc

  abbrev begun : List MixedGraph
  begun = begun_of 0 machine flow.functions ls laid

  abbrev done : List MixedGraph
  done = done_of 0 machine flow.functions ls laid

  graphs_do : (input : List ℤ) → AreNumbers input → Does p input (graph_run flow input)
  graphs_do input numbers = record { same = is.runs.same input numbers; never = is.runs.never_wrong input numbers }

  begun_do : (input : List ℤ) → AreNumbers input → Does p input (mixed_run flow soon latency begun input)
  begun_do input numbers =
      like laws.transitive p input (graph_run flow input) (mixed_run flow soon latency begun input)
      (laws.means flow begun (begin_so 0 machine flow.functions ls laid) soon latency input) (graphs_do input numbers)

  begun_first : HaveGlobalsFirst (length flow.globals) begun
  begun_first = begin_first (length flow.globals) 0 machine flow.functions ls laid (globals_first flow (flow_is flow is.sound))

  done_do : (input : List ℤ) → AreNumbers input → Does p input (mixed_run flow soon latency done input)
  done_do input numbers =
      let before = begun_do input numbers in
      on laws.transitive p input (mixed_run flow soon latency begun input) (mixed_run flow soon latency done input) before
      (laws.steps flow soon latency begun done input some_time begun_first (all_step 0 machine flow.functions ls laid) before.never)

  pub laid_do : (input : List ℤ) → AreNumbers input → Does p input (laid_run flow ls input)
  laid_do input numbers =
      let before = done_do input numbers in
      on laws.transitive p input (mixed_run flow soon latency done input) (laid_run flow ls input) before
      (laws.layouts flow soon latency (room_in machine) done ls input some_time (same_frames 0 machine flow.functions ls laid) (all_laid_out 0 machine flow.functions ls laid)
      (all_settled 0 machine flow.functions ls laid) before.never)

  module _ (maps : List RegMap) (x : Finished) (works : IsMachine machine) (all : Finishes machine flow ls maps x) where
    abbrev w : WordProgram
    w = x.program

    abbrev finished : IsFinished machine flow ls maps w
    finished = all.finished

    law : KeepsTo finished.target.machine w × ((input : List ℤ) → NeverFails (laid_run flow ls input) → DoesTheSame finished.target flow ls w input)
    law = laws.frames finished.target flow ls w is.sound finished.carries

    keeps : KeepsTo machine w
    keeps = subst (λ m. KeepsTo m w) finished.machine_is law.0

    soon_do : (input : List ℤ) → AreNumbers input → Does p input (words_run machine soon w input)
    soon_do input numbers =
        let before = laid_do input numbers in
        let words = law.1 input before.never in
        subst (λ m. Does p input (words_run m soon w input)) finished.machine_is
        (on laws.transitive p input (laid_run flow ls input) (words_run finished.target.machine soon w input) before (words.same, words.never_stuck))

    words_do : (input : List ℤ) (times : List ℕ) → AreNumbers input → Does p input (words_run machine times w input)
    words_do input times numbers =
        like laws.transitive p input (words_run machine soon w input) (words_run machine times w input)
        (λ n. laws.timings machine w works keeps.never_reads_early keeps.never_writes_early times soon input n) (soon_do input numbers)

    pub compiled : (counts : Counts) (growth : ℕ) (traces : List TracePlan) (spilled copies : ℕ) (planned : Planned machine counts growth flow.functions traces copies) → ls ≡ layouts_of planned.functions → AreMapsOf machine ls maps →
        spilled ≡ all_in_slots maps → is_in_range w ≡ true → Compiled p counts machine growth w (record { traces = traces; places = x.places; spilled = spilled; copies = copies })
    compiled counts growth traces spilled copies planned are kept in_slots in_range =
        let own : issuing_machine w machine ≡ machine = issuing_machine_own w machine finished.version in
        let strict : PathStrict machine w = record { fit = λ p word at. subst (λ (m : Numbers). fits m word.ops ≡ true) (sym own) (keeps.fit p word at); never_early = keeps.never_reads_early } in
        let done : Finishes machine flow (layouts_of planned.functions) maps x = subst (λ z. Finishes machine flow z maps x) are all in
        record {
          flow = flow;
          flow_of = is;
          planned = planned;
          maps = maps;
          kept = subst (λ z. AreMapsOf machine z maps) are kept;
          spilled = in_slots;
          emitted = laws.emits machine flow (layouts_of planned.functions) maps x done is.sound (subst AreSpaced are (all_spaced laws.spaced 0 machine flow.functions ls laid));
          faithful = record {
            same = λ input times all some. (words_do input times (are_numbers input all)).same;
            never_stuck = λ input times all some. (words_do input times (are_numbers input all)).never;
          };
          path_strict = strict;
          strict = laws.paths machine w strict;
          sound = all.finished.sound;
          version = finished.version;
          in_range = in_range;
        }

    -- its graphs are these
    pub compiled_from : (counts : Counts) (growth : ℕ) (traces : List TracePlan) (spilled copies : ℕ) (planned : Planned machine counts growth flow.functions traces copies) → ls ≡ layouts_of planned.functions → AreMapsOf machine ls maps →
        spilled ≡ all_in_slots maps → is_in_range w ≡ true → CompiledFrom p counts machine growth flow w (record { traces = traces; places = x.places; spilled = spilled; copies = copies })
    unfolding compiled
    compiled_from counts growth traces spilled copies planned are kept in_slots in_range = record { compiled = compiled counts growth traces spilled copies planned are kept in_slots in_range; flow_is = refl }

-- compiled words with the size of their graphs, and with what their graphs come of

module _ (p : Program) (counts : Counts) (machine : Numbers) (growth : ℕ) (flow : Flow) (w : WordProgram) (plan : Plan) (from : CompiledFrom p counts machine growth flow w plan) where
  pub compiled_sized : (size : FlowSize) → size.functions ≡ length flow.functions → size.blocks ≡ all_blocks flow.functions → Sized p counts machine growth w plan size
  compiled_sized size functions blocks = record {
    compiled = from.compiled;
    functions_are = functions ∙ ap (λ (f : Flow). length f.functions) (sym from.flow_is);
    blocks_are = blocks ∙ ap (λ (f : Flow). all_blocks f.functions) (sym from.flow_is);
  }

  pub compiled_with : (inline select : Option ℕ) → Rewritten p inline select flow → CompiledWith p counts machine growth inline select w plan
  compiled_with inline select rewritten = record { compiled = from.compiled; rewritten = subst (Rewritten p inline select) (sym from.flow_is) rewritten }

-- what finishing asks for

pub as_many_layouts : (n : ℕ) (machine : Numbers) (graphs : List Graph) (ls : List VWords) → AreLayoutsFrom n machine graphs ls → length ls ≡ length graphs
as_many_layouts n machine [] [] h = refl
as_many_layouts n machine (graph ∷ graphs) (l ∷ ls) h = ap suc (as_many_layouts (n + 1) machine graphs ls h.1)
as_many_layouts n machine [] (l ∷ ls) h = absurd h
as_many_layouts n machine (graph ∷ graphs) [] h = absurd h

pub as_many_maps : (machine : Numbers) (ls : List VWords) (maps : List RegMap) → AreMapsOf machine ls maps → length maps ≡ length ls
as_many_maps machine [] [] h = refl
as_many_maps machine (l ∷ ls) (map ∷ maps) h = ap suc (as_many_maps machine ls maps h.1)
as_many_maps machine [] (map ∷ maps) h = absurd h
as_many_maps machine (l ∷ ls) [] h = absurd h

-- what a function has at its number
pub record At (machine : Numbers) (graphs : List Graph) (ls : List VWords) (maps : List RegMap) (f : ℕ) : Type 0 where
  pub graph : Graph
  pub layout : VWords
  pub map : RegMap
  pub graph_is : slice_get graphs f ≡ Some graph
  pub layout_is : slice_get ls f ≡ Some layout
  pub map_is : slice_get maps f ≡ Some map
  pub number : ℕ
  pub laid : IsLayoutOf machine number graph layout
  pub apart : KeepsApart machine (latency_of_op machine) layout map

at : (n : ℕ) (machine : Numbers) (graphs : List Graph) (ls : List VWords) (maps : List RegMap) → AreLayoutsFrom n machine graphs ls → AreMapsOf machine ls maps → (f : ℕ) → f < length graphs → At machine graphs ls maps f
at n machine [] ls maps h k f below = absurd (omega arith)
at n machine (graph ∷ graphs) [] maps h k f below = absurd h
at n machine (graph ∷ graphs) (l ∷ ls) [] h k f below = absurd k
at n machine (graph ∷ graphs) (l ∷ ls) (map ∷ maps) h k zero below = record { graph = graph; layout = l; map = map; graph_is = refl; layout_is = refl; map_is = refl; number = n; laid = h.0; apart = k.0.keeps }
at n machine (graph ∷ graphs) (l ∷ ls) (map ∷ maps) h k (suc f) below =
    let r = at (n + 1) machine graphs ls maps h.1 k.1 f (omega arith) in
    record { graph = r.graph; layout = r.layout; map = r.map; graph_is = r.graph_is; layout_is = r.layout_is; map_is = r.map_is; number = r.number; laid = r.laid; apart = r.apart }

inside_from : (laws : StageLaws) (n : ℕ) (machine : Numbers) (graphs : List Graph) (ls : List VWords) → IsMachine machine → AreLayoutsFrom n machine graphs ls → AreInside ls
inside_from laws n machine [] [] works h f l e = absurd (let z : None ≡ Some l = e in cc)
inside_from laws n machine (graph ∷ graphs) (x ∷ ls) works h zero l e =
    let can : Finishable machine graph x = finishable laws.settles laws.comes laws.brief machine n graph x works h.0 in
    let same : x ≡ l = cc in
    subst IsInside same (record { words = can.settled.inside; entry = can.settled.entry })
inside_from laws n machine (graph ∷ graphs) (x ∷ ls) works h (suc f) l e = inside_from laws (n + 1) machine graphs ls works h.1 f l e
inside_from laws n machine [] (x ∷ ls) works h f l e = absurd h
inside_from laws n machine (graph ∷ graphs) [] works h f l e = absurd h

pub all_inside : (laws : StageLaws) (machine : Numbers) (graphs : List Graph) (ls : List VWords) → IsMachine machine → AreLayoutsOf machine graphs ls → AreInside ls
all_inside laws machine graphs ls works h = inside_from laws 0 machine graphs ls works h

pub all_can_finish : (laws : StageLaws) (machine : Numbers) (flow : Flow) (ls : List VWords) (maps : List RegMap) →
    IsMachine machine → AreLayoutsOf machine flow.functions ls → AreMapsOf machine ls maps → AllCanFinish machine flow ls maps
all_can_finish laws machine flow ls maps works h k = record {
  layouts = as_many_layouts 0 machine flow.functions ls h;
  maps = as_many_maps machine ls maps k ∙ as_many_layouts 0 machine flow.functions ls h;
  each = λ f below. each f (at 0 machine flow.functions ls maps h k f below);
}
  where
    each : (f : ℕ) → At machine flow.functions ls maps f → CanFinish machine flow ls maps f
    each f a =
        let can : Finishable machine a.graph a.layout = finishable laws.settles laws.comes laws.brief machine a.number a.graph a.layout works a.laid in
        record {
          graph = a.graph;
          layout = a.layout;
          map = a.map;
          graph_is = a.graph_is;
          layout_is = a.layout_is;
          map_is = a.map_is;
          settled = can.settled;
          brief = can.brief;
          code = can.code;
          apart = a.apart;
          homes = can.homes;
        }

-- one more function

pub one_more_layout : (n m : ℕ) (machine : Numbers) (graphs : List Graph) (ls : List VWords) (graph : Graph) (l : VWords) → m ≡ n + length ls → AreLayoutsFrom n machine graphs ls → IsLayoutOf machine m graph l →
    AreLayoutsFrom n machine (graphs ++ graph ∷ []) (ls ++ l ∷ [])
one_more_layout n m machine [] [] graph l at h is = let same : m ≡ n = omega (arith, at) in (subst (λ k. IsLayoutOf machine k graph l) same is, tt)
one_more_layout n m machine (g ∷ graphs) (k ∷ ls) graph l at h is = (h.0, one_more_layout (n + 1) m machine graphs ls graph l (omega (arith, at)) h.1 is)
one_more_layout n m machine [] (k ∷ ls) graph l at h is = absurd h
one_more_layout n m machine (g ∷ graphs) [] graph l at h is = absurd h

pub one_more_map : (machine : Numbers) (ls : List VWords) (maps : List RegMap) (l : VWords) (map : RegMap) → AreMapsOf machine ls maps → Mapped machine (latency_of_op machine) l map →
    AreMapsOf machine (ls ++ l ∷ []) (maps ++ map ∷ [])
one_more_map machine [] [] l map h is = (is, tt)
one_more_map machine (k ∷ ls) (other ∷ maps) l map h is = (h.0, one_more_map machine ls maps l map h.1 is)
one_more_map machine [] (other ∷ maps) l map h is = absurd h
one_more_map machine (k ∷ ls) [] l map h is = absurd h

pub layouts_step : (machine : Numbers) (graphs : List Graph) (i number : ℕ) (graph : Graph) (ls ls' : List VWords) (l : VWords) → i < length graphs → graph ≡ get_or graphs i graph → number ≡ length ls →
    AreLayoutsOf machine (take i graphs) ls → IsLayoutOf machine number graph l → ls' ≡ ls ++ l ∷ [] → AreLayoutsOf machine (take (i + 1) graphs) ls'
layouts_step machine graphs i number graph ls ls' l below item many h is e =
    let at : number ≡ 0 + length ls = omega (arith, many) in
    let t : take (i + 1) graphs ≡ take i graphs ++ graph ∷ [] = take_more graphs i graph below ∙ ap (λ z. take i graphs ++ z ∷ []) (sym item) in
    subst (λ z. AreLayoutsOf machine z ls') (sym t) (subst (AreLayoutsOf machine (take i graphs ++ graph ∷ [])) (sym e) (one_more_layout 0 number machine (take i graphs) ls graph l at h is))

pub maps_step : (machine : Numbers) (ls : List VWords) (i : ℕ) (l : VWords) (maps maps' : List RegMap) (map : RegMap) → i < length ls → l ≡ get_or ls i l →
    AreMapsOf machine (take i ls) maps → Mapped machine (latency_of_op machine) l map → maps' ≡ maps ++ map ∷ [] → AreMapsOf machine (take (i + 1) ls) maps'
maps_step machine ls i l maps maps' map below item h is e =
    let t : take (i + 1) ls ≡ take i ls ++ l ∷ [] = take_more ls i l below ∙ ap (λ z. take i ls ++ z ∷ []) (sym item) in
    subst (λ z. AreMapsOf machine z maps') (sym t) (subst (AreMapsOf machine (take i ls ++ l ∷ [])) (sym e) (one_more_map machine (take i ls) maps l map h is))

pub item_at : {A : Type 0} (xs : List A) (i : ℕ) (x : A) → i < length xs → x ≡ get_or xs i x → slice_get xs i ≡ Some x
item_at [] i x below is = absurd (omega arith)
item_at (y ∷ ys) zero x below is = ap Some (sym is)
item_at (y ∷ ys) (suc i) x below is = item_at ys i x (omega arith) is

pub take_whole : {A : Type 0} (xs : List A) (i : ℕ) → length xs ≤ i → take i xs ≡ xs
take_whole [] zero h = refl
take_whole [] (suc i) h = refl
take_whole (x ∷ xs) zero h = absurd (omega arith)
take_whole (x ∷ xs) (suc i) h = ap (λ z. x ∷ z) (take_whole xs i (omega arith))
