-- A flow of a program with edges that go straight past tests stays one; and steps of the pass.
use Rattle.std.proofs.Common.{◌≡◌, ℕ, zero, suc, ◌+◌, ◌<◌, true, ℤ, List, [], ◌∷◌, ◌++◌, length, take, get_or, slice_get, Option, Some, None, IfSome, refl, sym, ap, ◌∙◌, subst}
use Rattle.std.proofs.lemmas.Bool.{and_parts, eqb-true}
use Rattle.vx_base.specs.Outcome.{Same, NeverFails}
use Rattle.vx_base.proofs.Same.{same_on, same_self}
use Rattle.vx_ast.specs.Tree.{Function, Program}
use Rattle.vx_ast.specs.Meaning.{source}
use Rattle.vx_flow.specs.declared.graph.Block.{Block}
use Rattle.vx_flow.specs.declared.graph.Graph.{Graph}
use Rattle.vx_flow.specs.declared.graph.Flow.{Flow}
use Rattle.vx_flow.specs.Meaning.{graph_run}
use Rattle.vx_flow.specs.Sound.{is_sound_flow}
use Rattle.vx_flow.proofs.SoundLists.{all_at}
use Rattle.vx_lower.specs.FlowOf.{AreNumbers, GraphOf, FlowOf}
use Rattle.vx_shape.specs.Flows.{with_graphs, Each, OrSame, FlowStays}
use Rattle.vx_shape.specs.Shape.{Shaped}
use Rattle.vx_shape.specs.ShapeTest.{is_shaped}
use Rattle.vx_shape.proofs.ShapeTests.{shaped_where_tested}
use Rattle.vx_shape.proofs.Pairs.{At, each_at, each_length, each_related}
use Rattle.vx_shape.proofs.FlowsStay.{shape_kept}
use Rattle.std.proofs.lemmas.List.{take_more}
use Rattle.vx_claims.specs.declared.claim.Claim.{Claim}
use Rattle.vx_claims.specs.declared.intervals.Interval.{Interval}
use Rattle.vx_clean.specs.Cleaning.{Place, FunctionCleaned, Cleaned}
use Rattle.vx_clean.specs.Laying.{laid, places_from}
use Rattle.vx_clean.specs.LinkTest.{is_near_in, is_linked, moves, is_laid_out}
use Rattle.vx_clean.proofs.Cleans.{cleaned_runs}
use Rattle.vx_clean.proofs.Lays.{laid_cleaned}
use Rattle.vx_clean.proofs.LinkTests.{begun_if, linked_if}
use Rattle.vx_clean.proofs.Stays.{graph_itself}
use Rattle.vx_narrow.specs.Rewriting.{narrowed_graph}
use Rattle.vx_narrow.specs.Narrowing.{are_numbers, GraphsNarrowed, NarrowedWith}
use Rattle.vx_flow.specs.Apart.{GlobalsFirst, HasGlobalsFirst}
use Rattle.vx_flow.proofs.Entering.{globals_first}
use Rattle.vx_flow.proofs.SoundFlowLaw.{flow_is}
use Rattle.vx_narrow.proofs.Staged.{narrowed_graphs_run}
use Rattle.vx_thread.specs.Threading.{AreShaped, Copied, Steps, none, more, Threaded, ThreadedStays}

-- ---- graphs that differ in their blocks alone

abbrev Kept : Graph → Graph → Type 0
Kept old new = new ≡ record old { blocks = new.blocks }

kept_by : (claims : ℕ → Claim) (g h : Graph) → h ≡ narrowed_graph claims g → Kept g h
kept_by claims g h e = e ∙ ap (λ l. record g { blocks = l }) (sym (ap (λ (x : Graph). x.blocks) e))

kept_each : (given : ℕ → List Interval) (f : ℕ) (gs hs : List Graph) → NarrowedWith given f gs hs → Each Kept gs hs
kept_each given f [] [] s = tt
kept_each given f [] (h ∷ hs) s = absurd s
kept_each given f (g ∷ gs) [] s = absurd s
kept_each given f (g ∷ gs) (h ∷ hs) s = (kept_by s.0.claims g h s.0.narrowed, kept_each given (f + 1) gs hs s.1)

kept_then : (g m h : Graph) → Kept g m → Kept m h → Kept g h
kept_then g m h e q = q ∙ ap (λ (x : Graph). record x { blocks = h.blocks }) e

shaped_at : (gs : List Graph) → AreShaped gs → (f : ℕ) (g : Graph) → slice_get gs f ≡ Some g → Shaped g
shaped_at [] s f g e = absurd (cc)
shaped_at (x ∷ gs) s zero g e = let q : x ≡ g = cc in subst Shaped q s.0
shaped_at (x ∷ gs) s (suc f) g e = shaped_at gs s.1 f g e

graph_of : (p : Program) (function : Function) (g h : Graph) → Kept g h → GraphOf p function g → Shaped h → GraphOf p function h
graph_of p function g h e o s = subst (GraphOf p function) (sym e) (shape_kept p function h.blocks g o (subst Shaped e s))

-- what is copied and what is old have the same globals
first_by : (n : ℕ) (o q : Option Graph) → At Copied o q → ((g : Graph) → o ≡ Some g → GlobalsFirst n g.arrays) → (h : Graph) → q ≡ Some h → GlobalsFirst n h.arrays
first_by n None None c old h e = absurd (cc)
first_by n None (Some y) c old h e = absurd c
first_by n (Some g) None c old h e = absurd c
first_by n (Some g) (Some y) c old h e =
    let q : y ≡ h = cc in
    subst (λ (x : Graph). GlobalsFirst n x.arrays) q (subst (λ (x : Graph). GlobalsFirst n x.arrays) (sym c.is) (old g refl))

-- ---- runs

abbrev places_by : (o q : Option Graph) → At Copied o q → ℕ → List Place
places_by None None s = λ b. []
places_by None (Some h) s = λ b. []
places_by (Some g) None s = λ b. []
places_by (Some g) (Some h) s = s.at

cleaned_by : (o q : Option Graph) (s : At Copied o q) → FunctionCleaned (places_by o q s) o q
cleaned_by None None s = tt
cleaned_by None (Some h) s = absurd s
cleaned_by (Some g) None s = absurd s
cleaned_by (Some g) (Some h) s = s.cleaned

-- what a flow does with these graphs, it does with those, where it never fails
record Runs (flow : Flow) (gs hs : List Graph) : Type 0 where
  first : HasGlobalsFirst (with_graphs flow gs) → HasGlobalsFirst (with_graphs flow hs)
  same : HasGlobalsFirst (with_graphs flow gs) → (input : List ℤ) → AreNumbers input → NeverFails (graph_run (with_graphs flow gs) input) →
      Same (graph_run (with_graphs flow gs) input) (graph_run (with_graphs flow hs) input) × NeverFails (graph_run (with_graphs flow hs) input)

first_kept : (n : ℕ) (o q : Option Graph) → At Kept o q → ((g : Graph) → o ≡ Some g → GlobalsFirst n g.arrays) → (h : Graph) → q ≡ Some h → GlobalsFirst n h.arrays
first_kept n None None c old h e = absurd (cc)
first_kept n None (Some y) c old h e = absurd c
first_kept n (Some g) None c old h e = absurd c
first_kept n (Some g) (Some y) c old h e =
    let q : y ≡ h = cc in
    subst (λ (x : Graph). GlobalsFirst n x.arrays) q (subst (λ (x : Graph). GlobalsFirst n x.arrays) (sym c) (old g refl))

copied_kept : (gs hs : List Graph) → Each Copied gs hs → Each Kept gs hs
copied_kept [] [] s = tt
copied_kept [] (h ∷ hs) s = absurd s
copied_kept (g ∷ gs) [] s = absurd s
copied_kept (g ∷ gs) (h ∷ hs) s = (s.0.is, copied_kept gs hs s.1)

kept_both : (gs ms hs : List Graph) → Each Kept gs ms → Each Kept ms hs → Each Kept gs hs
kept_both [] [] [] s t = tt
kept_both [] [] (h ∷ hs) s t = absurd t
kept_both [] (m ∷ ms) hs s t = absurd s
kept_both (g ∷ gs) [] hs s t = absurd s
kept_both (g ∷ gs) (m ∷ ms) [] s t = absurd t
kept_both (g ∷ gs) (m ∷ ms) (h ∷ hs) s t = (kept_then g m h s.0 t.0, kept_both gs ms hs s.1 t.1)

kept_all : (gs : List Graph) → Each Kept gs gs
kept_all [] = tt
kept_all (g ∷ gs) = (refl, kept_all gs)

steps_kept : {gs hs : List Graph} → Steps gs hs → Each Kept gs hs
steps_kept {gs} none = kept_all gs
steps_kept {gs} {hs} (more {now} between s c n) = kept_both gs now hs (steps_kept s) (kept_both now between hs (copied_kept now between c) (kept_each n.0 0 between hs n.1))

step_runs : (flow : Flow) (gs between hs : List Graph) → Each Copied gs between → GraphsNarrowed between hs → are_numbers flow.globals ≡ true → Runs flow gs hs
step_runs flow gs between hs c n numbers =
    let old : Flow = with_graphs flow gs in
    let middle : Flow = with_graphs flow between in
    let at : (f : ℕ) → At Copied (slice_get gs f) (slice_get between f) = each_at Copied gs between c in
    let places : ℕ → ℕ → List Place = λ f. places_by (slice_get gs f) (slice_get between f) (at f) in
    let cleaned : Cleaned places old between = λ f. cleaned_by (slice_get gs f) (slice_get between f) (at f) in
    let kept : Each Kept between hs = kept_each n.0 0 between hs n.1 in
    let also : (f : ℕ) → At Kept (slice_get between f) (slice_get hs f) = each_at Kept between hs kept in
    let first : HasGlobalsFirst old → HasGlobalsFirst middle = λ o f g e. first_by (length flow.globals) (slice_get gs f) (slice_get between f) (at f) (o f) g e in
    record {
      first = λ o f g e. first_kept (length flow.globals) (slice_get between f) (slice_get hs f) (also f) (first o f) g e;
      same = λ o input ns never.
          let both : Same (graph_run old input) (graph_run middle input) × NeverFails (graph_run middle input) = cleaned_runs old between places cleaned input never in
          let runs : graph_run (with_graphs flow hs) input ≡ graph_run middle input = λ i k. narrowed_graphs_run middle hs n numbers (first o) input ns both.1 k i in
          (subst (Same (graph_run old input)) (sym runs) both.0, subst NeverFails (sym runs) both.1);
    }

runs_then : (flow : Flow) (gs ms hs : List Graph) → Runs flow gs ms → Runs flow ms hs → Runs flow gs hs
runs_then flow gs ms hs a b = record {
  first = λ o. b.first (a.first o);
  same = λ o input ns never.
      let k = a.same o input ns never in
      let l = b.same (a.first o) input ns k.1 in
      (same_on (graph_run (with_graphs flow gs) input) (graph_run (with_graphs flow ms) input) (graph_run (with_graphs flow hs) input) k.0 l.0, l.1);
}

runs_itself : (flow : Flow) (gs : List Graph) → Runs flow gs gs
runs_itself flow gs = record { first = λ o. o; same = λ o input ns never. (same_self (graph_run (with_graphs flow gs) input), never) }

steps_run : (flow : Flow) {gs hs : List Graph} → Steps gs hs → are_numbers flow.globals ≡ true → Runs flow gs hs
steps_run flow {gs} none numbers = runs_itself flow gs
steps_run flow {gs} {hs} (more {now} between s c n) numbers = runs_then flow gs now hs (steps_run flow s numbers) (step_runs flow now between hs c n numbers)

graph_at : (p : Program) (function : Function) (o n : Option Graph) → At Kept o n → ((g : Graph) → o ≡ Some g → GraphOf p function g) → (h : Graph) → n ≡ Some h → Shaped h → GraphOf p function h
graph_at p function None None k old h e s = absurd (cc)
graph_at p function None (Some y) k old h e s = absurd k
graph_at p function (Some g) None k old h e s = absurd k
graph_at p function (Some g) (Some y) k old h e s =
    let q : y ≡ h = cc in
    graph_of p function g h (subst (Kept g) q k) (old g refl) s

pub threaded_stays : ThreadedStays
threaded_stays flow graphs t numbers sound p o =
    let all : Runs flow flow.functions graphs = steps_run flow t.steps numbers in
    let first : HasGlobalsFirst flow = globals_first flow (flow_is flow o.sound) in
    let both : (input : List ℤ) → AreNumbers input → Same (graph_run flow input) (graph_run (with_graphs flow graphs) input) × NeverFails (graph_run (with_graphs flow graphs) input) =
    λ input ns. all.same first input ns (o.runs.never_wrong input ns) in
    let kept : Each Kept flow.functions graphs = steps_kept t.steps in
    let also : (f : ℕ) → At Kept (slice_get flow.functions f) (slice_get graphs f) = each_at Kept flow.functions graphs kept in
    record {
      sound = sound;
      count = each_length Kept flow.functions graphs kept ∙ o.count;
      graphs = λ f function graph e q. graph_at p function (slice_get flow.functions f) (slice_get graphs f) (also f) (λ g r. o.graphs f function g e r) graph q (shaped_at graphs t.shaped f graph q);
      globals = o.globals;
      main = o.main;
      runs = record {
        same = λ input ns. same_on (source p input) (graph_run flow input) (graph_run (with_graphs flow graphs) input) (o.runs.same input ns) (both input ns).0;
        never_wrong = λ input ns. (both input ns).1;
      };
    }

-- ---- steps of the pass

pub copied_where_laid : (to : List ℕ) (chains : List (List ℕ)) (g h : Graph) → h ≡ laid (moves to) chains g → is_laid_out to g.blocks chains ≡ true → Copied g h
copied_where_laid to chains g h e t =
    let a = and_parts _ _ t in
    let b = and_parts _ _ a.0 in
    let first : moves to 0 ≡ 0 = eqb-true (moves to 0) 0 b.0 in
    let laid_graph : Graph = laid (moves to) chains g in
    let c : Copied g laid_graph = record {
      at = places_from g.blocks 0 chains;
      cleaned = laid_cleaned (moves to) chains g first
          (begun_if (moves to) g.blocks chains 0 (slice_get chains (moves to 0)) refl (ap (λ n. is_near_in g.blocks 0 (slice_get chains n)) first ∙ b.1))
          (λ i chain q. linked_if (moves to) g.blocks chains chain (all_at (is_linked (moves to) g.blocks chains) chains i chain a.1 q));
      is = refl;
    } in
    subst (Copied g) (sym e) c

itself : (g : Graph) → Copied g g
itself g = let s = graph_itself g in record { at = s.at; cleaned = s.cleaned; is = refl }

pub step_made : (old now between new : List Graph) → Steps old now → Each (OrSame Copied) now between → GraphsNarrowed between new → Steps old new
step_made old now between new s c n = more between s (each_related Copied now between itself c) n

pub step_found : (graphs between : List Graph) (found : Option (List Graph)) → Each (OrSame Copied) graphs between → IfSome found (λ made. GraphsNarrowed between made) → IfSome found (λ new. (old : List Graph) → Steps old graphs → Steps old new)
step_found graphs between None c h = h
step_found graphs between (Some new) c h = λ old s. step_made old graphs between new s c h

pub flow_threaded : (flow new : Flow) (graphs : List Graph) → Threaded flow.functions graphs → are_numbers flow.globals ≡ true → new ≡ with_graphs flow graphs → is_sound_flow new ≡ true → FlowStays flow new
flow_threaded flow new graphs t numbers e sound p o =
    let s : is_sound_flow (with_graphs flow graphs) ≡ true = subst (λ f. is_sound_flow f ≡ true) e sound in
    subst (FlowOf p) (sym e) (threaded_stays flow graphs t numbers s p o)

pub shaped_by_test : (g : Graph) (origins : List ℕ) (blocks : List Block) → blocks ≡ g.blocks → is_shaped origins blocks ≡ true → Shaped g
shaped_by_test g origins blocks e t = shaped_where_tested g origins (subst (λ (l : List Block). is_shaped origins l ≡ true) e t)

shaped_more : (gs : List Graph) (g : Graph) → AreShaped gs → Shaped g → AreShaped (gs ++ g ∷ [])
shaped_more [] g s t = (t, tt)
shaped_more (x ∷ gs) g s t = (s.0, shaped_more gs g s.1 t)

pub shaped_next : (gs : List Graph) (i : ℕ) (g : Graph) → i < length gs → g ≡ get_or gs i g → AreShaped (take i gs) → Shaped g → AreShaped (take (i + 1) gs)
shaped_next gs i g l e s t = subst AreShaped (ap (λ x. take i gs ++ x ∷ []) e ∙ sym (take_more gs i g l)) (shaped_more (take i gs) g s t)
