-- A flow of a program stays one where each of its graphs is exchanged for one that is that graph cleaned; a graph is itself
-- cleaned, and so is one that passes the tests.
use Rattle.std.proofs.Common.{◌≡◌, inl, inr, ℕ, true, List, [], ◌∷◌, map, slice_get, Option, Some, None, refl, sym, ap, ◌∙◌, subst, append-nil}
use Rattle.std.proofs.lemmas.Bool.{and_parts, eqb-true}
use Rattle.vx_flow.specs.declared.graph.Exit.{Exit}
use Rattle.vx_flow.specs.declared.graph.Exit.TheVariants.{Goto, Split, Call, Return, Ends}
use Rattle.vx_flow.specs.declared.graph.Block.{Block}
use Rattle.vx_flow.specs.declared.graph.Graph.{Graph}
use Rattle.vx_flow.specs.declared.graph.Flow.{Flow}
use Rattle.vx_flow.specs.Effects.{IsIn}
use Rattle.vx_flow.specs.Sound.{is_sound_flow}
use Rattle.vx_flow.proofs.SoundLists.{all_at}
use Rattle.vx_lower.specs.FlowOf.{FlowOf}
use Rattle.vx_clean.specs.Cleaning.{Place, Heads, ExitMeets, Stands, FunctionCleaned, Cleaned}
use Rattle.vx_shape.specs.Flows.{with_graphs, Each, OrSame, FlowStays}
use Rattle.vx_clean.specs.Laying.{joined, laid, places_from}
use Rattle.vx_shape.specs.Shape.{Shaped}
use Rattle.vx_clean.specs.LaidFlows.{FunctionLaid}
use Rattle.vx_clean.specs.LinkTest.{is_near_in, is_linked, moves, is_laid_out}
use Rattle.vx_shape.specs.ShapeTest.{is_shaped}
use Rattle.vx_clean.specs.Staying.{GraphStays, StaysByGraphs}
use Rattle.vx_clean.proofs.CleanFlow.{cleaned_flow}
use Rattle.vx_clean.proofs.Lays.{laid_cleaned}
use Rattle.vx_clean.proofs.LinkTests.{begun_if, linked_if}
use Rattle.vx_shape.proofs.ShapeTests.{shaped_where_tested}
use Rattle.vx_shape.proofs.Pairs.{At, each_at, each_length, each_related}
use Rattle.vx_shape.proofs.FlowsStay.{shape_kept, shape_by}

-- ---- a graph as it is

abbrev same_place : ℕ → List Place
same_place b = record { block = b; before = 0; left = 0 } ∷ []

same_heads : (b : ℕ) → Heads same_place b b
same_heads b = (0, inl refl)

same_exit : (exit : Exit) → ExitMeets same_place exit exit
same_exit (Goto c) = (c, same_heads c, refl)
same_exit (Split p c d) = inl (c, d, same_heads c, same_heads d, refl)
same_exit (Call f arguments result c) = (c, same_heads c, refl)
same_exit (Return x) = refl
same_exit (Ends k) = refl

same_stands : (g : Graph) (b : ℕ) (block : Block) (p : Place) → IsIn p (same_place b) → slice_get g.blocks b ≡ Some block → Stands same_place g block p
same_stands g b block p (inl e) has = subst (Stands same_place g block) (sym e) (record {
  into = block;
  has = has;
  rest = [];
  ops = sym (append-nil block.ops);
  on = inr (refl, same_exit block.exit);
})
same_stands g b block p (inr m) has = absurd m

pub graph_itself : (g : Graph) → GraphStays g g
graph_itself g = record {
  at = same_place;
  cleaned = record { parameters = refl; arrays = refl; entry = same_heads 0; blocks = λ b block p m has. same_stands g b block p m has };
  shape = λ p function o. o;
}

-- ---- a graph that passes the tests

pub laid_stays_by : (to : ℕ → ℕ) (chains : List (List ℕ)) (g : Graph) → FunctionLaid to chains g → GraphStays g (laid to chains g)
laid_stays_by to chains g l = record {
  at = places_from g.blocks 0 chains;
  cleaned = laid_cleaned to chains g l.first l.begun l.linked;
  shape = λ p function o. shape_kept p function (map (joined to g.blocks) chains) g o l.shaped;
}

laid_out : (to : List ℕ) (chains : List (List ℕ)) (g : Graph) → is_laid_out to g.blocks chains ≡ true → Shaped (laid (moves to) chains g) → FunctionLaid (moves to) chains g
laid_out to chains g h shaped =
    let a = and_parts _ _ h in
    let b = and_parts _ _ a.0 in
    let first : moves to 0 ≡ 0 = eqb-true (moves to 0) 0 b.0 in
    record {
      first = first;
      begun = begun_if (moves to) g.blocks chains 0 (slice_get chains (moves to 0)) refl (ap (λ n. is_near_in g.blocks 0 (slice_get chains n)) first ∙ b.1);
      linked = λ i chain e. linked_if (moves to) g.blocks chains chain (all_at (is_linked (moves to) g.blocks chains) chains i chain a.1 e);
      shaped = shaped;
    }

pub tested_stays : (to : List ℕ) (chains : List (List ℕ)) (g h : Graph) (origins : List ℕ) → h ≡ laid (moves to) chains g → is_laid_out to g.blocks chains ≡ true → is_shaped origins h.blocks ≡ true → GraphStays g h
tested_stays to chains g h origins e t s =
    let u : is_shaped origins (laid (moves to) chains g).blocks ≡ true = subst (λ (k : Graph). is_shaped origins k.blocks ≡ true) e s in
    subst (GraphStays g) (sym e) (laid_stays_by (moves to) chains g (laid_out to chains g t (shaped_where_tested (laid (moves to) chains g) origins u)))

-- ---- the graphs of a flow

abbrev places_by : (o q : Option Graph) → At GraphStays o q → ℕ → List Place
places_by None None s = λ b. []
places_by None (Some h) s = λ b. []
places_by (Some g) None s = λ b. []
places_by (Some g) (Some h) s = s.at

cleaned_by : (o q : Option Graph) (s : At GraphStays o q) → FunctionCleaned (places_by o q s) o q
cleaned_by None None s = tt
cleaned_by None (Some h) s = absurd s
cleaned_by (Some g) None s = absurd s
cleaned_by (Some g) (Some h) s = s.cleaned

pub stays_by_graphs : StaysByGraphs
stays_by_graphs flow graphs s sound p o =
    let at : (f : ℕ) → At GraphStays (slice_get flow.functions f) (slice_get graphs f) = each_at GraphStays flow.functions graphs s in
    let places : ℕ → ℕ → List Place = λ f. places_by (slice_get flow.functions f) (slice_get graphs f) (at f) in
    let cleaned : Cleaned places flow graphs = λ f. cleaned_by (slice_get flow.functions f) (slice_get graphs f) (at f) in
    cleaned_flow p flow graphs places cleaned o sound (each_length GraphStays flow.functions graphs s ∙ o.count)
    (λ f function graph e q. shape_by GraphStays (λ g h t. t.shape) p function (slice_get flow.functions f) (slice_get graphs f) (at f) (λ g r. o.graphs f function g e r) graph q)

pub once_stays : (flow new : Flow) (graphs : List Graph) → Each (OrSame GraphStays) flow.functions graphs → new ≡ with_graphs flow graphs → is_sound_flow new ≡ true → FlowStays flow new
once_stays flow new graphs s e sound p o =
    let t : is_sound_flow (with_graphs flow graphs) ≡ true = subst (λ f. is_sound_flow f ≡ true) e sound in
    subst (FlowOf p) (sym e) (stays_by_graphs flow graphs (each_related GraphStays flow.functions graphs graph_itself s) t p o)

-- ---- flow after flow

pub flow_itself : (flow : Flow) → FlowStays flow flow
flow_itself flow p o = o

pub flow_then : (first second third : Flow) → FlowStays first second → FlowStays second third → FlowStays first third
flow_then first second third f g p o = g p (f p o)
