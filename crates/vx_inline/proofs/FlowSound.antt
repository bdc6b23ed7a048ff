-- The flow with a call inlined is sound.
use Rattle.std.proofs.Common.{◌≡◌, ◌⊎◌, inl, inr, ℕ, ◌<◌, ◌≤◌, Bool, true, false, ◌==◌, List, length, slice_get, Option, Some, refl, sym, ap, ◌∙◌, subst, eq-eqb, eqb-true}
use Rattle.std.proofs.lemmas.Bool.{false≢true}
use Rattle.std.proofs.lemmas.Option.{slice_get_within}
use Rattle.vx_flow.specs.declared.graph.Operand.{Operand}
use Rattle.vx_flow.specs.declared.graph.Bank.{Bank}
use Rattle.vx_flow.specs.declared.graph.Exit.TheVariants.{Call}
use Rattle.vx_flow.specs.declared.graph.Graph.{Graph}
use Rattle.vx_flow.specs.declared.graph.Flow.{Flow}
use Rattle.vx_flow.specs.declared.graph.Global.{Global}
use Rattle.vx_flow.specs.declared.graph.Array.{Array}
use Rattle.vx_flow.specs.declared.graph.Op.TheVariants.{Text}
use Rattle.vx_flow.specs.Effects.{IsIn}
use Rattle.vx_flow.specs.Sound.{HasOperation, HasExit, Sound, SoundFlow, Callable, HasGlobal, IsBaseOperand, base, IsGivenBase}
use Rattle.vx_lower.proofs.Places.{set_same, set_other}
use Rattle.vx_inline.specs.declared.site.Site.{Site}
use Rattle.vx_inline.specs.Inlined.{CallAt, IsPermitted, Inlined, inlined, inlined_blocks}
use Rattle.vx_inline.proofs.JoinedSound.{graph_sound, graph_some, graph_calls, graph_call, graph_texts, old_base, new_base}
use Rattle.vx_inline.proofs.Edges.{in_there}
use Rattle.vx_inline.proofs.Depth.{get_in}

-- an argument is a base exactly where its parameter is
abbrev Agree : Graph → Graph → Operand → ℕ → Type 0
Agree g h x p = (IsBaseOperand g x → IsGivenBase h p) × (IsGivenBase h p → IsBaseOperand g x)

module _ (flow : Flow) (site : Site) (c : CallAt flow site) (free : Bank → List ℕ) (permitted : IsPermitted flow site c free) (sound : SoundFlow flow) where
  abbrev G : Graph
  G = record c.parts.caller { blocks = inlined_blocks c.parts site.block free }

  abbrev new : Flow
  new = inlined flow site c.parts free

  site_low : site.function < length flow.functions
  site_low = slice_get_within flow.functions site.function c.parts.caller c.is_caller

  here : slice_get new.functions site.function ≡ Some G
  here = set_same flow.functions site.function G site_low

  away : (f : ℕ) → (f ≡ site.function → ⊥) → slice_get new.functions f ≡ slice_get flow.functions f
  away f n = set_other flow.functions site.function f G n

  -- a graph of the new flow is an old one or the new one
  pub graph_from : (f : ℕ) (g : Graph) → slice_get (inlined flow site c.parts free).functions f ≡ Some g → (slice_get flow.functions f ≡ Some g) ⊎ ((f ≡ site.function) × (g ≡ record c.parts.caller { blocks = inlined_blocks c.parts site.block free }))
  graph_from f g e = by (f == site.function) refl
    where
      by : (t : Bool) → (f == site.function) ≡ t → (slice_get flow.functions f ≡ Some g) ⊎ ((f ≡ site.function) × (g ≡ G))
      by true h =
          let q : f ≡ site.function = eqb-true f site.function h in
          let k : Some g ≡ Some G = sym e ∙ ap (slice_get new.functions) q ∙ here in
          inr (q, (let r : g ≡ G = cc in r))
      by false h = inl (sym (away f (λ i. false≢true (sym h ∙ eq-eqb f site.function i))) ∙ e)

  graph_in : (g : Graph) → IsIn g new.functions → IsIn g flow.functions ⊎ (g ≡ G)
  graph_in g m = by (graph_from i.0 g i.1)
    where
      i : (j : ℕ) × (slice_get new.functions j ≡ Some g)
      i = in_there new.functions g m

      by : (slice_get flow.functions i.0 ≡ Some g) ⊎ ((i.0 ≡ site.function) × (g ≡ G)) → IsIn g flow.functions ⊎ (g ≡ G)
      by (inl e) = inl (get_in flow.functions i.0 g e)
      by (inr r) = inr r.1

  caller_in : IsIn c.parts.caller flow.functions
  caller_in = get_in flow.functions site.function c.parts.caller c.is_caller

  still_callable : (f count : ℕ) → Callable flow f count → Callable new f count
  still_callable f count k = by (f == site.function) refl
    where
      by : (t : Bool) → (f == site.function) ≡ t → Callable new f count
      by true h =
          let q : f ≡ site.function = eqb-true f site.function h in
          let same : Some k.graph ≡ Some c.parts.caller = sym k.is ∙ ap (slice_get flow.functions) q ∙ c.is_caller in
          let is : k.graph ≡ c.parts.caller = cc in
          record { graph = G; is = ap (slice_get new.functions) q ∙ here; parameters = ap (λ (g : Graph). length g.parameters) (sym is) ∙ k.parameters }
      by false h = record { graph = k.graph; is = away f (λ i. false≢true (sym h ∙ eq-eqb f site.function i)) ∙ k.is; parameters = k.parameters }

  pub new_sound : SoundFlow (inlined flow site c.parts free)
  new_sound = record {
    graphs = λ g m. graphs_by g (graph_in g m);
    blocks = λ g m. blocks_by g (graph_in g m);
    parameters = λ g i j v m. parameters_by g i j v (graph_in g m);
    main = still_callable flow.main 0 sound.main;
    calls = λ g f next arguments result m h. still_callable f (length arguments) (calls_by g f next arguments result h (graph_in g m));
    handed = λ g h f next k p arguments result x m e is a b. handed_by g h f next k p arguments result x (graph_in g m) e (graph_from f h is) a b;
    texts = λ g n m h. texts_by g n h (graph_in g m);
    globals = λ g i x m e. globals_by g i x e (graph_in g m);
    own = λ g i array m e l. own_by g i array e l (graph_in g m);
  }
    where
      graphs_by : (g : Graph) → IsIn g flow.functions ⊎ (g ≡ G) → Sound g
      graphs_by g (inl m) = sound.graphs g m
      graphs_by g (inr e) = subst Sound (sym e) (graph_sound flow site c free permitted sound)

      blocks_by : (g : Graph) → IsIn g flow.functions ⊎ (g ≡ G) → 0 < length g.blocks
      blocks_by g (inl m) = sound.blocks g m
      blocks_by g (inr e) = subst (λ (h : Graph). 0 < length h.blocks) (sym e) (graph_some flow site c free permitted sound)

      parameters_by : (g : Graph) (i j v : ℕ) → IsIn g flow.functions ⊎ (g ≡ G) → i < j → slice_get g.parameters i ≡ Some v → slice_get g.parameters j ≡ Some v → ⊥
      parameters_by g i j v (inl m) l a b = sound.parameters g i j v m l a b
      parameters_by g i j v (inr e) l a b =
          sound.parameters c.parts.caller i j v caller_in l (subst (λ (h : Graph). slice_get h.parameters i ≡ Some v) e a) (subst (λ (h : Graph). slice_get h.parameters j ≡ Some v) e b)

      calls_by : (g : Graph) (f next : ℕ) (arguments : List Operand) (result : Option ℕ) → HasExit g (Call f arguments result next) → IsIn g flow.functions ⊎ (g ≡ G) → Callable flow f (length arguments)
      calls_by g f next arguments result h (inl m) = sound.calls g f next arguments result m h
      calls_by g f next arguments result h (inr e) = graph_calls flow site c free permitted sound f next arguments result (subst (λ x. HasExit x (Call f arguments result next)) e h)

      -- the graph that is called takes the same, and the caller hands over the same

      given_old : (p : ℕ) → IsGivenBase G p → IsGivenBase c.parts.caller p
      given_old p i = record { array = i.array; base = i.base }

      given_new : (p : ℕ) → IsGivenBase c.parts.caller p → IsGivenBase G p
      given_new p i = record { array = i.array; base = i.base }

      operand_old : (x : Operand) → IsBaseOperand G x → IsBaseOperand c.parts.caller x
      operand_old x (base {v = v} i) = base (old_base flow site c free permitted sound v i)

      operand_new : (x : Operand) → IsBaseOperand c.parts.caller x → IsBaseOperand G x
      operand_new x (base {v = v} i) = base (new_base flow site c free permitted sound v i)

      -- of a caller of the old flow
      handed_old : (g h : Graph) (f next k p : ℕ) (arguments : List Operand) (result : Option ℕ) (x : Operand) → IsIn g flow.functions → HasExit g (Call f arguments result next)
          → (slice_get flow.functions f ≡ Some h) ⊎ ((f ≡ site.function) × (h ≡ G)) → slice_get arguments k ≡ Some x → slice_get h.parameters k ≡ Some p → Agree g h x p
      handed_old g h f next k p arguments result x m e (inl is) a b = sound.handed g h f next k p arguments result x m e is a b
      handed_old g h f next k p arguments result x m e (inr q) a b =
          let is : slice_get flow.functions f ≡ Some c.parts.caller = ap (slice_get flow.functions) q.0 ∙ c.is_caller in
          let r = sound.handed g c.parts.caller f next k p arguments result x m e is a (subst (λ (z : Graph). slice_get z.parameters k ≡ Some p) q.1 b) in
          subst (λ z. Agree g z x p) (sym q.1) (λ i. given_new p (r.0 i), λ i. r.1 (given_old p i))

      handed_by : (g h : Graph) (f next k p : ℕ) (arguments : List Operand) (result : Option ℕ) (x : Operand) → IsIn g flow.functions ⊎ (g ≡ G) → HasExit g (Call f arguments result next)
          → (slice_get flow.functions f ≡ Some h) ⊎ ((f ≡ site.function) × (h ≡ G)) → slice_get arguments k ≡ Some x → slice_get h.parameters k ≡ Some p → Agree g h x p
      handed_by g h f next k p arguments result x (inl m) e w a b = handed_old g h f next k p arguments result x m e w a b
      handed_by g h f next k p arguments result x (inr q) e w a b =
          let n = graph_call flow site c free permitted sound f next arguments result (subst (λ z. HasExit z (Call f arguments result next)) q e) in
          let r = handed_old c.parts.caller h f n.0 k p arguments result x caller_in n.1 w a b in
          subst (λ z. Agree z h x p) (sym q) (λ i. r.0 (operand_old x i), λ i. operand_new x (r.1 i))

      texts_by : (g : Graph) (n : ℕ) → HasOperation g (Text n) → IsIn g flow.functions ⊎ (g ≡ G) → n < length flow.texts
      texts_by g n h (inl m) = sound.texts g n m h
      texts_by g n h (inr e) = graph_texts flow site c free permitted sound n (subst (λ x. HasOperation x (Text n)) e h)

      globals_by : (g : Graph) (i : ℕ) (x : Global) → slice_get flow.globals i ≡ Some x → IsIn g flow.functions ⊎ (g ≡ G) → HasGlobal g.arrays i x.words
      globals_by g i x e (inl m) = sound.globals g i x m e
      globals_by g i x e (inr q) = subst (λ (h : Graph). HasGlobal h.arrays i x.words) (sym q) (sound.globals c.parts.caller i x caller_in e)

      own_by : (g : Graph) (i : ℕ) (array : Array) → slice_get g.arrays i ≡ Some array → length flow.globals ≤ i → IsIn g flow.functions ⊎ (g ≡ G) → array.global ≡ false
      own_by g i array e l (inl m) = sound.own g i array m e l
      own_by g i array e l (inr q) = sound.own c.parts.caller i array caller_in (subst (λ (h : Graph). slice_get h.arrays i ≡ Some array) q e) l

pub inlined_sound : (flow after : Flow) (site : Site) → SoundFlow flow → Inlined flow site after → SoundFlow after
inlined_sound flow after site sound i = subst SoundFlow (sym i.is) (new_sound flow site i.call i.free i.permitted sound)
