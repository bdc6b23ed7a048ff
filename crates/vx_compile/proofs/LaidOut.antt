-- One more function that is laid out, with the plans of its traces.
use Rattle.std.proofs.Common.{◌≡◌, ℕ, ◌<◌, List, [], ◌∷◌, ◌++◌, length, refl, sym, ap, ◌∙◌, subst, arith, ◌+◌, get_or, take}
use Rattle.std.proofs.lemmas.List.{append-nil, length-map, map-append, take_more}
use Rattle.std.proofs.lemmas.List.Concat.{flat_map-append}
use Rattle.std.specs.List.{flat_map}
use Rattle.vx_flow.specs.declared.graph.Graph.{Graph}
use Rattle.vx_isa.specs.Numbers.{Numbers}
use Rattle.vx_mixed.specs.declared.layout.VWords.{VWords}
use Rattle.vx_mixed.specs.Layout.{layout_of}
use Rattle.vx_profile.specs.declared.counts.Counts.{Counts}
use Rattle.vx_region.specs.declared.trace_plan.TracePlan.{TracePlan}
use Rattle.vx_compiled.specs.Compiled.{FunctionPlan, PlansFrom, PlansFunction, layouts_of}
use Rattle.vx_compile.specs.Stages.{AreLaidOut, IsLaidOut}
use Rattle.vx_compile.proofs.Chain.{layouts_step}

one_more_plan : (n m : ℕ) (machine : Numbers) (counts : Counts) (cap : ℕ) (graphs : List Graph) (used : ℕ) (xs : List FunctionPlan) (all : ℕ) (graph : Graph) (x : FunctionPlan) → m ≡ n + length xs →
    PlansFrom machine counts cap n graphs used xs all → PlansFunction machine counts cap m graph all x → PlansFrom machine counts cap n (graphs ++ graph ∷ []) used (xs ++ x ∷ []) x.used
one_more_plan n m machine counts cap [] used [] all graph x at h is =
    let same : m ≡ n = omega (arith, at) in
    (subst (λ k. PlansFunction machine counts cap k graph used x) same (subst (λ u. PlansFunction machine counts cap m graph u x) h is), refl)
one_more_plan n m machine counts cap (g ∷ graphs) used (y ∷ xs) all graph x at h is = (h.0, one_more_plan (n + 1) m machine counts cap graphs y.used xs all graph x (omega (arith, at)) h.1 is)
one_more_plan n m machine counts cap [] used (y ∷ xs) all graph x at h is = absurd h
one_more_plan n m machine counts cap (g ∷ graphs) used [] all graph x at h is = absurd h

abbrev traces_in : List FunctionPlan → List TracePlan
traces_in xs = flat_map (λ (x : FunctionPlan). x.traces) xs

one_more_trace : (xs : List FunctionPlan) (x : FunctionPlan) → traces_in (xs ++ x ∷ []) ≡ traces_in xs ++ x.traces
one_more_trace xs x = flat_map-append (λ (y : FunctionPlan). y.traces) xs (x ∷ []) ∙ ap (λ (z : List TracePlan). traces_in xs ++ z) (append-nil x.traces)

as_many : (xs : List FunctionPlan) → length (layouts_of xs) ≡ length xs
as_many xs = length-map xs (λ (x : FunctionPlan). layout_of x.done)

no_functions : (machine : Numbers) (counts : Counts) (cap : ℕ) → AreLaidOut machine counts cap [] [] [] 0
no_functions machine counts cap = record { laid = tt; planned = record { functions = []; each = refl; traces_are = refl }; layouts_are = refl }

pub begun_laid : (machine : Numbers) (counts : Counts) (cap : ℕ) (graphs : List Graph) (traces : List TracePlan) (ls : List VWords) (used : ℕ) → traces ≡ [] → ls ≡ [] → used ≡ 0 → AreLaidOut machine counts cap (take 0 graphs) traces ls used
begun_laid machine counts cap graphs traces ls used a b d =
    subst (λ (t : List TracePlan). AreLaidOut machine counts cap (take 0 graphs) t ls used) (sym a)
    (subst (λ (l : List VWords). AreLaidOut machine counts cap (take 0 graphs) [] l used) (sym b)
    (subst (λ u. AreLaidOut machine counts cap (take 0 graphs) [] [] u) (sym d) (no_functions machine counts cap)))

pub laid_step : (machine : Numbers) (counts : Counts) (cap : ℕ) (graphs : List Graph) (i number : ℕ) (graph : Graph) (ls ls' : List VWords) (traces traces' more : List TracePlan) (l : VWords) (used used' : ℕ) →
    i < length graphs → graph ≡ get_or graphs i graph → number ≡ length ls → AreLaidOut machine counts cap (take i graphs) traces ls used → IsLaidOut machine counts cap number graph used more l used' →
    ls' ≡ ls ++ l ∷ [] → traces' ≡ traces ++ more → AreLaidOut machine counts cap (take (i + 1) graphs) traces' ls' used'
laid_step machine counts cap graphs i number graph ls ls' traces traces' more l used used' below item many h is e f =
    let xs : List FunctionPlan = h.planned.functions in
    let x : FunctionPlan = record { traces = more; done = is.laid.done; used = used' } in
    let size : length ls ≡ length xs = ap (λ (z : List VWords). length z) h.layouts_are ∙ as_many xs in
    let at : number ≡ 0 + length xs = omega (arith, many, size) in
    let t : take (i + 1) graphs ≡ take i graphs ++ graph ∷ [] = take_more graphs i graph below ∙ ap (λ z. take i graphs ++ z ∷ []) (sym item) in
    let plans : PlansFunction machine counts cap number graph used x = record { begun = is.laid.begun; from = is.laid.from; all = is.all } in
    let each : PlansFrom machine counts cap 0 (take i graphs ++ graph ∷ []) 0 (xs ++ x ∷ []) used' = one_more_plan 0 number machine counts cap (take i graphs) 0 xs used graph x at h.planned.each plans in
    let front : traces ++ more ≡ traces_in xs ++ more = ap (λ (z : List TracePlan). z ++ more) h.planned.traces_are in
    let here : ls ++ l ∷ [] ≡ layouts_of xs ++ l ∷ [] = ap (λ (z : List VWords). z ++ l ∷ []) h.layouts_are in
    let last : layouts_of xs ++ l ∷ [] ≡ layouts_of xs ++ layout_of is.laid.done ∷ [] = ap (λ (z : VWords). layouts_of xs ++ z ∷ []) is.laid.is in
    record {
      laid = layouts_step machine graphs i number graph ls ls' l below item many h.laid is.laid e;
      planned = record {
        functions = xs ++ x ∷ [];
        each = subst (λ gs. PlansFrom machine counts cap 0 gs 0 (xs ++ x ∷ []) used') (sym t) each;
        traces_are = f ∙ front ∙ sym (one_more_trace xs x);
      };
      layouts_are = e ∙ here ∙ last ∙ sym (map-append (λ (y : FunctionPlan). layout_of y.done) xs (x ∷ []));
    }
