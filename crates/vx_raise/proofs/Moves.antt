-- Any number of steps: the runs stay the same, and a flow of a program stays one.
use Rattle.std.proofs.Common.{◌≡◌, inl, inr, ℕ, zero, suc, ◌<◌, true, ℤ, Option, Some, None, slice_get, List, [], ◌∷◌, Result, Ok, Err, IfOk, refl, sym, ap, ◌∙◌, subst}
use Rattle.vx_base.specs.Outcome.{NeverFails}
use Rattle.vx_flow.specs.declared.graph.Graph.{Graph}
use Rattle.vx_flow.specs.declared.graph.Flow.{Flow}
use Rattle.vx_flow.specs.Apart.{array_in, HasGlobalsFirst}
use Rattle.vx_flow.specs.Effects.{State, Setting}
use Rattle.vx_flow.specs.Meaning.{graph_run, graph_path}
use Rattle.vx_flow.specs.Sound.{is_sound_flow}
use Rattle.vx_shape.specs.Flows.{with_graphs, Each, OrSame, FlowStays}
use Rattle.vx_flow.proofs.Entering.{globals_first}
use Rattle.vx_flow.proofs.SoundFlowLaw.{flow_is}
use Rattle.vx_shape.proofs.Pairs.{At, each_at, each_related}
use Rattle.vx_shape.proofs.FlowsStay.{KeepsShape, runs_stay}
use Rattle.vx_lower.specs.FlowOf.{GraphOf, FlowOf}
use Rattle.vx_raise.specs.Raising.{GraphRaised, RaisedRuns, RaisedStays}
use Rattle.vx_raise.specs.Moving.{GraphStep, Steps, GraphMoved, MovedRuns, MovedPaths, SamePaths, PathsStay, MovedStays}
use Rattle.vx_raise.proofs.FlowsTied.{GraphTied, runs_tied, paths_tied}
use Rattle.vx_raise.proofs.Raises.{front_of, tie, graph_tied}
use Rattle.vx_raise.proofs.Exchanges.{all_tie, exchanged_tied, same_tied}
use Rattle.vx_raise.proofs.Shapes.{exchanged_kept, raised_kept}

-- ---- one step in each graph

abbrev step_tie : (g h : Graph) → OrSame GraphStep g h → Setting → ℕ → State → State → Type 0
step_tie g h (inl e) = all_tie
step_tie g h (inr (inl r)) = tie r.live g r.block r.other (front_of r.live g r.block r.other r.can)
step_tie g h (inr (inr x)) = all_tie

step_tied : (g h : Graph) (s : OrSame GraphStep g h) → GraphTied (step_tie g h s) g h
step_tied g h (inl e) = same_tied g h e
step_tied g h (inr (inl r)) = graph_tied r.live g r.block r.other (front_of r.live g r.block r.other r.can) r.covers h r.is
step_tied g h (inr (inr x)) = exchanged_tied g h x.block x.place x.can x.is

step_runs : (flow : Flow) (graphs : List Graph) → HasGlobalsFirst flow → Each (OrSame GraphStep) flow.functions graphs → (input : List ℤ) → NeverFails (graph_run flow input) → (n : ℕ) → graph_run (with_graphs flow graphs) input n ≡ graph_run flow input n
step_runs flow graphs first each input safe n = runs_tied (OrSame GraphStep) step_tie step_tied flow graphs first each input safe n

step_paths : (flow : Flow) (graphs : List Graph) → HasGlobalsFirst flow → Each (OrSame GraphStep) flow.functions graphs → (input : List ℤ) → NeverFails (graph_run flow input) → (n : ℕ) → graph_path (with_graphs flow graphs) input n ≡ graph_path flow input n
step_paths flow graphs first each input safe n = paths_tied (OrSame GraphStep) step_tie step_tied flow graphs first each input safe n

step_kept : (g h : Graph) → OrSame GraphStep g h → KeepsShape g h
step_kept g h (inl e) p function o = subst (GraphOf p function) (sym e) o
step_kept g h (inr (inl r)) p function o = raised_kept g h r p function o
step_kept g h (inr (inr x)) p function o = exchanged_kept g h x p function o

-- ---- arrays stay

step_arrays : (g h : Graph) → OrSame GraphStep g h → h.arrays ≡ g.arrays
step_arrays g h s = ap (λ x. x.arrays) (step_tied g h s).is

steps_arrays : (n : ℕ) (g h : Graph) → Steps n g h → h.arrays ≡ g.arrays
steps_arrays zero g h s = ap (λ x. x.arrays) s
steps_arrays (suc n) g h s = steps_arrays n s.0 h s.2 ∙ step_arrays g s.0 s.1

-- the globals are flagged in both flows or in neither
first_there : (R : Graph → Graph → Type 0) → ((g h : Graph) → R g h → h.arrays ≡ g.arrays) → (flow : Flow) (graphs : List Graph) → Each R flow.functions graphs → HasGlobalsFirst flow → HasGlobalsFirst (with_graphs flow graphs)
first_there R same flow graphs each first f h e a l = by (slice_get flow.functions f) (slice_get graphs f) (each_at R flow.functions graphs each f) refl e
  where
    by : (o q : Option Graph) → At R o q → slice_get flow.functions f ≡ o → q ≡ Some h → (array_in h.arrays a).global ≡ true
    by None None p x y = absurd (cc)
    by None (Some k) p x y = absurd p
    by (Some g) None p x y = absurd p
    by (Some g) (Some k) p x y =
        let q : k ≡ h = cc in
        ap (λ (z : Graph). (array_in z.arrays a).global) (sym q) ∙ (ap (λ z. (array_in z a).global) (same g k p) ∙ first f g x a l)

first_back : (R : Graph → Graph → Type 0) → ((g h : Graph) → R g h → h.arrays ≡ g.arrays) → (flow : Flow) (graphs : List Graph) → Each R flow.functions graphs → HasGlobalsFirst (with_graphs flow graphs) → HasGlobalsFirst flow
first_back R same flow graphs each first f g e a l = by (slice_get flow.functions f) (slice_get graphs f) (each_at R flow.functions graphs each f) e refl
  where
    by : (o q : Option Graph) → At R o q → o ≡ Some g → slice_get graphs f ≡ q → (array_in g.arrays a).global ≡ true
    by None None p x y = absurd (cc)
    by None (Some k) p x y = absurd p
    by (Some k) None p x y = absurd p
    by (Some k) (Some h) p x y =
        let q : k ≡ g = cc in
        ap (λ (z : Graph). (array_in z.arrays a).global) (sym q) ∙ (ap (λ z. (array_in z a).global) (sym (same k h p)) ∙ first f h y a l)

moved_arrays : (g h : Graph) → GraphMoved g h → h.arrays ≡ g.arrays
moved_arrays g h m = steps_arrays m.count g h m.steps

-- those of a sound flow are
sound_first : (flow : Flow) → is_sound_flow flow ≡ true → HasGlobalsFirst flow
sound_first flow h = globals_first flow (flow_is flow h)

-- ---- many

each_map : {A : Type 0} (R S : A → A → Type 0) → ((x y : A) → R x y → S x y) → (xs ys : List A) → Each R xs ys → Each S xs ys
each_map R S f [] [] s = tt
each_map R S f [] (y ∷ ys) s = absurd s
each_map R S f (x ∷ xs) [] s = absurd s
each_map R S f (x ∷ xs) (y ∷ ys) s = (f x y s.0, each_map R S f xs ys s.1)

abbrev pub plus : ℕ → ℕ → ℕ
plus zero n = n
plus (suc m) n = suc (plus m n)

pub idle : (n : ℕ) (g h : Graph) → h ≡ g → Steps n g h
idle zero g h e = e
idle (suc n) g h e = (g, inl refl, idle n g h e)

more_behind : (m n : ℕ) (g h : Graph) → Steps m g h → Steps (plus m n) g h
more_behind zero n g h s = idle n g h s
more_behind (suc m) n g h s = (s.0, s.1, more_behind m n s.0 h s.2)

more_before : (m n : ℕ) (g h : Graph) → Steps n g h → Steps (plus m n) g h
more_before zero n g h s = s
more_before (suc m) n g h s = (g, inl refl, more_before m n g h s)

-- as many in each graph
each_steps : (gs hs : List Graph) → Each GraphMoved gs hs → (n : ℕ) × Each (Steps n) gs hs
each_steps [] [] s = (0, tt)
each_steps [] (h ∷ hs) s = absurd s
each_steps (g ∷ gs) [] s = absurd s
each_steps (g ∷ gs) (h ∷ hs) s =
    let rest = each_steps gs hs s.1 in
    let m : ℕ = s.0.count in
    (plus m rest.0, (more_behind m rest.0 g h s.0.steps, each_map (Steps rest.0) (Steps (plus m rest.0)) (λ x y t. more_before m rest.0 x y t) gs hs rest.1))

between : (n : ℕ) (gs hs : List Graph) → Each (Steps (suc n)) gs hs → (ms : List Graph) × Each (OrSame GraphStep) gs ms × Each (Steps n) ms hs
between n [] [] s = ([], tt, tt)
between n [] (h ∷ hs) s = absurd s
between n (g ∷ gs) [] s = absurd s
between n (g ∷ gs) (h ∷ hs) s = let rest = between n gs hs s.1 in (s.0.0 ∷ rest.0, (s.0.1, rest.1), (s.0.2, rest.2))

all_same : (gs hs : List Graph) → Each (Steps zero) gs hs → hs ≡ gs
all_same [] [] s = refl
all_same [] (h ∷ hs) s = absurd s
all_same (g ∷ gs) [] s = absurd s
all_same (g ∷ gs) (h ∷ hs) s = ap (λ x. x ∷ hs) s.0 ∙ ap (λ l. g ∷ l) (all_same gs hs s.1)

steps_run : (m : ℕ) (flow : Flow) (graphs : List Graph) → HasGlobalsFirst flow → Each (Steps m) flow.functions graphs → (input : List ℤ) → NeverFails (graph_run flow input) → (n : ℕ) → graph_run (with_graphs flow graphs) input n ≡ graph_run flow input n
steps_run zero flow graphs first each input safe n = ap (λ l. graph_run (with_graphs flow l) input n) (all_same flow.functions graphs each)
steps_run (suc m) flow graphs first each input safe n =
    let mid = between m flow.functions graphs each in
    let later : HasGlobalsFirst (with_graphs flow mid.0) = first_there (OrSame GraphStep) step_arrays flow mid.0 mid.1 first in
    let one : graph_run (with_graphs flow mid.0) input ≡ graph_run flow input = λ i k. step_runs flow mid.0 first mid.1 input safe k i in
    let rest : graph_run (with_graphs flow graphs) input n ≡ graph_run (with_graphs flow mid.0) input n = steps_run m (with_graphs flow mid.0) graphs later mid.2 input (subst NeverFails (sym one) safe) n in
    rest ∙ step_runs flow mid.0 first mid.1 input safe n

steps_path : (m : ℕ) (flow : Flow) (graphs : List Graph) → HasGlobalsFirst flow → Each (Steps m) flow.functions graphs → (input : List ℤ) → NeverFails (graph_run flow input) → (n : ℕ) → graph_path (with_graphs flow graphs) input n ≡ graph_path flow input n
steps_path zero flow graphs first each input safe n = ap (λ l. graph_path (with_graphs flow l) input n) (all_same flow.functions graphs each)
steps_path (suc m) flow graphs first each input safe n =
    let mid = between m flow.functions graphs each in
    let later : HasGlobalsFirst (with_graphs flow mid.0) = first_there (OrSame GraphStep) step_arrays flow mid.0 mid.1 first in
    let one : graph_run (with_graphs flow mid.0) input ≡ graph_run flow input = λ i k. step_runs flow mid.0 first mid.1 input safe k i in
    let rest : graph_path (with_graphs flow graphs) input n ≡ graph_path (with_graphs flow mid.0) input n = steps_path m (with_graphs flow mid.0) graphs later mid.2 input (subst NeverFails (sym one) safe) n in
    rest ∙ step_paths flow mid.0 first mid.1 input safe n

steps_kept : (m : ℕ) (g h : Graph) → Steps m g h → KeepsShape g h
steps_kept zero g h e p function o = subst (GraphOf p function) (sym e) o
steps_kept (suc m) g h s p function o = steps_kept m s.0 h s.2 p function (step_kept g s.0 s.1 p function o)

pub moved_runs : MovedRuns
moved_runs flow graphs first each input safe n = let all = each_steps flow.functions graphs each in steps_run all.0 flow graphs first all.1 input safe n

pub moved_paths : MovedPaths
moved_paths flow graphs first each input safe n = let all = each_steps flow.functions graphs each in steps_path all.0 flow graphs first all.1 input safe n

pub moved_stays : MovedStays
moved_stays flow graphs each sound p o =
    let first : HasGlobalsFirst flow = first_back GraphMoved moved_arrays flow graphs each (sound_first (with_graphs flow graphs) sound) in
    runs_stay GraphMoved (λ g h m. steps_kept m.count g h m.steps) flow graphs each (λ input safe n. moved_runs flow graphs first each input safe n) sound p o

-- ---- one operation raised

raised_step : (g h : Graph) → OrSame GraphRaised g h → OrSame GraphStep g h
raised_step g h (inl e) = inl e
raised_step g h (inr r) = inr (inl r)

pub raised_runs : RaisedRuns
raised_runs flow graphs first each input safe n = step_runs flow graphs first (each_map (OrSame GraphRaised) (OrSame GraphStep) raised_step flow.functions graphs each) input safe n

pub raised_stays : RaisedStays
raised_stays flow graphs each sound p o =
    let first : HasGlobalsFirst flow = first_back (OrSame GraphRaised) (λ g h r. step_arrays g h (raised_step g h r)) flow graphs each (sound_first (with_graphs flow graphs) sound) in
    runs_stay (OrSame GraphRaised) (λ g h r. step_kept g h (raised_step g h r)) flow graphs each (λ input safe n. raised_runs flow graphs first each input safe n) sound p o

-- ---- the graphs of a flow, each moved or as it is

moved_itself : (g : Graph) → GraphMoved g g
moved_itself g = record { count = 0; steps = refl }

pub once_moved : (flow new : Flow) (graphs : List Graph) → Each (OrSame GraphMoved) flow.functions graphs → new ≡ with_graphs flow graphs → is_sound_flow new ≡ true → FlowStays flow new
once_moved flow new graphs s e sound p o =
    let t : is_sound_flow (with_graphs flow graphs) ≡ true = subst (λ f. is_sound_flow f ≡ true) e sound in
    subst (FlowOf p) (sym e) (moved_stays flow graphs (each_related GraphMoved flow.functions graphs moved_itself s) t p o)

pub once_paths : (flow new : Flow) (graphs : List Graph) → Each (OrSame GraphMoved) flow.functions graphs → new ≡ with_graphs flow graphs → is_sound_flow new ≡ true → SamePaths flow new
once_paths flow new graphs s e sound input safe n =
    let each : Each GraphMoved flow.functions graphs = each_related GraphMoved flow.functions graphs moved_itself s in
    let first : HasGlobalsFirst flow = first_back GraphMoved moved_arrays flow graphs each (sound_first (with_graphs flow graphs) (subst (λ f. is_sound_flow f ≡ true) e sound)) in
    subst (λ f. graph_path f input n ≡ graph_path flow input n) (sym e) (moved_paths flow graphs first each input safe n)

pub same_paths : (flow : Flow) → SamePaths flow flow
same_paths flow input safe n = refl

-- one way after the other
pub paths_along : (flow between new : Flow) → FlowStays flow between → SamePaths flow between → SamePaths between new → PathsStay flow new
paths_along flow between new stays one two p o input numbers n =
    two input ((stays p o).runs.never_wrong input numbers) n ∙ one input (o.runs.never_wrong input numbers) n

pub ends_along : {E : Type 0} (flow between : Flow) (result : Result Flow E) → FlowStays flow between → SamePaths flow between → IfOk result (λ new. SamePaths between new) → IfOk result (λ new. PathsStay flow new)
ends_along flow between (Ok new) stays one two = paths_along flow between new stays one two
ends_along flow between (Err e) stays one two = two
