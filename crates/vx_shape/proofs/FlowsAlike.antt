-- Runs of a flow come to the same, at every bound, where each graph got other blocks that leave alike.
use Rattle.std.proofs.Common.{◌≡◌, ℕ, zero, suc, ◌+◌, ◌==◌, Bool, true, false, cond, nat_le, ℤ, List, [], ◌∷◌, ◌++◌, length, map, take, drop, slice_get, Option, Some, None, refl, sym, ap, ◌∙◌, subst}
use Rattle.std.specs.Option.{option_map}
use Rattle.vx_base.specs.Outcome.{Outcome, NeverFails, Step, On, Over, step_then, run}
use Rattle.vx_base.specs.declared.outcome.Trap.{Trap}
use Rattle.vx_base.specs.declared.outcome.Trap.TheVariants.{Depth}
use Rattle.vx_base.proofs.Runs.{runs_from, safe_after, safe_end, reach_one}
use Rattle.vx_flow.specs.declared.graph.Block.{Block}
use Rattle.vx_flow.specs.declared.graph.Graph.{Graph}
use Rattle.vx_flow.specs.declared.graph.Flow.{Flow}
use Rattle.vx_flow.specs.Effects.{Content, State, Setting, is_one}
use Rattle.vx_flow.specs.Meaning.{Hop, Arrives, Calls, Leaves, Stops, Wrong, by_test, calls, leaves, hop_of, Body, Program, Frame, Active, deepest, undefined, at_entry, entered, spots_held, spots_for, enters_with, enters, with_result, returned, waits, after_hop, body_hop, hop, next, bases_of, own_of, body_of, program_of, setting_with, globals_at_start, entered_or, start, graph_run}
use Rattle.vx_flow.specs.Agree.{SameWorld}
use Rattle.vx_flow.proofs.EffectsAlike.{Refined}
use Rattle.vx_shape.specs.Flows.{with_graphs, Each}
use Rattle.vx_shape.proofs.Pairs.{At, each_at}

-- values that live and are numbers are the same numbers
abbrev pub Holds : (ℕ → Type 0) → (ℕ → Content) → (ℕ → Content) → Type 0
Holds lives x y = (v : ℕ) (n : ℤ) → lives v → x v ≡ Some n → y v ≡ Some n

pub holds_result : (lives : ℕ → Type 0) (x y : ℕ → Content) (result : Option ℕ) (n : ℤ) → Holds lives x y → Holds lives (with_result x result n) (with_result y result n)
holds_result lives x y None n h v m l e = h v m l e
holds_result lives x y (Some r) n h v m l e = by (v == r) e
  where
    by : (same : Bool) → cond same (Some n) (x v) ≡ Some m → cond same (Some n) (y v) ≡ Some m
    by true q = q
    by false q = h v m l q

-- Both leave in one way, with values that agree; at a call those that the caller goes on with, whatever the result is. Where
-- the first has no meaning nothing is said.
pub data Alikes (agree : (ℕ → Content) → (ℕ → Content) → Type 0) : Hop → Hop → Type 0 where
  wrong : {h : Hop} → Alikes agree Wrong h
  arrives : {b c : ℕ} {s t : State} → SameWorld s t → agree s.values t.values → Alikes agree (Arrives b c s) (Arrives b c t)
  called : {f : ℕ} {ns : List ℤ} {result : Option ℕ} {b c : ℕ} {s t : State} → SameWorld s t → ((n : ℤ) → agree (with_result s.values result n) (with_result t.values result n)) → Alikes agree (Calls f ns result b c s) (Calls f ns result b c t)
  left : {n : ℤ} {s t : State} → SameWorld s t → Alikes agree (Leaves n s) (Leaves n t)
  stopped : {k : Trap} {s t : State} → SameWorld s t → Alikes agree (Stops k s) (Stops k t)

module _ (agree : (ℕ → Content) → (ℕ → Content) → Type 0) where
  pub test_alike : (b c d : ℕ) (s t : State) (x y : Content) → Refined x y → SameWorld s t → agree s.values t.values → Alikes agree (by_test x (Arrives b c s) (Arrives b d s)) (by_test y (Arrives b c t) (Arrives b d t))
  test_alike b c d s t None y r w a = wrong
  test_alike b c d s t (Some z) y r w a =
      subst (λ q. Alikes agree (by_test (Some z) (Arrives b c s) (Arrives b d s)) (by_test q (Arrives b c t) (Arrives b d t))) (sym (r z refl)) (by (is_one z))
    where
      by : (one : Bool) → Alikes agree (cond one (Arrives b c s) (Arrives b d s)) (cond one (Arrives b c t) (Arrives b d t))
      by true = arrives w a
      by false = arrives w a

  pub calls_alike : (f b c : ℕ) (result : Option ℕ) (s t : State) (o o' : Option (List ℤ)) → ((ns : List ℤ) → o ≡ Some ns → o' ≡ Some ns) → SameWorld s t → ((n : ℤ) → agree (with_result s.values result n) (with_result t.values result n)) →
      Alikes agree (calls f o result b c s) (calls f o' result b c t)
  calls_alike f b c result s t None o' k w a = wrong
  calls_alike f b c result s t (Some ns) o' k w a = subst (λ q. Alikes agree (Calls f ns result b c s) (calls f q result b c t)) (sym (k ns refl)) (called w a)

  pub leaves_alike : (s t : State) (x y : Content) → Refined x y → SameWorld s t → Alikes agree (leaves x s) (leaves y t)
  leaves_alike s t None y r w = wrong
  leaves_alike s t (Some n) y r w = subst (λ q. Alikes agree (Leaves n s) (leaves q t)) (sym (r n refl)) (left w)

-- The new graph is the old one with other blocks. At its entry values agree, and each block leaves alike from values that do.
pub record GraphAlike (agree : (ℕ → Content) → (ℕ → Content) → Type 0) (old new : Graph) : Type 0 where
  pub blocks : List Block
  pub is : new ≡ record old { blocks = blocks }
  pub entry : (ns : List ℤ) → agree (at_entry old.parameters ns) (at_entry old.parameters ns)
  pub hops : (setting : Setting) (b : ℕ) (s t : State) → SameWorld s t → agree s.values t.values → Alikes agree (hop_of setting b (slice_get old.blocks b) s) (hop_of setting b (slice_get new.blocks b) t)

module _ (R : Graph → Graph → Type 0) (agree : (g h : Graph) → R g h → (ℕ → Content) → (ℕ → Content) → Type 0) where
  abbrev agree_by : (o q : Option Graph) → At R o q → (ℕ → Content) → (ℕ → Content) → Type 0
  agree_by None None p = λ x y. Unit {0}
  agree_by None (Some h) p = λ x y. Unit {0}
  agree_by (Some g) None p = λ x y. Unit {0}
  agree_by (Some g) (Some h) p = agree g h p

  module _ (alike : (g h : Graph) (p : R g h) → GraphAlike (agree g h p) g h) (flow : Flow) (graphs : List Graph) (each : Each R flow.functions graphs) where
    abbrev old : Program
    old = program_of flow

    abbrev new : Program
    new = program_of (with_graphs flow graphs)

    abbrev as_body : Option Graph → Option Body
    as_body o = option_map (body_of (length flow.globals)) o

    abbrev agree_in : ℕ → (ℕ → Content) → (ℕ → Content) → Type 0
    agree_in f = agree_by (slice_get flow.functions f) (slice_get graphs f) (each_at R flow.functions graphs each f)

    abbrev out_of : Active → List ℕ
    out_of r = r.state.out

    abbrev FramesTied : List Frame → List Frame → Type 0
    FramesTied [] [] = Unit {0}
    FramesTied [] (g ∷ gs) = ⊥
    FramesTied (f ∷ fs) [] = ⊥
    FramesTied (f ∷ fs) (g ∷ gs) = (values : ℕ → Content) × (g ≡ record f { values = values }) × ((n : ℤ) → agree_in f.function (with_result f.values f.result n) (with_result values f.result n)) × FramesTied fs gs

    -- both at the start of one block, with values that agree
    abbrev Joined : Active → Active → Type 0
    Joined r q = (t : State) × (ws : List Frame) × (q ≡ record r { state = t; waiting = ws }) × SameWorld r.state t × agree_in r.function r.state.values t.values × FramesTied r.waiting ws

    abbrev StepJoined : Step Active → Step Active → Type 0
    StepJoined (On r) (On q) = Joined r q
    StepJoined (On r) (Over p) = ⊥
    StepJoined (Over o) (On q) = ⊥
    StepJoined (Over o) (Over p) = o ≡ p

    frames_length : (fs gs : List Frame) → FramesTied fs gs → length gs ≡ length fs
    frames_length [] [] k = refl
    frames_length [] (g ∷ gs) k = absurd k
    frames_length (f ∷ fs) [] k = absurd k
    frames_length (f ∷ fs) (g ∷ gs) k = ap suc (frames_length fs gs k.3)

    never_wrong : (r : Active) → NeverFails (runs_from (next old) out_of r) → hop old r ≡ Wrong → ⊥
    never_wrong r safe e = let q : next old r ≡ Over (Outcome.Wrong r.state.out) = ap (after_hop old r) e in safe_end (next old) out_of r (Outcome.Wrong r.state.out) q safe tt

    -- ---- one block

    hop_alike : (r : Active) (t : State) (ws : List Frame) (o q : Option Graph) (p : At R o q) → SameWorld r.state t → agree_by o q p r.state.values t.values →
        Alikes (agree_by o q p) (body_hop old r (as_body o)) (body_hop new (record r { state = t; waiting = ws }) (as_body q))
    hop_alike r t ws None None p w a = wrong
    hop_alike r t ws None (Some h) p w a = absurd p
    hop_alike r t ws (Some g) None p w a = absurd p
    hop_alike r t ws (Some g) (Some h) p w a = (alike g h p).hops (setting_with old r.passed r.base) r.block r.state t w a

    -- ---- behind it

    cond_joined : (b c : Bool) (x y x' y' : Step Active) → c ≡ b → StepJoined x x' → StepJoined y y' → StepJoined (cond b x y) (cond c x' y')
    cond_joined true c x y x' y' e h k = subst (λ z. StepJoined x (cond z x' y')) (sym e) h
    cond_joined false c x y x' y' e h k = subst (λ z. StepJoined y (cond z x' y')) (sym e) k

    entered_world : (ns : List ℤ) (s t : State) (x : Graph) → SameWorld s t → SameWorld (entered (body_of (length flow.globals) x) ns s) (entered (body_of (length flow.globals) x) ns t)
    entered_world ns s t x w = record { arrays = ap (λ l. l ++ map undefined (own_of (length flow.globals) x)) w.arrays; input = w.input; out = w.out }

    graph_joined : (g : ℕ) (ns : List ℤ) (s t : State) (fs gs : List Frame) (x y : Graph) (blocks : List Block) → y ≡ record x { blocks = blocks } → SameWorld s t → FramesTied fs gs → agree_in g (at_entry x.parameters ns) (at_entry x.parameters ns) → (spots : Option (List (Option ℕ))) →
        StepJoined (enters_with g (as_body (Some x)) ns s fs spots) (enters_with g (as_body (Some y)) ns t gs spots)
    graph_joined g ns s t fs gs x y blocks e w k a None = ap Outcome.Wrong (sym w.out)
    graph_joined g ns s t fs gs x y blocks e w k a (Some passed) =
        let body : Body = body_of (length flow.globals) x in
        let made : Joined (record { function = g; block = 0; passed = passed; base = length s.arrays; state = entered body ns s; waiting = fs }) (record { function = g; block = 0; passed = passed; base = length t.arrays; state = entered body ns t; waiting = gs }) =
        (entered body ns t, gs, ap (λ n. record { function = g; block = 0; passed = passed; base = n; state = entered body ns t; waiting = gs }) (ap length w.arrays), entered_world ns s t x w, a, k) in
        subst (λ z. StepJoined (enters_with g (as_body (Some x)) ns s fs (Some passed)) (enters_with g (as_body (Some z)) ns t gs (Some passed))) (sym e) made

    spots_same : (ns : List ℤ) (s t : State) (o q : Option Graph) → At R o q → SameWorld s t → spots_for (as_body q) ns t ≡ spots_for (as_body o) ns s
    spots_same ns s t None None p w = refl
    spots_same ns s t None (Some h) p w = absurd p
    spots_same ns s t (Some x) None p w = absurd p
    spots_same ns s t (Some x) (Some y) p w =
        ap (λ z. spots_for (as_body (Some z)) ns t) (alike x y p).is ∙ ap (λ n. spots_held n (at_entry x.parameters ns) (bases_of (length flow.globals) x)) (ap length w.arrays)

    body_joined : (g : ℕ) (ns : List ℤ) (s t : State) (fs gs : List Frame) (o q : Option Graph) (p : At R o q) → SameWorld s t → FramesTied fs gs → ((x y : ℕ → Content) → agree_by o q p x y → agree_in g x y) → (spots : Option (List (Option ℕ))) →
        StepJoined (enters_with g (as_body o) ns s fs spots) (enters_with g (as_body q) ns t gs spots)
    body_joined g ns s t fs gs None None p w k u spots = ap Outcome.Wrong (sym w.out)
    body_joined g ns s t fs gs None (Some h) p w k u spots = absurd p
    body_joined g ns s t fs gs (Some x) None p w k u spots = absurd p
    body_joined g ns s t fs gs (Some x) (Some y) p w k u spots = let it = alike x y p in graph_joined g ns s t fs gs x y it.blocks it.is w k (u (at_entry x.parameters ns) (at_entry x.parameters ns) (it.entry ns)) spots

    enters_joined : (g : ℕ) (ns : List ℤ) (s t : State) (fs gs : List Frame) → SameWorld s t → FramesTied fs gs → StepJoined (enters g (old.body g) ns s fs) (enters g (new.body g) ns t gs)
    enters_joined g ns s t fs gs w k =
        subst (λ spots. StepJoined (enters g (old.body g) ns s fs) (enters_with g (new.body g) ns t gs spots)) (sym (spots_same ns s t (slice_get flow.functions g) (slice_get graphs g) (each_at R flow.functions graphs each g) w))
        (body_joined g ns s t fs gs (slice_get flow.functions g) (slice_get graphs g) (each_at R flow.functions graphs each g) w k (λ x y a. a) (spots_for (old.body g) ns s))

    returned_joined : (n : ℤ) (s t : State) (base : ℕ) (fs gs : List Frame) → SameWorld s t → FramesTied fs gs → StepJoined (returned n s base fs) (returned n t base gs)
    returned_joined n s t base [] [] w k = ap (λ out. Outcome.Ends n out) (sym w.out)
    returned_joined n s t base [] (g ∷ gs) w k = absurd k
    returned_joined n s t base (f ∷ fs) [] w k = absurd k
    returned_joined n s t base (f ∷ fs) (g ∷ gs) w k =
        let back : SameWorld (record s { values = with_result f.values f.result n; arrays = take base s.arrays }) (record t { values = with_result k.0 f.result n; arrays = take base t.arrays }) = record { arrays = ap (take base) w.arrays; input = w.input; out = w.out } in
        subst (λ x. StepJoined (returned n s base (f ∷ fs)) (returned n t base (x ∷ gs))) (sym k.1) (record t { values = with_result k.0 f.result n; arrays = take base t.arrays }, gs, refl, back, k.2 n, k.3)

    after_joined : (r : Active) (u : State) (ws : List Frame) (h k : Hop) → Alikes (agree_in r.function) h k → (h ≡ Wrong → ⊥) → FramesTied r.waiting ws → StepJoined (after_hop old r h) (after_hop new (record r { state = u; waiting = ws }) k)
    after_joined r u ws _ _ wrong safe tied = absurd (safe refl)
    after_joined r u ws _ _ (arrives {b} {c} {s} {t} w a) safe tied = (t, ws, refl, w, a, tied)
    after_joined r u ws _ _ (called {f} {ns} {result} {b} {c} {s} {t} w a) safe tied =
        let q : Active = record r { state = u; waiting = ws } in
        let fs : List Frame = waits r result b c s ∷ r.waiting in
        let gs : List Frame = waits q result b c t ∷ ws in
        let many : nat_le deepest (length ws + 1) ≡ nat_le deepest (length r.waiting + 1) = ap (λ n. nat_le deepest (n + 1)) (frames_length r.waiting ws tied) in
        let inside : FramesTied fs gs = (t.values, refl, a, tied) in
        cond_joined (nat_le deepest (length r.waiting + 1)) (nat_le deepest (length ws + 1)) (Over (Outcome.Traps Depth s.out)) (enters f (old.body f) ns s fs) (Over (Outcome.Traps Depth t.out)) (enters f (new.body f) ns t gs) many
        (ap (Outcome.Traps Depth) (sym w.out))
        (enters_joined f ns s t fs gs w inside)
    after_joined r u ws _ _ (left {n} {s} {t} w) safe tied = returned_joined n s t r.base r.waiting ws w tied
    after_joined r u ws _ _ (stopped {k} {s} {t} w) safe tied = ap (Outcome.Traps k) (sym w.out)

    next_joined : (r q : Active) → Joined r q → NeverFails (runs_from (next old) out_of r) → StepJoined (next old r) (next new q)
    next_joined r q j safe =
        subst (λ p. StepJoined (next old r) (next new p)) (sym j.2)
        (after_joined r j.0 j.1 (hop old r) (hop new (record r { state = j.0; waiting = j.1 }))
        (hop_alike r j.0 j.1 (slice_get flow.functions r.function) (slice_get graphs r.function) (each_at R flow.functions graphs each r.function) j.3 j.4) (never_wrong r safe) j.5)

    -- ---- runs

    runs_same : (n : ℕ) (r q : Active) → Joined r q → NeverFails (runs_from (next old) out_of r) → run (next new) out_of n q ≡ run (next old) out_of n r
    runs_same zero r q j safe = ap (λ (x : Active). Outcome.Goes x.state.out) j.2 ∙ ap Outcome.Goes j.3.out
    runs_same (suc n) r q j safe = by (next old r) (next new q) refl (next_joined r q j safe) (runs_same n)
      where
        by : (x y : Step Active) → next old r ≡ x → StepJoined x y → ((r' q' : Active) → Joined r' q' → NeverFails (runs_from (next old) out_of r') → run (next new) out_of n q' ≡ run (next old) out_of n r') →
            step_then (run (next new) out_of n) y ≡ step_then (run (next old) out_of n) x
        by (On r') (On q') e k rec = rec r' q' k (safe_after (next old) out_of 1 r r' (reach_one (next old) r r' e) safe)
        by (On r') (Over p) e k rec = absurd k
        by (Over o) (On q') e k rec = absurd k
        by (Over o) (Over p) e k rec = sym k

    abbrev at_main : Option Body → State → Active
    at_main o s = record { function = flow.main; block = 0; passed = []; base = length s.arrays; state = entered_or o s; waiting = [] }

    start_joined : (s : State) (o q : Option Body) → (o ≡ None → ⊥) → StepJoined (enters_with flow.main o [] s [] (Some [])) (enters_with flow.main q [] s [] (Some [])) → Joined (at_main o s) (at_main q s)
    start_joined s None q some k = absurd (some refl)
    start_joined s (Some x) None some k = absurd k
    start_joined s (Some x) (Some y) some k = k

    pub runs_alike : (input : List ℤ) → NeverFails (graph_run flow input) → (n : ℕ) → graph_run (with_graphs flow graphs) input n ≡ graph_run flow input n
    runs_alike input safe n =
        let r : Active = start flow input in
        let s : State = globals_at_start flow input in
        let w : SameWorld s s = record { arrays = refl; input = refl; out = refl } in
        let some : old.body flow.main ≡ None → ⊥ = λ e. never_wrong r safe (ap (body_hop old r) e) in
        runs_same n r (start (with_graphs flow graphs) input) (start_joined s (old.body flow.main) (new.body flow.main) some
        (body_joined flow.main [] s s [] [] (slice_get flow.functions flow.main) (slice_get graphs flow.main) (each_at R flow.functions graphs each flow.main) w tt (λ x y a. a) (Some []))) safe
