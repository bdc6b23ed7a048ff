-- Programs whose blocks are skipped and merged: from tied starts of blocks the old one goes on through the blocks that stand in
-- one new block, and both meet again behind it.
use Rattle.std.proofs.Common.{◌≡◌, ◌⊎◌, inl, inr, ℕ, zero, suc, ◌+◌, ◌<◌, Bool, true, false, cond, nat_le, ℤ, List, [], ◌∷◌, ◌++◌, length, map, drop, slice_get, Option, Some, None, refl, sym, ap, ◌∙◌, subst, arith}
use Rattle.std.proofs.lemmas.List.{drop-drop}
use Rattle.std.proofs.Math.Seq.{drop-append_seam}
use Rattle.std.specs.Option.{option_map}
use Rattle.vx_base.specs.Outcome.{Outcome, IsOver, IsFailure, IsGoing, Same, NeverFails, Step, On, Over, step_then, run}
use Rattle.vx_base.specs.declared.outcome.Trap.TheVariants.{Depth}
use Rattle.vx_base.proofs.Runs.{runs_from, safe_after, safe_end, reach_one}
use Rattle.vx_base.proofs.Meeting.{Meets, Again, Ended, same_from_meeting}
use Rattle.vx_flow.specs.declared.graph.Op.{Op}
use Rattle.vx_flow.specs.declared.graph.Exit.{Exit}
use Rattle.vx_flow.specs.declared.graph.Exit.TheVariants.{Goto, Split, Call, Return, Ends}
use Rattle.vx_flow.specs.declared.graph.Block.{Block}
use Rattle.vx_flow.specs.declared.graph.Graph.{Graph}
use Rattle.vx_flow.specs.declared.graph.Array.{Array}
use Rattle.vx_flow.specs.declared.graph.Flow.{Flow}
use Rattle.vx_flow.specs.Effects.{Content, State, Setting, held, is_one, effect, IsIn}
use Rattle.vx_flow.specs.Meaning.{Hop, Arrives, Wrong, known, by_test, calls, leaves, leave, and_then, block_hop, hop_of, Body, Program, Frame, Active, deepest, undefined, at_entry, entered, spots_held, spots_for, enters_with, enters, bases_in, words_in, returned, waits, after_hop, body_hop, hop, next, body_of, program_of, setting_with, globals_at_start, entered_or, start, graph_run}
use Rattle.vx_flow.proofs.RunLaws.{flow_grows}
use Rattle.vx_clean.specs.Cleaning.{Place, Heads, ExitMeets, Comes, GoesOn, Stands, GraphCleaned, FunctionCleaned, Cleaned, CleanedRuns}
use Rattle.vx_shape.specs.Flows.{with_graphs}

-- ---- operations that stand in a longer row

abbrev then_do : Option State → (State → Option State) → Option State
then_do None f = None
then_do (Some t) f = f t

abbrev done : Setting → List Op → State → Option State
done setting [] s = Some s
done setting (op ∷ ops) s = then_do (effect setting s op s) (done setting ops)

done_by : (setting : Setting) (ops : List Op) (f g : State → Hop) (o : Option State) → ((t : State) → f t ≡ and_then (done setting ops t) g) → and_then o f ≡ and_then (then_do o (done setting ops)) g
done_by setting ops f g None h = refl
done_by setting ops f g (Some t) h = h t

hop_done : (setting : Setting) (b : ℕ) (ops rest : List Op) (exit : Exit) (s : State) → block_hop setting b (ops ++ rest) exit s ≡ and_then (done setting ops s) (block_hop setting b rest exit)
hop_done setting b [] rest exit s = refl
hop_done setting b (op ∷ ops) rest exit s = done_by setting ops (block_hop setting b (ops ++ rest) exit) (block_hop setting b rest exit) (effect setting s op s) (hop_done setting b ops rest exit)

hop_own : (setting : Setting) (b : ℕ) (ops : List Op) (exit : Exit) (s : State) → block_hop setting b ops exit s ≡ and_then (done setting ops s) (leave b exit)
hop_own setting b [] exit s = refl
hop_own setting b (op ∷ ops) exit s = done_by setting ops (block_hop setting b ops exit) (leave b exit) (effect setting s op s) (hop_own setting b ops exit)

pub more : (k : ℕ) (l xs rest : List Op) → drop k l ≡ xs ++ rest → drop (k + length xs) l ≡ rest
more k l xs rest e = sym (drop-drop (length xs) k l) ∙ ap (drop (length xs)) e ∙ drop-append_seam xs rest

-- what a new block does behind a place
abbrev rest_of : Setting → Place → Option Block → State → Hop
rest_of setting p None s = Wrong
rest_of setting p (Some block) s = block_hop setting p.block (drop p.before block.ops) block.exit s

abbrev rest_in : Setting → Place → Option Graph → State → Hop
rest_in setting p None s = Wrong
rest_in setting p (Some g) s = rest_of setting p (slice_get g.blocks p.block) s

whole_block : (setting : Setting) (b left : ℕ) (o : Option Block) (s : State) → hop_of setting b o s ≡ rest_of setting (record { block = b; before = 0; left = left }) o s
whole_block setting b left None s = refl
whole_block setting b left (Some block) s = refl

over_by : (o : Outcome) → (IsGoing o → ⊥) → (IsFailure o → ⊥) → IsOver o
over_by (Outcome.Ends r out) g f = tt
over_by (Outcome.Traps k out) g f = tt
over_by (Outcome.Goes out) g f = g tt
over_by (Outcome.Stuck why p out) g f = f tt
over_by (Outcome.Wrong out) g f = f tt

module _ (flow : Flow) (graphs : List Graph) (at : ℕ → ℕ → List Place) (cleaned : Cleaned at flow graphs) where
  abbrev old : Program
  old = program_of flow

  abbrev new : Program
  new = program_of (with_graphs flow graphs)

  abbrev as_body : Option Graph → Option Body
  as_body o = option_map (body_of (length flow.globals)) o

  abbrev out_of : Active → List ℕ
  out_of r = r.state.out

  abbrev Safe : Active → Type 0
  Safe r = NeverFails (runs_from (next old) out_of r)

  abbrev FramesTied : List Frame → List Frame → Type 0
  FramesTied [] [] = Unit {0}
  FramesTied [] (g ∷ gs) = ⊥
  FramesTied (f ∷ fs) [] = ⊥
  FramesTied (f ∷ fs) (g ∷ gs) = (from : ℕ) × (to : ℕ) × (g ≡ record f { from = from; next = to }) × Heads (at f.function) f.next to × FramesTied fs gs

  -- both at the start of a block, the old one's at the start of the new one's
  abbrev Joined : Active → Active → Type 0
  Joined r q = (b : ℕ) × (ws : List Frame) × (q ≡ record r { block = b; waiting = ws }) × Heads (at r.function) r.block b × FramesTied r.waiting ws

  record Tied (r q : Active) : Type 0 where
    pub joined : Joined r q
    pub safe : Safe r

  abbrev StepJoined : Step Active → Step Active → Type 0
  StepJoined (On r) (On q) = Joined r q
  StepJoined (On r) (Over p) = ⊥
  StepJoined (Over o) (On q) = ⊥
  StepJoined (Over o) (Over p) = (o ≡ p) × (IsGoing o → ⊥)

  abbrev MeetsHere : Active → Active → Type 0
  MeetsHere = Meets (next old) out_of (next new) out_of Tied

  frames_length : (fs gs : List Frame) → FramesTied fs gs → length gs ≡ length fs
  frames_length [] [] k = refl
  frames_length [] (g ∷ gs) k = absurd k
  frames_length (f ∷ fs) [] k = absurd k
  frames_length (f ∷ fs) (g ∷ gs) k = ap suc (frames_length fs gs k.4)

  never_wrong : (r : Active) → Safe r → hop old r ≡ Wrong → ⊥
  never_wrong r safe e = let q : next old r ≡ Over (Outcome.Wrong r.state.out) = ap (after_hop old r) e in safe_end (next old) out_of r (Outcome.Wrong r.state.out) q safe tt

  -- ---- meeting

  meets_by : (r q : Active) (x y : Step Active) → next old r ≡ x → next new q ≡ y → StepJoined x y → Safe r → MeetsHere r q
  meets_by r q (On r') (On q') e d j safe = Again 0 0 r' q' (r', e, refl) (q', d, refl) (record { joined = j; safe = safe_after (next old) out_of 1 r r' (reach_one (next old) r r' e) safe })
  meets_by r q (On r') (Over p) e d j safe = absurd j
  meets_by r q (Over o) (On q') e d j safe = absurd j
  meets_by r q (Over o) (Over p) e d j safe =
      Ended 1 1 o (over_by o j.1 (safe_end (next old) out_of r o e safe)) (ap (step_then (run (next old) out_of 0)) e) (ap (step_then (run (next new) out_of 0)) d ∙ sym j.0)

  meets_ahead : (r r' q : Active) → next old r ≡ On r' → MeetsHere r' q → MeetsHere r q
  meets_ahead r r' q a (Again i j r2 q2 rr rq tie) = Again (suc i) j r2 q2 (r', a, rr) rq tie
  meets_ahead r r' q a (Ended i j o v e d) = Ended (suc i) j o v (ap (step_then (run (next old) out_of i)) a ∙ e) d

  -- ---- exits

  cond_joined : (b c : Bool) (x y x' y' : Step Active) → c ≡ b → StepJoined x x' → StepJoined y y' → StepJoined (cond b x y) (cond c x' y')
  cond_joined true c x y x' y' e h k = subst (λ z. StepJoined x (cond z x' y')) (sym e) h
  cond_joined false c x y x' y' e h k = subst (λ z. StepJoined y (cond z x' y')) (sym e) k

  entered_same : (ns : List ℤ) (s : State) (x y : Graph) → y.parameters ≡ x.parameters → y.arrays ≡ x.arrays → entered (body_of (length flow.globals) y) ns s ≡ entered (body_of (length flow.globals) x) ns s
  entered_same ns s x y p a = λ i. record s { values = at_entry (p i) ns; arrays = s.arrays ++ map undefined (words_in (drop (length flow.globals) (a i))) }

  body_joined : (g : ℕ) (ns : List ℤ) (s : State) (fs gs : List Frame) (o o' : Option Graph) → FunctionCleaned (at g) o o' → FramesTied fs gs → StepJoined (enters g (as_body o) ns s fs) (enters g (as_body o') ns s gs)
  body_joined g ns s fs gs None None c k = (refl, λ h. h)
  body_joined g ns s fs gs None (Some h) c k = absurd c
  body_joined g ns s fs gs (Some x) None c k = absurd c
  body_joined g ns s fs gs (Some x) (Some y) c k =
      subst (λ spots. StepJoined (enters g (as_body (Some x)) ns s fs) (enters_with g (as_body (Some y)) ns s gs spots)) (sym spots_same) (by (spots_for (as_body (Some x)) ns s))
    where
      spots_same : spots_for (as_body (Some y)) ns s ≡ spots_for (as_body (Some x)) ns s
      spots_same = λ i. spots_held (length s.arrays) (at_entry (c.parameters i) ns) (bases_in (drop (length flow.globals) (c.arrays i)))

      by : (spots : Option (List (Option ℕ))) → StepJoined (enters_with g (as_body (Some x)) ns s fs spots) (enters_with g (as_body (Some y)) ns s gs spots)
      by None = (refl, λ h. h)
      by (Some passed) =
          (0, gs, ap (λ (u : State). record { function = g; block = 0; passed = passed; base = length s.arrays; state = u; waiting = gs }) (entered_same ns s x y c.parameters c.arrays), c.entry, k)

  returned_joined : (n : ℤ) (s : State) (base : ℕ) (fs gs : List Frame) → FramesTied fs gs → StepJoined (returned n s base fs) (returned n s base gs)
  returned_joined n s base [] [] k = (refl, λ h. h)
  returned_joined n s base [] (g ∷ gs) k = absurd k
  returned_joined n s base (f ∷ fs) [] k = absurd k
  returned_joined n s base (f ∷ fs) (g ∷ gs) k =
      subst (λ x. StepJoined (returned n s base (f ∷ fs)) (returned n s base (x ∷ gs))) (sym k.2) (k.1, gs, refl, k.3, k.4)

  module _ (r : Active) (b : ℕ) (t : State) (ws : List Frame) (tied : FramesTied r.waiting ws) where
    abbrev q : Active
    q = record r { block = b; state = t; waiting = ws }

    abbrev HopsJoined : Hop → Hop → Type 0
    HopsJoined h k = StepJoined (after_hop old r h) (after_hop new q k)

    arrives_joined : (s : State) (c x i j : ℕ) → Heads (at r.function) c x → HopsJoined (Arrives i c s) (Arrives j x s)
    arrives_joined s c x i j h = (x, ws, refl, h, tied)

    split_joined : (s : State) (o : Content) (c d x y : ℕ) → Heads (at r.function) c x → Heads (at r.function) d y → (by_test o (Arrives r.block c s) (Arrives r.block d s) ≡ Wrong → ⊥) →
        HopsJoined (by_test o (Arrives r.block c s) (Arrives r.block d s)) (by_test o (Arrives b x s) (Arrives b y s))
    split_joined s None c d x y h k safe = absurd (safe refl)
    split_joined s (Some z) c d x y h k safe = by (is_one z)
      where
        by : (v : Bool) → HopsJoined (cond v (Arrives r.block c s) (Arrives r.block d s)) (cond v (Arrives b x s) (Arrives b y s))
        by true = arrives_joined s c x r.block b h
        by false = arrives_joined s d y r.block b k

    one_side_joined : (s : State) (o : Content) (c d x : ℕ) → Heads (at r.function) c x → Heads (at r.function) d x → (by_test o (Arrives r.block c s) (Arrives r.block d s) ≡ Wrong → ⊥) →
        HopsJoined (by_test o (Arrives r.block c s) (Arrives r.block d s)) (Arrives b x s)
    one_side_joined s None c d x h k safe = absurd (safe refl)
    one_side_joined s (Some z) c d x h k safe = by (is_one z)
      where
        by : (v : Bool) → HopsJoined (cond v (Arrives r.block c s) (Arrives r.block d s)) (Arrives b x s)
        by true = arrives_joined s c x r.block b h
        by false = arrives_joined s d x r.block b k

    calls_joined : (s : State) (g : ℕ) (o : Option (List ℤ)) (result : Option ℕ) (c x : ℕ) → Heads (at r.function) c x → (calls g o result r.block c s ≡ Wrong → ⊥) →
        HopsJoined (calls g o result r.block c s) (calls g o result b x s)
    calls_joined s g None result c x h safe = absurd (safe refl)
    calls_joined s g (Some ns) result c x h safe =
        let many : nat_le deepest (length ws + 1) ≡ nat_le deepest (length r.waiting + 1) = ap (λ n. nat_le deepest (n + 1)) (frames_length r.waiting ws tied) in
        let inside : FramesTied (waits r result r.block c s ∷ r.waiting) (waits q result b x s ∷ ws) = (b, x, refl, h, tied) in
        cond_joined (nat_le deepest (length r.waiting + 1)) (nat_le deepest (length ws + 1)) (Over (Outcome.Traps Depth s.out)) (enters g (old.body g) ns s (waits r result r.block c s ∷ r.waiting)) (Over (Outcome.Traps Depth s.out)) (enters g (new.body g) ns s (waits q result b x s ∷ ws)) many
        (refl, λ k. k)
        (body_joined g ns s (waits r result r.block c s ∷ r.waiting) (waits q result b x s ∷ ws) (slice_get flow.functions g) (slice_get graphs g) (cleaned g) inside)

    leaves_joined : (s : State) (o : Content) → (leaves o s ≡ Wrong → ⊥) → HopsJoined (leaves o s) (leaves o s)
    leaves_joined s None safe = absurd (safe refl)
    leaves_joined s (Some n) safe = returned_joined n s r.base r.waiting ws tied

    exit_joined : (s : State) (exit e : Exit) → ExitMeets (at r.function) exit e → (leave r.block exit s ≡ Wrong → ⊥) → HopsJoined (leave r.block exit s) (leave b e s)
    exit_joined s (Goto c) e m safe = subst (λ k. HopsJoined (Arrives r.block c s) (leave b k s)) (sym m.2) (arrives_joined s c m.0 r.block b m.1)
    exit_joined s (Split p c d) e (inl m) safe = subst (λ k. HopsJoined (leave r.block (Split p c d) s) (leave b k s)) (sym m.4) (split_joined s (s.values p) c d m.0 m.1 m.2 m.3 safe)
    exit_joined s (Split p c d) e (inr m) safe = subst (λ k. HopsJoined (leave r.block (Split p c d) s) (leave b k s)) (sym m.3) (one_side_joined s (s.values p) c d m.0 m.1 m.2 safe)
    exit_joined s (Call g arguments result c) e m safe = subst (λ k. HopsJoined (leave r.block (Call g arguments result c) s) (leave b k s)) (sym m.2) (calls_joined s g (known (map (held s) arguments)) result c m.0 m.1 safe)
    exit_joined s (Return x) e m safe = subst (λ k. HopsJoined (leave r.block (Return x) s) (leave b k s)) (sym m) (leaves_joined s (held s x) safe)
    exit_joined s (Ends k) e m safe = subst (λ j. HopsJoined (leave r.block (Ends k) s) (leave b j s)) (sym m) (refl, λ h. h)

  -- ---- the blocks that stand in one new block

  abbrev mid : Active → Place → State → List Frame → Active
  mid r p t ws = record r { block = p.block; state = t; waiting = ws }

  -- from the start of an old block at a place of it in the new one, with less than n left
  abbrev Chained : ℕ → Type 0
  Chained n = (r : Active) (p : Place) (t : State) (ws : List Frame) → p.left < n → IsIn p (at r.function r.block) → FramesTied r.waiting ws → Safe r →
      hop new (mid r p t ws) ≡ rest_in (setting_with old r.passed r.base) p (slice_get graphs r.function) r.state → MeetsHere r (mid r p t ws)

  module _ (n : ℕ) (hyp : Chained n) (r : Active) (p : Place) (t : State) (ws : List Frame) (lt : p.left < suc n) (w : IsIn p (at r.function r.block)) (f : FramesTied r.waiting ws) (safe : Safe r)
      (e : hop new (mid r p t ws) ≡ rest_in (setting_with old r.passed r.base) p (slice_get graphs r.function) r.state) where
    abbrev setting : Setting
    setting = setting_with old r.passed r.base

    abbrev here : Active
    here = mid r p t ws

    module _ (g h : Graph) (x : slice_get flow.functions r.function ≡ Some g) (y : slice_get graphs r.function ≡ Some h) (block : Block) (z : slice_get g.blocks r.block ≡ Some block) (k : Stands (at r.function) h block p) where
      abbrev behind : ℕ → Place
      behind left = record { block = p.block; before = p.before + length block.ops; left = left }

      old_hop : hop old r ≡ and_then (done setting block.ops r.state) (leave r.block block.exit)
      old_hop = ap (λ o. body_hop old r (as_body o)) x ∙ ap (λ o. hop_of setting r.block o r.state) z ∙ hop_own setting r.block block.ops block.exit r.state

      new_hop : hop new here ≡ and_then (done setting block.ops r.state) (block_hop setting p.block k.rest k.into.exit)
      new_hop = e ∙ ap (λ o. rest_in setting p o r.state) y ∙ ap (λ o. rest_of setting p o r.state) k.has ∙ ap (λ ops. block_hop setting p.block ops k.into.exit r.state) k.ops ∙ hop_done setting p.block block.ops k.rest k.into.exit r.state

      there : (s : State) (left : ℕ) → rest_in setting (behind left) (slice_get graphs r.function) s ≡ block_hop setting p.block k.rest k.into.exit s
      there s left = ap (λ o. rest_in setting (behind left) o s) y ∙ ap (λ o. rest_of setting (behind left) o s) k.has ∙ ap (λ ops. block_hop setting p.block ops k.into.exit s) (more p.before k.into.ops block.ops k.rest k.ops)

      merge : (s : State) (c : ℕ) → hop old r ≡ Arrives r.block c s → hop new here ≡ block_hop setting p.block k.rest k.into.exit s → Comes (at r.function) p (length block.ops) c → MeetsHere r here
      merge s c a b m =
          let r' : Active = record r { block = c; state = s } in
          let step : next old r ≡ On r' = ap (after_hop old r) a in
          let l1 : p.left < suc n = lt in
          let l2 : m.0 < p.left = m.1 in
          let low : m.0 < n = omega arith in
          meets_ahead r r' here step (hyp r' (behind m.0) t ws low m.2 f (safe_after (next old) out_of 1 r r' (reach_one (next old) r r' step) safe) (b ∙ sym (there s m.0)))

      split_on : (s : State) (o : Content) (c d : ℕ) → hop old r ≡ by_test o (Arrives r.block c s) (Arrives r.block d s) → hop new here ≡ block_hop setting p.block k.rest k.into.exit s →
          Comes (at r.function) p (length block.ops) c → Comes (at r.function) p (length block.ops) d → MeetsHere r here
      split_on s None c d a b mc md = absurd (never_wrong r safe a)
      split_on s (Some v) c d a b mc md = by (is_one v) a
        where
          by : (u : Bool) → hop old r ≡ cond u (Arrives r.block c s) (Arrives r.block d s) → MeetsHere r here
          by true i = merge s c i b mc
          by false i = merge s d i b md

      goes_on : (s : State) (exit : Exit) → hop old r ≡ leave r.block exit s → hop new here ≡ block_hop setting p.block k.rest k.into.exit s → GoesOn (at r.function) p (length block.ops) exit → MeetsHere r here
      goes_on s (Goto c) a b m = merge s c a b m
      goes_on s (Split v c d) a b m = split_on s (s.values v) c d a b m.0 m.1
      goes_on s (Call g' arguments result c) a b m = absurd m
      goes_on s (Return v) a b m = absurd m
      goes_on s (Ends v) a b m = absurd m

      leaves_by : (s : State) → hop old r ≡ leave r.block block.exit s → hop new here ≡ leave p.block k.into.exit s → ExitMeets (at r.function) block.exit k.into.exit → MeetsHere r here
      leaves_by s a b m =
          meets_by r here (after_hop old r (leave r.block block.exit s)) (after_hop new here (leave p.block k.into.exit s)) (ap (after_hop old r) a) (ap (after_hop new here) b)
          (exit_joined r p.block t ws f s block.exit k.into.exit m (λ i. never_wrong r safe (a ∙ i))) safe

      on_by : (s : State) → hop old r ≡ leave r.block block.exit s → hop new here ≡ block_hop setting p.block k.rest k.into.exit s →
          GoesOn (at r.function) p (length block.ops) block.exit ⊎ ((k.rest ≡ []) × ExitMeets (at r.function) block.exit k.into.exit) → MeetsHere r here
      on_by s a b (inl m) = goes_on s block.exit a b m
      on_by s a b (inr m) = leaves_by s a (b ∙ ap (λ ops. block_hop setting p.block ops k.into.exit s) m.0) m.1

      block_by : (o : Option State) → hop old r ≡ and_then o (leave r.block block.exit) → hop new here ≡ and_then o (block_hop setting p.block k.rest k.into.exit) → MeetsHere r here
      block_by None a b = absurd (never_wrong r safe a)
      block_by (Some s) a b = on_by s a b k.on

      in_block : MeetsHere r here
      in_block = block_by (done setting block.ops r.state) old_hop new_hop

    in_graph : (g h : Graph) → slice_get flow.functions r.function ≡ Some g → slice_get graphs r.function ≡ Some h → GraphCleaned (at r.function) g h → (o : Option Block) → slice_get g.blocks r.block ≡ o → MeetsHere r here
    in_graph g h x y c None z = absurd (never_wrong r safe (ap (λ o. body_hop old r (as_body o)) x ∙ ap (λ o. hop_of setting r.block o r.state) z))
    in_graph g h x y c (Some block) z = in_block g h x y block z (c.blocks r.block block p w z)

    in_function : (o o' : Option Graph) → slice_get flow.functions r.function ≡ o → slice_get graphs r.function ≡ o' → FunctionCleaned (at r.function) o o' → MeetsHere r here
    in_function None o' x y c = absurd (never_wrong r safe (ap (λ o. body_hop old r (as_body o)) x))
    in_function (Some g) None x y c = absurd c
    in_function (Some g) (Some h) x y c = in_graph g h x y c (slice_get g.blocks r.block) refl

    link : MeetsHere r here
    link = in_function (slice_get flow.functions r.function) (slice_get graphs r.function) refl refl (cleaned r.function)

  chain : (n : ℕ) → Chained n
  chain zero r p t ws lt w f safe e = let l : p.left < 0 = lt in absurd (omega arith)
  chain (suc n) r p t ws lt w f safe e = link n (chain n) r p t ws lt w f safe e

  -- ---- runs

  whole_in : (b left : ℕ) (r : Active) (ws : List Frame) (o : Option Graph) → body_hop new (record r { block = b; waiting = ws }) (as_body o) ≡ rest_in (setting_with old r.passed r.base) (record { block = b; before = 0; left = left }) o r.state
  whole_in b left r ws None = refl
  whole_in b left r ws (Some g) = whole_block (setting_with old r.passed r.base) b left (slice_get g.blocks b) r.state

  meets : (r q : Active) → Tied r q → MeetsHere r q
  meets r q tie =
      let j : Joined r q = tie.joined in
      let p : Place = record { block = j.0; before = 0; left = j.3.0 } in
      let low : p.left < suc p.left = omega arith in
      subst (MeetsHere r) (sym j.2) (chain (suc p.left) r p r.state j.1 low j.3.1 j.4 tie.safe (whole_in j.0 j.3.0 r j.1 (slice_get graphs r.function)))

  alike : (r q : Active) → Tied r q → out_of r ≡ out_of q
  alike r q tie = sym (ap out_of tie.joined.2)

  start_joined : (s : State) (o o' : Option Graph) → FunctionCleaned (at flow.main) o o' → (o ≡ None → ⊥) →
      Joined (record { function = flow.main; block = 0; passed = []; base = length s.arrays; state = entered_or (as_body o) s; waiting = [] }) (record { function = flow.main; block = 0; passed = []; base = length s.arrays; state = entered_or (as_body o') s; waiting = [] })
  start_joined s None o' c some = absurd (some refl)
  start_joined s (Some g) None c some = absurd c
  start_joined s (Some g) (Some h) c some =
      (0, [], ap (λ (u : State). record { function = flow.main; block = 0; passed = []; base = length s.arrays; state = u; waiting = [] }) (entered_same [] s g h c.parameters c.arrays), c.entry, tt)

  pub runs_same : (input : List ℤ) → NeverFails (graph_run flow input) → Same (graph_run flow input) (graph_run (with_graphs flow graphs) input) × NeverFails (graph_run (with_graphs flow graphs) input)
  runs_same input safe =
      let r : Active = start flow input in
      let q : Active = start (with_graphs flow graphs) input in
      let some : slice_get flow.functions flow.main ≡ None → ⊥ = λ e. never_wrong r safe (ap (λ o. body_hop old r (as_body o)) e) in
      let j : Joined r q = start_joined (globals_at_start flow input) (slice_get flow.functions flow.main) (slice_get graphs flow.main) (cleaned flow.main) some in
      same_from_meeting (next old) out_of (next new) out_of Tied (flow_grows flow) (flow_grows (with_graphs flow graphs)) meets alike r q (record { joined = j; safe = safe })

pub cleaned_runs : CleanedRuns
cleaned_runs flow graphs at cleaned input safe = runs_same flow graphs at cleaned input safe
