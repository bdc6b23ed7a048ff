-- Flows in which a callee stands in place of a call: outside of the copy both have the same functions active and agree on what is
-- live; inside, the old flow has the callee over the caller, and the new one the caller alone.
use Rattle.std.proofs.Common.{◌≡◌, ◌⊎◌, inl, inr, ℕ, suc, ◌+◌, ◌-◌, ◌<◌, ◌≤◌, Bool, true, false, cond, ◌==◌, nat_le, ℤ, List, [], ◌∷◌, ◌++◌, length, map, take, drop, slice_get, Option, Some, None, refl, sym, ap, ◌∙◌, subst, eq-eqb, eqb-true, lt-ltb, arith, append-nil, take_all, drop_of_length-le}
use Rattle.std.proofs.lemmas.Bool.{false≢true}
use Rattle.std.proofs.lemmas.Option.{slice_get_within}
use Rattle.std.specs.List.{flat_map}
use Rattle.std.specs.Option.{option_map}
use Rattle.vx_base.specs.Outcome.{Outcome, IsGoing, Same, NeverFails, Step, On, Over, step_then, run}
use Rattle.vx_base.specs.declared.outcome.Trap.{Trap}
use Rattle.vx_base.specs.declared.outcome.Trap.TheVariants.{Depth}
use Rattle.vx_base.proofs.Runs.{runs_from, safe_after, safe_end, reach_one}
use Rattle.vx_base.proofs.Meeting.{Meets, Again, Ended, same_from_meeting}
use Rattle.vx_flow.specs.declared.graph.Operand.{Operand}
use Rattle.vx_flow.specs.declared.graph.Op.{Op}
use Rattle.vx_flow.specs.declared.graph.Exit.{Exit}
use Rattle.vx_flow.specs.declared.graph.Exit.TheVariants.{Goto, Split, Call, Return, Ends}
use Rattle.vx_flow.specs.declared.graph.Block.{Block}
use Rattle.vx_flow.specs.declared.graph.Graph.{Graph}
use Rattle.vx_flow.specs.declared.graph.Flow.{Flow}
use Rattle.vx_flow.specs.Agree.{SameWorld, Agree, Alike}
use Rattle.vx_flow.specs.Effects.{Content, State, Setting, held, is_one, IsIn, value_in, with_value, reads, writes}
use Rattle.vx_flow.specs.Live.{IsLive, reads_of_exit}
use Rattle.vx_flow.specs.Meaning.{Hop, Arrives, Calls, Leaves, Stops, Wrong, known, by_test, calls, leaves, leave, and_then, block_hop, hop_of, Body, Program, Frame, Active, deepest, undefined, at_entry, entered, spots_held, spots_for, enters_with, enters, bases_in, bases_of, words_in, with_result, returned, waits, after_hop, body_hop, hop, next, own_of, body_of, program_of, setting_with, globals_at_start, entered_or, start, graph_run, spot_in, spot_behind}
use Rattle.vx_flow.specs.Operands.{with_value_in, with_values}
use Rattle.vx_flow.specs.Sound.{SoundFlow, results_of_exit, are_distinct}
use Rattle.vx_flow.proofs.Entering.{enters_bare}
use Rattle.vx_flow.proofs.HopsAlike.{weaken, hops_leave_alike}
use Rattle.vx_flow.proofs.Members.{in_left, in_right}
use Rattle.vx_flow.proofs.RunLaws.{flow_grows}
use Rattle.vx_flow.proofs.SoundLists.{distinct_of}
use Rattle.vx_shape.specs.Flows.{with_graphs}
use Rattle.vx_inline.specs.declared.site.Site.{Site}
use Rattle.vx_inline.specs.Inlined.{CallAt, names, named_by, moves_in, moves_out}
use Rattle.vx_inline.specs.Joined.{ComesTo, Follows, Copies, Stays, Stands, Enters, Joins, IsShallow, JoinedRuns}
use Rattle.vx_inline.specs.Renaming.{Carried, AreApart, Within, CarriedTo}
use Rattle.vx_inline.proofs.Renaming.{held_renamed}
use Rattle.vx_inline.proofs.Depth.{get_in, Chain, wait_few, not_deepest, chain_on}
use Rattle.vx_inline.proofs.Moving.{over_by, done, hop_done, hop_own, done_counts, done_renamed, MovedIn, moved_in}
use Rattle.vx_inline.proofs.Taking.{in_flat}
use Rattle.vx_inline.proofs.Fronts.{Fronts, own_front, graph_is, entered_same, follows_itself}

module _ (flow : Flow) (site : Site) (c : CallAt flow site) (graphs : List Graph) (at copy to : ℕ → ℕ) (joins : Joins flow site c graphs at copy to) (shallow : IsShallow flow site c) (sound : SoundFlow flow) where
  abbrev old : Program
  old = program_of flow

  abbrev new : Program
  new = program_of (with_graphs flow graphs)

  abbrev as_body : Option Graph → Option Body
  as_body o = option_map (body_of (length flow.globals)) o

  abbrev out_of : Active → List ℕ
  out_of r = r.state.out

  abbrev Safe : Active → Type 0
  Safe r = NeverFails (runs_from (next old) out_of r)

  -- ---- what ties the states

  -- where a block stands
  abbrev place : ℕ → ℕ → ℕ
  place f b = cond (f == site.function) (at b) b

  abbrev LiveAt : ℕ → ℕ → ℕ → Type 0
  LiveAt f b v = (g : Graph) × (slice_get flow.functions f ≡ Some g) × IsLive g b v

  record FrameTied (f g : Frame) : Type 0 where
    from : ℕ
    values : ℕ → Content
    is : g ≡ record f { from = from; next = place f.function f.next; values = values }
    refined : (v : ℕ) (n : ℤ) → LiveAt f.function f.next v → (f.result ≡ Some v → ⊥) → f.values v ≡ Some n → values v ≡ Some n

  abbrev FramesTied : List Frame → List Frame → Type 0
  FramesTied [] [] = Unit {0}
  FramesTied [] (g ∷ gs) = ⊥
  FramesTied (f ∷ fs) [] = ⊥
  FramesTied (f ∷ fs) (g ∷ gs) = FrameTied f g × FramesTied fs gs

  record Outside (r q : Active) : Type 0 where
    t : State
    ws : List Frame
    is : q ≡ record r { block = place r.function r.block; state = t; waiting = ws }
    agree : Agree (LiveAt r.function r.block) r.state t
    frames : FramesTied r.waiting ws

  abbrev Named : ℕ → Type 0
  Named v = IsIn v (names c.parts.callee)

  -- what the caller still needs behind the call
  abbrev Keeps : (ℕ → Content) → ℕ → ℤ → Type 0
  Keeps values x n = LiveAt site.function c.parts.next x × (c.parts.result ≡ Some x → ⊥) × (values x ≡ Some n)

  abbrev caller_frame : (from : ℕ) (passed : List (Option ℕ)) (base : ℕ) (values : ℕ → Content) → Frame
  caller_frame from passed base values = record { function = site.function; from = from; next = c.parts.next; result = c.parts.result; passed = passed; base = base; values = values }

  abbrev in_callee : (block : ℕ) (s : State) (frame : Frame) (fs : List Frame) → Active
  in_callee block s frame fs = record { function = c.parts.called; block = block; passed = []; base = length s.arrays; state = s; waiting = frame ∷ fs }

  abbrev in_copy : (block : ℕ) (t : State) (passed : List (Option ℕ)) (base : ℕ) (gs : List Frame) → Active
  in_copy block t passed base gs = record { function = site.function; block = copy block; passed = passed; base = base; state = t; waiting = gs }

  record Inside (r q : Active) : Type 0 where
    block : ℕ
    s : State
    t : State
    from : ℕ
    passed : List (Option ℕ)
    base : ℕ
    values : ℕ → Content
    fs : List Frame
    gs : List Frame
    old_is : r ≡ in_callee block s (caller_frame from passed base values) fs
    new_is : q ≡ in_copy block t passed base gs
    carried : Carried Named (Keeps values) to s t
    frames : FramesTied fs gs

  abbrev Here : Active → Active → Type 0
  Here r q = Outside r q ⊎ Inside r q

  record Tied (r q : Active) : Type 0 where
    here : Here r q
    chain : Chain flow r.function r.waiting
    safe : Safe r

  abbrev MeetsHere : Active → Active → Type 0
  MeetsHere = Meets (next old) out_of (next new) out_of Tied

  -- tied at once, or behind a block of an edge
  abbrev Lands : Active → Active → Type 0
  Lands r q = Here r q ⊎ ((q' : Active) × (next new q ≡ On q') × Here r q')

  abbrev StepTied : Step Active → Step Active → Type 0
  StepTied (On r) (On q) = Lands r q
  StepTied (On r) (Over p) = ⊥
  StepTied (Over o) (On q) = ⊥
  StepTied (Over o) (Over p) = (o ≡ p) × (IsGoing o → ⊥)

  never_wrong : (r : Active) → Safe r → hop old r ≡ Wrong → ⊥
  never_wrong r safe e = let q : next old r ≡ Over (Outcome.Wrong r.state.out) = ap (after_hop old r) e in safe_end (next old) out_of r (Outcome.Wrong r.state.out) q safe tt

  lands_meets : (r r' q q' : Active) → next old r ≡ On r' → next new q ≡ On q' → Chain flow r'.function r'.waiting → Safe r' → Lands r' q' → MeetsHere r q
  lands_meets r r' q q' e d k safe (inl h) = Again 0 0 r' q' (r', e, refl) (q', d, refl) (record { here = h; chain = k; safe = safe })
  lands_meets r r' q q' e d k safe (inr h) = Again 0 1 r' h.0 (r', e, refl) (q', d, (h.0, h.1, refl)) (record { here = h.2; chain = k; safe = safe })

  meets_by : (r q : Active) (x y : Step Active) → next old r ≡ x → next new q ≡ y → StepTied x y → Chain flow r.function r.waiting → Safe r → MeetsHere r q
  meets_by r q (On r') (On q') e d h k safe = lands_meets r r' q q' e d (chain_on flow r r' e k) (safe_after (next old) out_of 1 r r' (reach_one (next old) r r' e) safe) h
  meets_by r q (On r') (Over p) e d h k safe = absurd h
  meets_by r q (Over o) (On q') e d h k safe = absurd h
  meets_by r q (Over o) (Over p) e d h k safe =
      Ended 1 1 o (over_by o h.1 (safe_end (next old) out_of r o e safe)) (ap (step_then (run (next old) out_of 0)) e) (ap (step_then (run (next new) out_of 0)) d ∙ sym h.0)

  cond_tied : (b d : Bool) (x y x' y' : Step Active) → d ≡ b → StepTied x x' → StepTied y y' → StepTied (cond b x y) (cond d x' y')
  cond_tied true d x y x' y' e h k = subst (λ z. StepTied x (cond z x' y')) (sym e) h
  cond_tied false d x y x' y' e h k = subst (λ z. StepTied y (cond z x' y')) (sym e) k

  frames_length : (fs gs : List Frame) → FramesTied fs gs → length gs ≡ length fs
  frames_length [] [] k = refl
  frames_length [] (g ∷ gs) k = absurd k
  frames_length (f ∷ fs) [] k = absurd k
  frames_length (f ∷ fs) (g ∷ gs) k = ap suc (frames_length fs gs k.1)

  -- ---- functions and places

  place_here : (b : ℕ) → place site.function b ≡ at b
  place_here b = ap (λ t. cond t (at b) b) (eq-eqb site.function site.function refl)

  place_zero : (f : ℕ) → place f 0 ≡ 0
  place_zero f = by (f == site.function)
    where
      by : (t : Bool) → cond t (at 0) 0 ≡ 0
      by true = joins.entry
      by false = refl

  fronts : (f : ℕ) → Fronts (slice_get flow.functions f) (slice_get graphs f)
  fronts f = by (f == site.function) refl
    where
      by : (t : Bool) → (f == site.function) ≡ t → Fronts (slice_get flow.functions f) (slice_get graphs f)
      by true e =
          let q : site.function ≡ f = sym (eqb-true f site.function e) in
          let here : Fronts (Some c.parts.caller) (Some joins.graph) = (joins.parameters, joins.arrays) in
          let one : Fronts (slice_get flow.functions site.function) (Some joins.graph) = subst (λ o. Fronts o (Some joins.graph)) (sym c.is_caller) here in
          let two : Fronts (slice_get flow.functions site.function) (slice_get graphs site.function) = subst (λ o. Fronts (slice_get flow.functions site.function) o) (sym joins.is_graph) one in
          subst (λ k. Fronts (slice_get flow.functions k) (slice_get graphs k)) q two
      by false e =
          let q : f ≡ site.function → ⊥ = λ i. false≢true (sym e ∙ eq-eqb f site.function i) in
          subst (λ o. Fronts (slice_get flow.functions f) o) (sym (joins.others f q)) (own_front (slice_get flow.functions f))

  -- a function is entered, in states of one world
  enters_tied : (f : ℕ) (ns : List ℤ) (s u : State) (fs gs : List Frame) (o o' : Option Graph) → Fronts o o' → SameWorld s u → FramesTied fs gs → StepTied (enters f (as_body o) ns s fs) (enters f (as_body o') ns u gs)
  enters_tied f ns s u fs gs None None k w h = (ap Outcome.Wrong (sym w.out), λ i. i)
  enters_tied f ns s u fs gs None (Some y) k w h = absurd k
  enters_tied f ns s u fs gs (Some x) None k w h = absurd k
  enters_tied f ns s u fs gs (Some x) (Some y) k w h = subst (λ spots. StepTied (enters f (as_body (Some x)) ns s fs) (enters_with f (as_body (Some y)) ns u gs spots)) (sym spots_same) (by (spots_for (as_body (Some x)) ns s))
    where
      spots_same : spots_for (as_body (Some y)) ns u ≡ spots_for (as_body (Some x)) ns s
      spots_same = λ i. spots_held (length (w.arrays i)) (at_entry (k.0 i) ns) (bases_in (drop (length flow.globals) (k.1 i)))

      by : (spots : Option (List (Option ℕ))) → StepTied (enters_with f (as_body (Some x)) ns s fs spots) (enters_with f (as_body (Some y)) ns u gs spots)
      by None = (ap Outcome.Wrong (sym w.out), λ i. i)
      by (Some passed) =
          let same : entered (body_of (length flow.globals) y) ns u ≡ entered (body_of (length flow.globals) x) ns u = entered_same (length flow.globals) ns u x y k.0 k.1 in
          let own : List (List Content) = map undefined (own_of (length flow.globals) x) in
          let zero_is : 0 ≡ place f 0 = sym (place_zero f) in
          inl (inl (record {
            t = entered (body_of (length flow.globals) x) ns u;
            ws = gs;
            is = λ i. record { function = f; block = zero_is i; passed = passed; base = length (w.arrays i); state = same i; waiting = gs };
            agree = record { world = record { arrays = ap (λ rows. rows ++ own) w.arrays; input = w.input; out = w.out }; values = λ v n l e. e };
            frames = h;
          }))

  -- ---- returns

  result_refined : (f : ℕ) (b : ℕ) (result : Option ℕ) (x y : ℕ → Content) (n : ℤ) → ((v : ℕ) (m : ℤ) → LiveAt f b v → (result ≡ Some v → ⊥) → x v ≡ Some m → y v ≡ Some m) →
      (v : ℕ) (m : ℤ) → LiveAt f b v → with_result x result n v ≡ Some m → with_result y result n v ≡ Some m
  result_refined f b None x y n k v m l e = k v m l (λ i. absurd (cc)) e
  result_refined f b (Some z) x y n k v m l e = by (v == z) refl e
    where
      by : (t : Bool) → (v == z) ≡ t → cond t (Some n) (x v) ≡ Some m → cond t (Some n) (y v) ≡ Some m
      by true i d = d
      by false i d = k v m l (λ (j : Some z ≡ Some v). false≢true (sym i ∙ eq-eqb v z (let q : v ≡ z = cc in q))) d

  returned_tied : (n : ℤ) (s u : State) (base : ℕ) (fs gs : List Frame) → SameWorld s u → FramesTied fs gs → StepTied (returned n s base fs) (returned n u base gs)
  returned_tied n s u base [] [] w k = (ap (Outcome.Ends n) (sym w.out), λ i. i)
  returned_tied n s u base [] (g ∷ gs) w k = absurd k
  returned_tied n s u base (f ∷ fs) [] w k = absurd k
  returned_tied n s u base (f ∷ fs) (g ∷ gs) w k =
      let tie : FrameTied f g = k.0 in
      let here : Frame = record f { from = tie.from; next = place f.function f.next; values = tie.values } in
      let t : State = record u { values = with_result tie.values f.result n; arrays = take base u.arrays } in
      let r : Active = record { function = f.function; block = f.next; passed = f.passed; base = f.base; state = record s { values = with_result f.values f.result n; arrays = take base s.arrays }; waiting = fs } in
      let q : Active = record r { block = place f.function f.next; state = t; waiting = gs } in
      let out : Outside r q = record {
        t = t;
        ws = gs;
        is = refl;
        agree = record { world = record { arrays = ap (take base) w.arrays; input = w.input; out = w.out }; values = λ v m l e. result_refined f.function f.next f.result f.values tie.values n tie.refined v m l e };
        frames = k.1;
      } in
      let there : StepTied (returned n s base (f ∷ fs)) (returned n u base (here ∷ gs)) = inl (inl out) in
      subst (λ x. StepTied (returned n s base (f ∷ fs)) (returned n u base (x ∷ gs))) (sym tie.is) there

  -- ---- blocks of a function whose graph holds them where they are

  abbrev Like : Graph → Hop → Hop → Type 0
  Like g h k = Alike (λ a b. a ≡ b) (IsLive g) h k

  alike_wrong : (g : Graph) (h : Hop) → (h ≡ Wrong → ⊥) → Like g h Wrong → ⊥
  alike_wrong g (Arrives b d s) n a = a
  alike_wrong g (Calls f ns result b d s) n a = a
  alike_wrong g (Leaves m s) n a = a
  alike_wrong g (Stops k s) n a = a
  alike_wrong g Wrong n a = n refl

  module _ (r : Active) (t : State) (ws : List Frame) (frames : FramesTied r.waiting ws) (b' : ℕ) (g h : Graph) (is_old : slice_get flow.functions r.function ≡ Some g) (is_new : slice_get graphs r.function ≡ Some h) where
    abbrev q : Active
    q = record r { block = b'; state = t; waiting = ws }

    abbrev HopsTied : Hop → Hop → Type 0
    HopsTied i k = StepTied (after_hop old r i) (after_hop new q k)

    lives : (b v : ℕ) → LiveAt r.function b v → IsLive g b v
    lives b v l = subst (λ x. IsLive x b v) (graph_is l.0 g (sym l.1 ∙ is_old)) l.2

    lands : (s u : State) (d x : ℕ) → ComesTo h.blocks x (place r.function d) → Agree (IsLive g d) s u → Lands (record r { block = d; state = s }) (record q { block = x; state = u })
    lands s u d x m a = by m
      where
        there : Outside (record r { block = d; state = s }) (record q { block = place r.function d; state = u })
        there = record { t = u; ws = ws; is = refl; agree = weaken (IsLive g d) (LiveAt r.function d) s u a (λ v l. lives d v l); frames = frames }

        by : ComesTo h.blocks x (place r.function d) → Lands (record r { block = d; state = s }) (record q { block = x; state = u })
        by (inl e) = inl (inl (subst (λ k. Outside (record r { block = d; state = s }) (record q { block = k; state = u })) (sym e) there))
        by (inr e) =
            let k : Active = record q { block = x; state = u } in
            let step : next new k ≡ On (record q { block = place r.function d; state = u }) =
            ap (λ o. after_hop new k (body_hop new k (as_body o))) is_new ∙ ap (λ o. after_hop new k (hop_of (setting_with new k.passed k.base) x o u)) e in
            inr (record q { block = place r.function d; state = u }, step, inl there)

    arrive_tied : (i : Hop) (b d x : ℕ) (u : State) → ComesTo h.blocks x (place r.function d) → (i ≡ Wrong → ⊥) → Like g i (Arrives b d u) → HopsTied i (Arrives b' x u)
    arrive_tied (Arrives e f s) b d x u m n a = lands s u f x (subst (λ k. ComesTo h.blocks x (place r.function k)) (sym a.0) m) a.1
    arrive_tied (Calls f ns result e k s) b d x u m n a = absurd a
    arrive_tied (Leaves k s) b d x u m n a = absurd a
    arrive_tied (Stops k s) b d x u m n a = absurd a
    arrive_tied Wrong b d x u m n a = absurd (n refl)

    split_tied : (i : Hop) (o : Content) (b d e x y : ℕ) (u : State) → ComesTo h.blocks x (place r.function d) → ComesTo h.blocks y (place r.function e) → (i ≡ Wrong → ⊥) →
        Like g i (by_test o (Arrives b d u) (Arrives b e u)) → HopsTied i (by_test o (Arrives b' x u) (Arrives b' y u))
    split_tied i None b d e x y u m k n a = absurd (alike_wrong g i n a)
    split_tied i (Some z) b d e x y u m k n a = by (is_one z) a
      where
        by : (w : Bool) → Like g i (cond w (Arrives b d u) (Arrives b e u)) → HopsTied i (cond w (Arrives b' x u) (Arrives b' y u))
        by true l = arrive_tied i b d x u m n l
        by false l = arrive_tied i b e y u k n l

    call_goes : (f : ℕ) (ns : List ℤ) (result : Option ℕ) (b d : ℕ) (s u : State) → Agree (λ v. IsLive g d v × (result ≡ Some v → ⊥)) s u → HopsTied (Calls f ns result b d s) (Calls f ns result b' (place r.function d) u)
    call_goes f ns result b d s u a =
        let many : nat_le deepest (length ws + 1) ≡ nat_le deepest (length r.waiting + 1) = ap (λ n. nat_le deepest (n + 1)) (frames_length r.waiting ws frames) in
        let old_frame : Frame = waits r result b d s in
        let new_frame : Frame = waits q result b' (place r.function d) u in
        let one : FrameTied old_frame new_frame = record { from = b'; values = u.values; is = refl; refined = λ v n l k e. a.values v n (lives d v l, k) e } in
        let trap : StepTied (Over (Outcome.Traps Depth s.out)) (Over (Outcome.Traps Depth u.out)) = (ap (Outcome.Traps Depth) (sym a.world.out), λ i. i) in
        cond_tied (nat_le deepest (length r.waiting + 1)) (nat_le deepest (length ws + 1)) (Over (Outcome.Traps Depth s.out)) (enters f (old.body f) ns s (old_frame ∷ r.waiting)) (Over (Outcome.Traps Depth u.out)) (enters f (new.body f) ns u (new_frame ∷ ws)) many
        trap
        (enters_tied f ns s u (old_frame ∷ r.waiting) (new_frame ∷ ws) (slice_get flow.functions f) (slice_get graphs f) (fronts f) a.world (one, frames))

    call_tied : (i : Hop) (o : Option (List ℤ)) (f : ℕ) (result : Option ℕ) (b d : ℕ) (u : State) → (i ≡ Wrong → ⊥) → Like g i (calls f o result b d u) → HopsTied i (calls f o result b' (place r.function d) u)
    call_tied i None f result b d u n a = absurd (alike_wrong g i n a)
    call_tied (Calls f0 ns0 result0 b0 d0 s) (Some ns) f result b d u n a =
        let k0 : HopsTied (Calls f0 ns0 result0 b0 d0 s) (Calls f0 ns0 result0 b' (place r.function d0) u) = call_goes f0 ns0 result0 b0 d0 s u a.4 in
        let k1 : HopsTied (Calls f0 ns0 result0 b0 d0 s) (Calls f ns0 result0 b' (place r.function d0) u) = subst (λ z. HopsTied (Calls f0 ns0 result0 b0 d0 s) (Calls z ns0 result0 b' (place r.function d0) u)) (sym a.0) k0 in
        let k2 : HopsTied (Calls f0 ns0 result0 b0 d0 s) (Calls f ns result0 b' (place r.function d0) u) = subst (λ z. HopsTied (Calls f0 ns0 result0 b0 d0 s) (Calls f z result0 b' (place r.function d0) u)) (sym a.1) k1 in
        let k3 : HopsTied (Calls f0 ns0 result0 b0 d0 s) (Calls f ns result b' (place r.function d0) u) = subst (λ z. HopsTied (Calls f0 ns0 result0 b0 d0 s) (Calls f ns z b' (place r.function d0) u)) (sym a.2) k2 in
        subst (λ z. HopsTied (Calls f0 ns0 result0 b0 d0 s) (Calls f ns result b' (place r.function z) u)) a.3 k3
    call_tied (Arrives e k s) (Some ns) f result b d u n a = absurd a
    call_tied (Leaves k s) (Some ns) f result b d u n a = absurd a
    call_tied (Stops k s) (Some ns) f result b d u n a = absurd a
    call_tied Wrong (Some ns) f result b d u n a = absurd (n refl)

    leave_tied : (i : Hop) (o : Content) (u : State) → (i ≡ Wrong → ⊥) → Like g i (leaves o u) → HopsTied i (leaves o u)
    leave_tied i None u n a = absurd (alike_wrong g i n a)
    leave_tied (Leaves m s) (Some k) u n a =
        subst (λ z. StepTied (returned m s r.base r.waiting) (returned z u r.base ws)) (sym a.0) (returned_tied m s u r.base r.waiting ws a.1 frames)
    leave_tied (Arrives e k s) (Some m) u n a = absurd a
    leave_tied (Calls f ns result e k s) (Some m) u n a = absurd a
    leave_tied (Stops k s) (Some m) u n a = absurd a
    leave_tied Wrong (Some m) u n a = absurd (n refl)

    stop_tied : (i : Hop) (k : Trap) (u : State) → (i ≡ Wrong → ⊥) → Like g i (Stops k u) → HopsTied i (Stops k u)
    stop_tied (Stops m s) k u n a =
        let same : Outcome.Traps m s.out ≡ Outcome.Traps k u.out = ap (λ z. Outcome.Traps z s.out) (sym a.0) ∙ ap (Outcome.Traps k) (sym a.1.out) in
        (same, λ e. e)
    stop_tied (Arrives e d s) k u n a = absurd a
    stop_tied (Calls f ns result e d s) k u n a = absurd a
    stop_tied (Leaves m s) k u n a = absurd a
    stop_tied Wrong k u n a = absurd (n refl)

    exit_tied : (i : Hop) (exit e : Exit) (b : ℕ) (u : State) → Follows h.blocks (place r.function) exit e → (i ≡ Wrong → ⊥) → Like g i (leave b exit u) → HopsTied i (leave b' e u)
    exit_tied i (Goto d) e b u m n a = subst (λ k. HopsTied i (leave b' k u)) (sym m) (arrive_tied i b d (place r.function d) u (inl refl) n a)
    exit_tied i (Split p d f) e b u m n a = subst (λ k. HopsTied i (leave b' k u)) (sym m.4) (split_tied i (u.values p) b d f m.0 m.1 u m.2 m.3 n a)
    exit_tied i (Call f xs result d) e b u m n a = subst (λ k. HopsTied i (leave b' k u)) (sym m) (call_tied i (known (map (held u) xs)) f result b d u n a)
    exit_tied i (Return x) e b u m n a = subst (λ k. HopsTied i (leave b' k u)) (sym m) (leave_tied i (held u x) u n a)
    exit_tied i (Ends k) e b u m n a = subst (λ z. HopsTied i (leave b' z u)) (sym m) (stop_tied i k u n a)

    then_tied : (i : Hop) (o : Option State) (exit e : Exit) (b : ℕ) → Follows h.blocks (place r.function) exit e → (i ≡ Wrong → ⊥) → Like g i (and_then o (leave b exit)) → HopsTied i (and_then o (leave b' e))
    then_tied i None exit e b m n a = absurd (alike_wrong g i n a)
    then_tied i (Some u) exit e b m n a = exit_tied i exit e b u m n a

    abbrev setting : Setting
    setting = setting_with old r.passed r.base

    alike_hops : (block : Block) → slice_get g.blocks r.block ≡ Some block → Agree (LiveAt r.function r.block) r.state t → Like g (hop old r) (and_then (done setting block.ops t) (leave r.block block.exit))
    alike_hops block z a =
        let agree : Agree (IsLive g r.block) r.state t = weaken (LiveAt r.function r.block) (IsLive g r.block) r.state t a (λ v l. (g, is_old, l)) in
        let both : Like g (hop_of setting r.block (slice_get g.blocks r.block) r.state) (hop_of setting r.block (slice_get g.blocks r.block) t) = hops_leave_alike g setting r.block r.state t agree in
        let first : hop old r ≡ hop_of setting r.block (slice_get g.blocks r.block) r.state = ap (λ o. body_hop old r (as_body o)) is_old in
        let second : hop_of setting r.block (slice_get g.blocks r.block) t ≡ and_then (done setting block.ops t) (leave r.block block.exit) =
        ap (λ o. hop_of setting r.block o t) z ∙ hop_own setting r.block block.ops block.exit t in
        subst (λ k. Like g k (and_then (done setting block.ops t) (leave r.block block.exit))) (sym first) (subst (λ k. Like g (hop_of setting r.block (slice_get g.blocks r.block) r.state) k) second both)

    block_tied : (block into : Block) → slice_get g.blocks r.block ≡ Some block → slice_get h.blocks b' ≡ Some into → into.ops ≡ block.ops → Follows h.blocks (place r.function) block.exit into.exit →
        Agree (LiveAt r.function r.block) r.state t → Safe r → StepTied (next old r) (next new q)
    block_tied block into z y ops m a safe =
        let new_hop : hop new q ≡ and_then (done setting block.ops t) (leave b' into.exit) =
        ap (λ o. body_hop new q (as_body o)) is_new ∙ ap (λ o. hop_of setting b' o t) y ∙ ap (λ k. block_hop setting b' k into.exit t) ops ∙ hop_own setting b' block.ops into.exit t in
        let tie : HopsTied (hop old r) (and_then (done setting block.ops t) (leave b' into.exit)) =
        then_tied (hop old r) (done setting block.ops t) block.exit into.exit r.block m (never_wrong r safe) (alike_hops block z a) in
        subst (λ k. HopsTied (hop old r) k) (sym new_hop) tie

  -- ---- the call

  shallow_here : (ws : List Frame) → Chain flow site.function ws → nat_le deepest (length ws + 1) ≡ false
  shallow_here ws k =
      let l : site.function < length flow.functions = slice_get_within flow.functions site.function c.parts.caller c.is_caller in
      let m : length ws + 1 ≤ length flow.functions = wait_few flow site.function ws k l shallow.alone shallow.apart in
      let n : length flow.functions ≤ 256 = shallow.few in
      let o : length ws + 1 ≤ 256 = omega (arith, m, n) in
      not_deepest (length ws + 1) o

  live_caller : (b v : ℕ) → LiveAt site.function b v → IsLive c.parts.caller b v
  live_caller b v l = subst (λ x. IsLive x b v) (graph_is l.0 c.parts.caller (sym l.1 ∙ c.is_caller)) l.2

  kept_apart : (values : ℕ → Content) → AreApart Named (Keeps values) to
  kept_apart values = record {
    one = joins.one;
    clear = λ x n v k m e. joins.dead v m (subst (λ z. IsLive c.parts.caller c.parts.next z) e (live_caller c.parts.next x k.0)) (λ i. k.1 (i ∙ ap Some (sym e)));
  }

  parameter_named : (v : ℕ) → IsIn v c.parts.callee.parameters → Named v
  parameter_named v m = in_left v c.parts.callee.parameters (flat_map named_by c.parts.callee.blocks) m

  callee_there : IsIn c.parts.callee flow.functions
  callee_there = get_in flow.functions c.parts.called c.parts.callee c.is_callee

  own_nothing : (rows : List (List Content)) → rows ++ map undefined (own_of (length flow.globals) c.parts.callee) ≡ rows
  own_nothing rows =
      let none : drop (length flow.globals) c.parts.callee.arrays ≡ [] = drop_of_length-le c.parts.callee.arrays shallow.own_none in
      ap (λ ks. rows ++ map undefined (words_in ks)) none ∙ append-nil rows

  nothing_passed : bases_of (length flow.globals) c.parts.callee ≡ []
  nothing_passed = ap bases_in (drop_of_length-le c.parts.callee.arrays shallow.own_none)

  module _ (passed : List (Option ℕ)) (base : ℕ) (s t : State) (fs ws : List Frame) (frames : FramesTied fs ws) (chain : Chain flow site.function fs) where
    abbrev r0 : Active
    r0 = record { function = site.function; block = site.block; passed = passed; base = base; state = s; waiting = fs }

    abbrev q0 : Active
    q0 = record r0 { block = at site.block; state = t; waiting = ws }

    abbrev set0 : Setting
    set0 = setting_with old passed base

    abbrev moves : List Op
    moves = moves_in to c.parts.callee.parameters c.parts.arguments

    enter : (ns : List ℤ) (b : ℕ) (s1 u : State) → Agree (λ v. IsLive c.parts.caller c.parts.next v × (c.parts.result ≡ Some v → ⊥)) s1 u → known (map (held u) c.parts.arguments) ≡ Some ns →
        StepTied (after_hop old r0 (Calls c.parts.called ns c.parts.result b c.parts.next s1)) (after_hop new q0 (block_hop set0 (at site.block) moves (Goto (copy 0)) u))
    enter ns b s1 u a e =
        let distinct : are_distinct c.parts.callee.parameters ≡ true = distinct_of c.parts.callee.parameters (λ i j v. sound.parameters c.parts.callee i j v callee_there) in
        let unread : (v k : ℕ) → IsIn v (flat_map value_in c.parts.arguments) → IsIn k c.parts.callee.parameters → v ≡ to k → ⊥ =
        λ v k m n i. joins.unread k (parameter_named k n) (subst (λ z. IsIn z (flat_map value_in c.parts.arguments)) i m) in
        let moved : MovedIn set0 to Named c.parts.callee.parameters c.parts.arguments ns u = moved_in set0 to Named joins.one c.parts.callee.parameters c.parts.arguments ns u e parameter_named unread distinct in
        let new_hop : block_hop set0 (at site.block) moves (Goto (copy 0)) u ≡ Arrives (at site.block) (copy 0) moved.state =
        hop_own set0 (at site.block) moves (Goto (copy 0)) u ∙ ap (λ o. and_then o (leave (at site.block) (Goto (copy 0)))) moved.is in
        let inner : State = record s1 { values = at_entry c.parts.callee.parameters ns } in
        let frame : Frame = caller_frame b passed base s1.values in
        let entering : Step Active = enters c.parts.called (as_body (slice_get flow.functions c.parts.called)) ns s1 (frame ∷ fs) in
        let old_step : after_hop old r0 (Calls c.parts.called ns c.parts.result b c.parts.next s1) ≡ On (in_callee 0 inner frame fs) =
        ap (λ z. cond z (Over (Outcome.Traps Depth s1.out)) entering) (shallow_here fs chain) ∙
        ap (λ o. enters c.parts.called (as_body o) ns s1 (frame ∷ fs)) c.is_callee ∙ enters_bare c.parts.called (body_of (length flow.globals) c.parts.callee) ns s1 (frame ∷ fs) nothing_passed ∙
        ap (λ rows. On (record { function = c.parts.called; block = 0; passed = []; base = length s1.arrays; state = record s1 { values = at_entry c.parts.callee.parameters ns; arrays = rows }; waiting = frame ∷ fs })) (own_nothing s1.arrays) in
        let carried : Carried Named (Keeps s1.values) to inner moved.state = record {
          world = record { arrays = moved.world.arrays ∙ a.world.arrays; input = moved.world.input ∙ a.world.input; out = moved.world.out ∙ a.world.out };
          values = λ v n m d. moved.arrived v n m d;
          kept = λ x n k. moved.kept x (λ p m. (kept_apart s1.values).clear x n p k (parameter_named p m)) ∙ a.values x n (live_caller c.parts.next x k.0, k.1) k.2;
        } in
        let inside : Inside (in_callee 0 inner frame fs) (in_copy 0 moved.state passed base ws) = record {
          block = 0;
          s = inner;
          t = moved.state;
          from = b;
          passed = passed;
          base = base;
          values = s1.values;
          fs = fs;
          gs = ws;
          old_is = refl;
          new_is = refl;
          carried = carried;
          frames = frames;
        } in
        let here : StepTied (On (in_callee 0 inner frame fs)) (after_hop new q0 (Arrives (at site.block) (copy 0) moved.state)) = inl (inr inside) in
        subst (λ x. StepTied x (after_hop new q0 (block_hop set0 (at site.block) moves (Goto (copy 0)) u))) (sym old_step)
        (subst (λ k. StepTied (On (in_callee 0 inner frame fs)) (after_hop new q0 k)) (sym new_hop) here)

    abbrev SiteTied : Hop → State → Type 0
    SiteTied i u = StepTied (after_hop old r0 i) (after_hop new q0 (block_hop set0 (at site.block) moves (Goto (copy 0)) u))

    site_call : (i : Hop) (o : Option (List ℤ)) (u : State) → known (map (held u) c.parts.arguments) ≡ o → (i ≡ Wrong → ⊥) → Like c.parts.caller i (calls c.parts.called o c.parts.result site.block c.parts.next u) → SiteTied i u
    site_call i None u e n a = absurd (alike_wrong c.parts.caller i n a)
    site_call (Calls f0 ns0 result0 b0 d0 s1) (Some ns) u e n a =
        let agree : Agree (λ v. IsLive c.parts.caller c.parts.next v × (c.parts.result ≡ Some v → ⊥)) s1 u =
        subst (λ z. Agree (λ v. IsLive c.parts.caller z v × (c.parts.result ≡ Some v → ⊥)) s1 u) a.3 (subst (λ z. Agree (λ v. IsLive c.parts.caller d0 v × (z ≡ Some v → ⊥)) s1 u) (sym a.2) a.4) in
        let k0 : SiteTied (Calls c.parts.called ns c.parts.result b0 c.parts.next s1) u = enter ns b0 s1 u agree e in
        let k1 : SiteTied (Calls f0 ns c.parts.result b0 c.parts.next s1) u = subst (λ z. SiteTied (Calls z ns c.parts.result b0 c.parts.next s1) u) a.0 k0 in
        let k2 : SiteTied (Calls f0 ns0 c.parts.result b0 c.parts.next s1) u = subst (λ z. SiteTied (Calls f0 z c.parts.result b0 c.parts.next s1) u) a.1 k1 in
        let k3 : SiteTied (Calls f0 ns0 result0 b0 c.parts.next s1) u = subst (λ z. SiteTied (Calls f0 ns0 z b0 c.parts.next s1) u) a.2 k2 in
        subst (λ z. SiteTied (Calls f0 ns0 result0 b0 z s1) u) (sym a.3) k3
    site_call (Arrives e0 k s1) (Some ns) u e n a = absurd a
    site_call (Leaves k s1) (Some ns) u e n a = absurd a
    site_call (Stops k s1) (Some ns) u e n a = absurd a
    site_call Wrong (Some ns) u e n a = absurd (n refl)

    site_by : (i : Hop) (o : Option State) → (i ≡ Wrong → ⊥) → Like c.parts.caller i (and_then o (leave site.block (Call c.parts.called c.parts.arguments c.parts.result c.parts.next))) →
        StepTied (after_hop old r0 i) (after_hop new q0 (and_then o (block_hop set0 (at site.block) moves (Goto (copy 0)))))
    site_by i None n a = absurd (alike_wrong c.parts.caller i n a)
    site_by i (Some u) n a = site_call i (known (map (held u) c.parts.arguments)) u refl n a

    at_site : Agree (LiveAt site.function site.block) s t → Safe r0 → StepTied (next old r0) (next new q0)
    at_site a safe =
        let like : Like c.parts.caller (hop old r0) (and_then (done set0 c.parts.block.ops t) (leave site.block c.parts.block.exit)) =
        alike_hops r0 t ws frames (at site.block) c.parts.caller joins.graph c.is_caller joins.is_graph c.parts.block c.is_block a in
        let like_call : Like c.parts.caller (hop old r0) (and_then (done set0 c.parts.block.ops t) (leave site.block (Call c.parts.called c.parts.arguments c.parts.result c.parts.next))) =
        subst (λ x. Like c.parts.caller (hop old r0) (and_then (done set0 c.parts.block.ops t) (leave site.block x))) c.ends like in
        let k : Enters joins.graph.blocks (c.parts.block.ops ++ moves) (copy 0) (at site.block) = joins.enters in
        let new_hop : hop new q0 ≡ and_then (done set0 c.parts.block.ops t) (block_hop set0 (at site.block) moves (Goto (copy 0))) =
        ap (λ o. body_hop new q0 (as_body o)) joins.is_graph ∙ ap (λ o. hop_of set0 (at site.block) o t) k.is ∙ ap (λ ops. block_hop set0 (at site.block) ops k.into.exit t) k.does ∙
        ap (λ x. block_hop set0 (at site.block) (c.parts.block.ops ++ moves) x t) k.leads ∙ hop_done set0 (at site.block) c.parts.block.ops moves (Goto (copy 0)) t in
        subst (λ x. StepTied (next old r0) (after_hop new q0 x)) (sym new_hop) (site_by (hop old r0) (done set0 c.parts.block.ops t) (never_wrong r0 safe) like_call)

  -- ---- in the copy

  -- back in the caller
  record MovedOut (setting : Setting) (result : Option ℕ) (x : Operand) (n : ℤ) (values : ℕ → Content) (t : State) : Type 0 where
    state : State
    is : done setting (moves_out result x) t ≡ Some state
    world : SameWorld t state
    refined : (v : ℕ) (m : ℤ) → LiveAt site.function c.parts.next v → with_result values result n v ≡ Some m → state.values v ≡ Some m

  moved_out : (setting : Setting) (result : Option ℕ) (x : Operand) (n : ℤ) (values : ℕ → Content) (t : State) → ((v : ℕ) (m : ℤ) → LiveAt site.function c.parts.next v → (result ≡ Some v → ⊥) → values v ≡ Some m → t.values v ≡ Some m) →
      held t x ≡ Some n → MovedOut setting result x n values t
  moved_out setting None x n values t k e = record {
    state = t;
    is = refl;
    world = record { arrays = refl; input = refl; out = refl };
    refined = λ v m l d. k v m l (λ (i : Option.None ≡ Some v). absurd (cc)) d;
  }
  moved_out setting (Some z) x n values t k e = record {
    state = with_value t z (held t x);
    is = refl;
    world = record { arrays = refl; input = refl; out = refl };
    refined = λ v m l d. by v m l (v == z) refl d;
  }
    where
      by : (v : ℕ) (m : ℤ) → LiveAt site.function c.parts.next v → (b : Bool) → (v == z) ≡ b → cond b (Some n) (values v) ≡ Some m → cond b (held t x) (t.values v) ≡ Some m
      by v m l true i d = e ∙ d
      by v m l false i d = k v m l (λ (j : Some z ≡ Some v). false≢true (sym i ∙ eq-eqb v z (let q : v ≡ z = cc in q))) d

  module _ (b : ℕ) (s t : State) (from : ℕ) (passed : List (Option ℕ)) (base : ℕ) (values : ℕ → Content) (fs gs : List Frame) (carried : Carried Named (Keeps values) to s t) (frames : FramesTied fs gs) where
    abbrev frame : Frame
    frame = caller_frame from passed base values

    abbrev r1 : Active
    r1 = in_callee b s frame fs

    abbrev q1 : Active
    q1 = in_copy b t passed base gs

    abbrev callee_set : Setting
    callee_set = setting_with old [] (length s.arrays)

    abbrev copy_set : Setting
    copy_set = setting_with new passed base

    module _ (block : Block) (z : slice_get c.parts.callee.blocks b ≡ Some block) where
      block_there : IsIn block c.parts.callee.blocks
      block_there = get_in c.parts.callee.blocks b block z

      block_named : (v : ℕ) → IsIn v (named_by block) → Named v
      block_named v m = in_right v c.parts.callee.parameters (flat_map named_by c.parts.callee.blocks) (in_flat named_by c.parts.callee.blocks block v block_there m)

      op_named : (op : Op) → IsIn op block.ops → (v : ℕ) → IsIn v (reads op ++ writes op) → Named v
      op_named op m v k =
          block_named v (in_left v (flat_map (λ o. reads o ++ writes o) block.ops) (reads_of_exit block.exit ++ results_of_exit block.exit) (in_flat (λ o. reads o ++ writes o) block.ops op v m k))

      exit_named : (v : ℕ) → IsIn v (reads_of_exit block.exit) → Named v
      exit_named v k =
          block_named v (in_right v (flat_map (λ o. reads o ++ writes o) block.ops) (reads_of_exit block.exit ++ results_of_exit block.exit) (in_left v (reads_of_exit block.exit) (results_of_exit block.exit) k))

      spot_global : (where_passed : List (Option ℕ)) (where_base a : ℕ) → a < length flow.globals → spot_in (length flow.globals) where_passed where_base a ≡ a
      spot_global p k a l = ap (λ x. cond x a (spot_behind p k (a - length flow.globals))) (lt-ltb a (length flow.globals) l)

      within : (op : Op) → IsIn op block.ops → Within Named callee_set copy_set op
      within op m = record {
        reads = λ v k. op_named op m v (in_left v (reads op) (writes op) k);
        writes = λ v k. op_named op m v (in_right v (reads op) (writes op) k);
        spots = λ a k.
            let l : a < length c.parts.callee.arrays = (sound.graphs c.parts.callee callee_there).arrays op a (record { block = block; has = block_there; stands = m }) k in
            let n : length c.parts.callee.arrays ≤ length flow.globals = shallow.own_none in
            let o : a < length flow.globals = omega (arith, l, n) in
            spot_global passed base a o ∙ sym (spot_global [] (length s.arrays) a o);
        texts = refl;
      }

      module _ (s1 t1 : State) (after : Carried Named (Keeps values) to s1 t1) (counts : length s1.arrays ≡ length s.arrays) where
        abbrev CopyTied : Hop → Hop → Type 0
        CopyTied i k = StepTied (after_hop old r1 i) (after_hop new q1 k)

        copy_lands : (d x : ℕ) → ComesTo joins.graph.blocks x (copy d) → Lands (record r1 { block = d; state = s1 }) (record q1 { block = x; state = t1 })
        copy_lands d x m = by m
          where
            there : Inside (record r1 { block = d; state = s1 }) (record q1 { block = copy d; state = t1 })
            there = record {
              block = d;
              s = s1;
              t = t1;
              from = from;
              passed = passed;
              base = base;
              values = values;
              fs = fs;
              gs = gs;
              old_is = ap (λ n. record { function = c.parts.called; block = d; passed = []; base = n; state = s1; waiting = frame ∷ fs }) (sym counts);
              new_is = refl;
              carried = after;
              frames = frames;
            }

            by : ComesTo joins.graph.blocks x (copy d) → Lands (record r1 { block = d; state = s1 }) (record q1 { block = x; state = t1 })
            by (inl e) = inl (inr (subst (λ k. Inside (record r1 { block = d; state = s1 }) (record q1 { block = k; state = t1 })) (sym e) there))
            by (inr e) =
                let k : Active = record q1 { block = x; state = t1 } in
                let step : next new k ≡ On (record q1 { block = copy d; state = t1 }) =
                ap (λ o. after_hop new k (body_hop new k (as_body o))) joins.is_graph ∙ ap (λ o. after_hop new k (hop_of copy_set x o t1)) e in
                inr (record q1 { block = copy d; state = t1 }, step, inr there)

        copy_split : (o o' : Content) (d e x y : ℕ) → ((n : ℤ) → o ≡ Some n → o' ≡ Some n) → ComesTo joins.graph.blocks x (copy d) → ComesTo joins.graph.blocks y (copy e) → (by_test o (Arrives b d s1) (Arrives b e s1) ≡ Wrong → ⊥) →
            CopyTied (by_test o (Arrives b d s1) (Arrives b e s1)) (by_test o' (Arrives (copy b) x t1) (Arrives (copy b) y t1))
        copy_split None o' d e x y f m k n = absurd (n refl)
        copy_split (Some w) o' d e x y f m k n =
            subst (λ p. CopyTied (by_test (Some w) (Arrives b d s1) (Arrives b e s1)) (by_test p (Arrives (copy b) x t1) (Arrives (copy b) y t1))) (sym (f w refl)) (by (is_one w))
          where
            by : (v : Bool) → CopyTied (cond v (Arrives b d s1) (Arrives b e s1)) (cond v (Arrives (copy b) x t1) (Arrives (copy b) y t1))
            by true = copy_lands d x m
            by false = copy_lands e y k

        copy_returns : (o : Content) (x : Operand) → held s1 x ≡ o → ((v : ℕ) → IsIn v (value_in x) → Named v) → (leaves o s1 ≡ Wrong → ⊥) →
            CopyTied (leaves o s1) (block_hop copy_set (copy b) (moves_out c.parts.result (with_value_in to x)) (Goto (at c.parts.next)) t1)
        copy_returns None x e m n = absurd (n refl)
        copy_returns (Some n) x e m w =
            let held_new : held t1 (with_value_in to x) ≡ Some n = held_renamed Named (Keeps values) to (kept_apart values) s1 t1 x after m n e in
            let moved : MovedOut copy_set c.parts.result (with_value_in to x) n values t1 = moved_out copy_set c.parts.result (with_value_in to x) n values t1 (λ v k l i d. after.kept v k (l, i, d)) held_new in
            let new_hop : block_hop copy_set (copy b) (moves_out c.parts.result (with_value_in to x)) (Goto (at c.parts.next)) t1 ≡ Arrives (copy b) (at c.parts.next) moved.state =
            hop_own copy_set (copy b) (moves_out c.parts.result (with_value_in to x)) (Goto (at c.parts.next)) t1 ∙ ap (λ o. and_then o (leave (copy b) (Goto (at c.parts.next)))) moved.is in
            let r2 : Active = record { function = site.function; block = c.parts.next; passed = passed; base = base; state = record s1 { values = with_result values c.parts.result n; arrays = take (length s.arrays) s1.arrays }; waiting = fs } in
            let q2 : Active = record q1 { block = at c.parts.next; state = moved.state } in
            let enough : length s1.arrays ≤ length s.arrays = omega (arith, counts) in
            let all : take (length s.arrays) s1.arrays ≡ s1.arrays = take_all (length s.arrays) s1.arrays enough in
            let out : Outside r2 q2 = record {
              t = moved.state;
              ws = gs;
              is = ap (λ k. record q1 { block = k; state = moved.state }) (sym (place_here c.parts.next));
              agree = record {
                world = record { arrays = moved.world.arrays ∙ after.world.arrays ∙ sym all; input = moved.world.input ∙ after.world.input; out = moved.world.out ∙ after.world.out };
                values = λ v m l d. moved.refined v m l d;
              };
              frames = frames;
            } in
            let here : CopyTied (Leaves n s1) (Arrives (copy b) (at c.parts.next) moved.state) = inl (inl out) in
            subst (λ k. CopyTied (Leaves n s1) k) (sym new_hop) here

        copy_exit : (exit e : Exit) (more : List Op) → Copies joins.graph.blocks copy to c.parts.result (at c.parts.next) exit more e → ((v : ℕ) → IsIn v (reads_of_exit exit) → Named v) → (leave b exit s1 ≡ Wrong → ⊥) →
            CopyTied (leave b exit s1) (block_hop copy_set (copy b) more e t1)
        copy_exit (Goto d) e more m k n =
            subst (λ ops. CopyTied (Arrives b d s1) (block_hop copy_set (copy b) ops e t1)) (sym m.0)
            (subst (λ x. CopyTied (Arrives b d s1) (leave (copy b) x t1)) (sym m.1) (copy_lands d (copy d) (inl refl)))
        copy_exit (Split p d f) e more m k n =
            subst (λ ops. CopyTied (leave b (Split p d f) s1) (block_hop copy_set (copy b) ops e t1)) (sym m.2)
            (subst (λ x. CopyTied (leave b (Split p d f) s1) (leave (copy b) x t1)) (sym m.5)
            (copy_split (s1.values p) (t1.values (to p)) d f m.0 m.1 (λ v i. after.values p v (k p (inl refl)) i) m.3 m.4 n))
        copy_exit (Call f xs result d) e more m k n = absurd m
        copy_exit (Return x) e more m k n =
            subst (λ ops. CopyTied (leaves (held s1 x) s1) (block_hop copy_set (copy b) ops e t1)) (sym m.0)
            (subst (λ y. CopyTied (leaves (held s1 x) s1) (block_hop copy_set (copy b) (moves_out c.parts.result (with_value_in to x)) y t1)) (sym m.1)
            (copy_returns (held s1 x) x refl k n))
        copy_exit (Ends w) e more m k n =
            let same : Outcome.Traps w s1.out ≡ Outcome.Traps w t1.out = ap (Outcome.Traps w) (sym after.world.out) in
            let here : CopyTied (Stops w s1) (Stops w t1) = (same, λ i. i) in
            subst (λ ops. CopyTied (Stops w s1) (block_hop copy_set (copy b) ops e t1)) (sym m.0) (subst (λ x. CopyTied (Stops w s1) (leave (copy b) x t1)) (sym m.1) here)

      in_block : (k : Stands joins.graph.blocks copy to c.parts.result (at c.parts.next) block (copy b)) → Safe r1 → StepTied (next old r1) (next new q1)
      in_block k safe =
          let old_hop : hop old r1 ≡ and_then (done callee_set block.ops s) (leave b block.exit) =
          ap (λ o. body_hop old r1 (as_body o)) c.is_callee ∙ ap (λ o. hop_of callee_set b o s) z ∙ hop_own callee_set b block.ops block.exit s in
          let new_hop : hop new q1 ≡ and_then (done copy_set (map (with_values to) block.ops) t) (block_hop copy_set (copy b) k.more k.into.exit) =
          ap (λ o. body_hop new q1 (as_body o)) joins.is_graph ∙ ap (λ o. hop_of copy_set (copy b) o t) k.is ∙ ap (λ ops. block_hop copy_set (copy b) ops k.into.exit t) k.ops ∙
          hop_done copy_set (copy b) (map (with_values to) block.ops) k.more k.into.exit t in
          by old_hop new_hop (done callee_set block.ops s) refl
        where
          by : hop old r1 ≡ and_then (done callee_set block.ops s) (leave b block.exit) → hop new q1 ≡ and_then (done copy_set (map (with_values to) block.ops) t) (block_hop copy_set (copy b) k.more k.into.exit) →
              (o : Option State) → done callee_set block.ops s ≡ o → StepTied (next old r1) (next new q1)
          by oh nh None e = absurd (never_wrong r1 safe (oh ∙ ap (λ o. and_then o (leave b block.exit)) e))
          by oh nh (Some s1) e =
              let d : CarriedTo Named (Keeps values) to s1 (done copy_set (map (with_values to) block.ops) t) =
              done_renamed Named (Keeps values) to (kept_apart values) callee_set copy_set block.ops s t s1 within carried e in
              let old_is : hop old r1 ≡ leave b block.exit s1 = oh ∙ ap (λ o. and_then o (leave b block.exit)) e in
              let new_is : hop new q1 ≡ block_hop copy_set (copy b) k.more k.into.exit d.state = nh ∙ ap (λ o. and_then o (block_hop copy_set (copy b) k.more k.into.exit)) d.is in
              let tie : StepTied (after_hop old r1 (leave b block.exit s1)) (after_hop new q1 (block_hop copy_set (copy b) k.more k.into.exit d.state)) =
              copy_exit s1 d.state d.carried (done_counts callee_set block.ops s s1 e) block.exit k.into.exit k.more k.copies exit_named (λ i. never_wrong r1 safe (old_is ∙ i)) in
              subst (λ x. StepTied (after_hop old r1 x) (next new q1)) (sym old_is)
              (subst (λ x. StepTied (after_hop old r1 (leave b block.exit s1)) (after_hop new q1 x)) (sym new_is) tie)

    in_copied : (o : Option Block) → slice_get c.parts.callee.blocks b ≡ o → Safe r1 → StepTied (next old r1) (next new q1)
    in_copied None z safe = absurd (never_wrong r1 safe (ap (λ o. body_hop old r1 (as_body o)) c.is_callee ∙ ap (λ o. hop_of callee_set b o s) z))
    in_copied (Some block) z safe = in_block block z (joins.stands b block z) safe

  -- ---- all together

  abbrev out_there : Active → State → List Frame → Active
  out_there r t ws = record r { block = place r.function r.block; state = t; waiting = ws }

  module _ (r : Active) (t : State) (ws : List Frame) (agree : Agree (LiveAt r.function r.block) r.state t) (frames : FramesTied r.waiting ws) (chain : Chain flow r.function r.waiting) (safe : Safe r) where
    elsewhere : (g : Graph) (block : Block) → slice_get flow.functions r.function ≡ Some g → slice_get g.blocks r.block ≡ Some block → (r.function == site.function) ≡ false → StepTied (next old r) (next new (out_there r t ws))
    elsewhere g block e z n =
        let q : r.function ≡ site.function → ⊥ = λ i. false≢true (sym n ∙ eq-eqb r.function site.function i) in
        let is_new : slice_get graphs r.function ≡ Some g = joins.others r.function q ∙ e in
        let stays : (b : ℕ) → b ≡ place r.function b = λ b. ap (λ x. cond x (at b) b) (sym n) in
        let follows : Follows g.blocks (place r.function) block.exit block.exit = subst (λ k. Follows g.blocks k block.exit block.exit) (λ i. λ b. stays b i) (follows_itself g.blocks block.exit) in
        let there : slice_get g.blocks (place r.function r.block) ≡ Some block = ap (slice_get g.blocks) (sym (stays r.block)) ∙ z in
        block_tied r t ws frames (place r.function r.block) g g e is_new block block z there refl follows agree safe

    in_caller : (block : Block) → r.function ≡ site.function → slice_get c.parts.caller.blocks r.block ≡ Some block → (r.block == site.block) ≡ false → StepTied (next old r) (next new (out_there r t ws))
    in_caller block e z n =
        let q : r.block ≡ site.block → ⊥ = λ i. false≢true (sym n ∙ eq-eqb r.block site.block i) in
        let is_old : slice_get flow.functions r.function ≡ Some c.parts.caller = ap (slice_get flow.functions) e ∙ c.is_caller in
        let is_new : slice_get graphs r.function ≡ Some joins.graph = ap (slice_get graphs) e ∙ joins.is_graph in
        let moves : (b : ℕ) → at b ≡ place r.function b = λ b. sym (ap (λ x. cond x (at b) b) (eq-eqb r.function site.function e)) in
        let k : Stays joins.graph.blocks at block (at r.block) = joins.stays r.block block q z in
        let follows : Follows joins.graph.blocks (place r.function) block.exit k.into.exit = subst (λ w. Follows joins.graph.blocks w block.exit k.into.exit) (λ i. λ b. moves b i) k.follows in
        let there : slice_get joins.graph.blocks (place r.function r.block) ≡ Some k.into = ap (slice_get joins.graph.blocks) (sym (moves r.block)) ∙ k.is in
        block_tied r t ws frames (place r.function r.block) c.parts.caller joins.graph is_old is_new block k.into z there k.ops follows agree safe

    at_call : r.function ≡ site.function → r.block ≡ site.block → StepTied (next old r) (next new (out_there r t ws))
    at_call e n =
        let r2 : Active = record r { function = site.function; block = site.block } in
        let same : r ≡ r2 = λ i. record r { function = e i; block = n i } in
        let agree2 : Agree (LiveAt site.function site.block) r.state t = subst (λ (x : Active). Agree (LiveAt x.function x.block) x.state t) same agree in
        let frames2 : FramesTied r.waiting ws = frames in
        let chain2 : Chain flow site.function r.waiting = subst (λ f. Chain flow f r.waiting) e chain in
        let safe2 : Safe r2 = subst Safe same safe in
        let there : StepTied (next old r2) (next new (record r2 { block = at site.block; state = t; waiting = ws })) = at_site r.passed r.base r.state t r.waiting ws frames2 chain2 agree2 safe2 in
        let here : StepTied (next old r2) (next new (out_there r2 t ws)) = subst (λ b. StepTied (next old r2) (next new (record r2 { block = b; state = t; waiting = ws }))) (sym (place_here site.block)) there in
        subst (λ x. StepTied (next old x) (next new (out_there x t ws))) (sym same) here

    by_place : (g : Graph) (block : Block) → slice_get flow.functions r.function ≡ Some g → slice_get g.blocks r.block ≡ Some block → StepTied (next old r) (next new (out_there r t ws))
    by_place g block e z = by (r.function == site.function) refl
      where
        caller_by : r.function ≡ site.function → (b : Bool) → (r.block == site.block) ≡ b → StepTied (next old r) (next new (out_there r t ws))
        caller_by i true n = at_call i (eqb-true r.block site.block n)
        caller_by i false n =
            let q : g ≡ c.parts.caller = graph_is g c.parts.caller (sym e ∙ ap (slice_get flow.functions) i ∙ c.is_caller) in
            in_caller block i (subst (λ (x : Graph). slice_get x.blocks r.block ≡ Some block) q z) n

        by : (b : Bool) → (r.function == site.function) ≡ b → StepTied (next old r) (next new (out_there r t ws))
        by true n = caller_by (eqb-true r.function site.function n) (r.block == site.block) refl
        by false n = elsewhere g block e z n

    by_block : (g : Graph) (o : Option Block) → slice_get flow.functions r.function ≡ Some g → slice_get g.blocks r.block ≡ o → StepTied (next old r) (next new (out_there r t ws))
    by_block g None e z = absurd (never_wrong r safe (ap (λ o. body_hop old r (as_body o)) e ∙ ap (λ o. hop_of (setting_with old r.passed r.base) r.block o r.state) z))
    by_block g (Some block) e z = by_place g block e z

    by_graph : (o : Option Graph) → slice_get flow.functions r.function ≡ o → StepTied (next old r) (next new (out_there r t ws))
    by_graph None e = absurd (never_wrong r safe (ap (λ o. body_hop old r (as_body o)) e))
    by_graph (Some g) e = by_block g (slice_get g.blocks r.block) e refl

    outside_meets : MeetsHere r (out_there r t ws)
    outside_meets = meets_by r (out_there r t ws) (next old r) (next new (out_there r t ws)) refl refl (by_graph (slice_get flow.functions r.function) refl) chain safe

  inside_meets : (b : ℕ) (s t : State) (from : ℕ) (passed : List (Option ℕ)) (base : ℕ) (values : ℕ → Content) (fs gs : List Frame) → Carried Named (Keeps values) to s t → FramesTied fs gs →
      Chain flow c.parts.called (caller_frame from passed base values ∷ fs) → Safe (in_callee b s (caller_frame from passed base values) fs) → MeetsHere (in_callee b s (caller_frame from passed base values) fs) (in_copy b t passed base gs)
  inside_meets b s t from passed base values fs gs carried frames chain safe =
      let r : Active = in_callee b s (caller_frame from passed base values) fs in
      let q : Active = in_copy b t passed base gs in
      meets_by r q (next old r) (next new q) refl refl (in_copied b s t from passed base values fs gs carried frames (slice_get c.parts.callee.blocks b) refl safe) chain safe

  meets : (r q : Active) → Tied r q → MeetsHere r q
  meets r q tie = by tie.here
    where
      by : Here r q → MeetsHere r q
      by (inl o) = subst (MeetsHere r) (sym o.is) (outside_meets r o.t o.ws o.agree o.frames tie.chain tie.safe)
      by (inr i) =
          let r2 : Active = in_callee i.block i.s (caller_frame i.from i.passed i.base i.values) i.fs in
          let chain : Chain flow c.parts.called (caller_frame i.from i.passed i.base i.values ∷ i.fs) = subst (λ (x : Active). Chain flow x.function x.waiting) i.old_is tie.chain in
          let safe : Safe r2 = subst Safe i.old_is tie.safe in
          subst (MeetsHere r) (sym i.new_is) (subst (λ x. MeetsHere x (in_copy i.block i.t i.passed i.base i.gs)) (sym i.old_is)
          (inside_meets i.block i.s i.t i.from i.passed i.base i.values i.fs i.gs i.carried i.frames chain safe))

  alike : (r q : Active) → Tied r q → out_of r ≡ out_of q
  alike r q tie = by tie.here
    where
      by : Here r q → out_of r ≡ out_of q
      by (inl o) = sym (ap out_of o.is ∙ o.agree.world.out)
      by (inr i) = ap out_of i.old_is ∙ sym i.carried.world.out ∙ sym (ap out_of i.new_is)

  start_here : (s : State) (o o' : Option Graph) → Fronts o o' → (o ≡ None → ⊥) →
      Outside (record { function = flow.main; block = 0; passed = []; base = length s.arrays; state = entered_or (as_body o) s; waiting = [] }) (record { function = flow.main; block = 0; passed = []; base = length s.arrays; state = entered_or (as_body o') s; waiting = [] })
  start_here s None o' k some = absurd (some refl)
  start_here s (Some x) None k some = absurd k
  start_here s (Some x) (Some y) k some =
      let same : entered (body_of (length flow.globals) y) [] s ≡ entered (body_of (length flow.globals) x) [] s = entered_same (length flow.globals) [] s x y k.0 k.1 in
      let zero_is : 0 ≡ place flow.main 0 = sym (place_zero flow.main) in
      record {
        t = entered (body_of (length flow.globals) x) [] s;
        ws = [];
        is = λ i. record { function = flow.main; block = zero_is i; passed = []; base = length s.arrays; state = same i; waiting = [] };
        agree = record { world = record { arrays = refl; input = refl; out = refl }; values = λ v n l e. e };
        frames = tt;
      }

  pub runs_same : (input : List ℤ) → NeverFails (graph_run flow input) → Same (graph_run flow input) (graph_run (with_graphs flow graphs) input) × NeverFails (graph_run (with_graphs flow graphs) input)
  runs_same input safe =
      let r : Active = start flow input in
      let q : Active = start (with_graphs flow graphs) input in
      let some : slice_get flow.functions flow.main ≡ None → ⊥ = λ e. never_wrong r safe (ap (λ o. body_hop old r (as_body o)) e) in
      let o : Outside r q = start_here (globals_at_start flow input) (slice_get flow.functions flow.main) (slice_get graphs flow.main) (fronts flow.main) some in
      same_from_meeting (next old) out_of (next new) out_of Tied (flow_grows flow) (flow_grows (with_graphs flow graphs)) meets alike r q (record { here = inl o; chain = tt; safe = safe })

pub joined_runs : JoinedRuns
joined_runs flow site c graphs at copy to joins shallow sound input safe = runs_same flow site c graphs at copy to joins shallow sound input safe
