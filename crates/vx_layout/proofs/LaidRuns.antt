-- Programs of settled graphs of which no block is left run as their layouts do.
use Rattle.std.proofs.Common.{◌≡◌, ℕ, suc, ◌+◌, ℤ, Bool, true, false, Option, Some, None, List, [], ◌∷◌, ◌++◌, length, slice_get, take, drop, map, refl, sym, ap, ◌∙◌, subst, inl, inr, arith}
use Rattle.std.specs.Prelude.{◌⊎◌, if◌then◌else◌, nat_le}
use Rattle.std.specs.Option.{option_map}
use Rattle.vx_base.specs.Outcome.{Outcome, Ends as EndsWith, Traps, IsOver, IsFailure, NeverFails, On, Over, step_then, run}
use Rattle.vx_base.specs.declared.outcome.Trap.TheVariants.{Depth}
use Rattle.vx_base.proofs.Runs.{Reach, run_reach, reach_on, safe_after}
use Rattle.vx_base.proofs.Meeting.{Meets, Again, Ended, same_from_meeting}
use Rattle.vx_flow.specs.declared.graph.Op.{Op}
use Rattle.vx_flow.specs.declared.graph.Array.{Array}
use Rattle.vx_flow.specs.declared.graph.Graph.{Graph}
use Rattle.vx_flow.specs.declared.graph.Flow.{Flow}
use Rattle.vx_flow.specs.Effects.{Content, State}
use Rattle.vx_flow.specs.Meaning.{Hop, Arrives, Body, Program, Frame, Active, deepest, setting_with, at_entry, undefined, spots_held, spots_for, enters_with, enters, bases_in, words_in, with_result, returned, waits, after_hop, body_hop, next, globals_at_start, entered_or, at_start}
use Rattle.vx_mixed.specs.declared.region.Item.{Item}
use Rattle.vx_mixed.specs.declared.layout.VirtualWord.TheVariants.{Transfer}
use Rattle.vx_mixed.specs.declared.layout.VWords.{VWords}
use Rattle.vx_mixed.specs.declared.mixed.MixedGraph.{MixedGraph}
use Rattle.vx_mixed.specs.Meaning.{early_hop}
use Rattle.vx_mixed.specs.Settled.{Settled}
use Rattle.vx_mixed.specs.Program.{body_of, program_of}
use Rattle.vx_mixed.specs.Layout.{place_of, layout_of}
use Rattle.vx_layout.specs.Laid.{moves, some_word_hop, laid_hop, laid_body, laid_program}
use Rattle.vx_layout.specs.LayoutLaws.{LaidOut, BothLaidOut, SameFrame, LayoutRuns}
use Rattle.vx_mixed.proofs.AnyTiming.{any_timing}
use Rattle.vx_mixed.proofs.GraphGrows.{grows}
use Rattle.vx_layout.proofs.LaidHops.{Steps, last, on, HopTied, arrives, calls_too, leaves_too, stops_too, wrong, Followed, hop_followed, start_followed}
use Rattle.vx_layout.proofs.LaidGrows.{laid_grows}

module _ (flow : Flow) (times : List ℕ) (latency : Op → ℕ) (room : List (Option ℕ) → List Item → Bool) (ms : List MixedGraph) (ls : List VWords) where
  abbrev A : Program
  A = program_of flow times latency ms

  abbrev B : Program
  B = laid_program flow ls

  abbrev G : ℕ
  G = length flow.globals

  abbrev out : Active → List ℕ
  out r = r.state.out

  -- a block and its place; the start of the function is block 0 of both
  abbrev Near : Option MixedGraph → ℕ → ℕ → Type 0
  Near None b b' = Unit {0}
  Near (Some m) b b' = (b' ≡ suc (place_of m b)) ⊎ ((b ≡ 0) × (b' ≡ 0))

  -- behind the word of a call stands the jump to the block behind it
  abbrev Behind : Option MixedGraph → Option VWords → ℕ → ℕ → Type 0
  Behind None l b b' = ⊥
  Behind (Some m) None b b' = ⊥
  Behind (Some m) (Some l) b b' = (p : ℕ) × (b' ≡ suc p) × (slice_get l.words p ≡ Some (Transfer (place_of m b)))

  record TiedFrame (w u : Frame) : Type 0 where
    function : u.function ≡ w.function
    passed : u.passed ≡ w.passed
    base : u.base ≡ w.base
    result : u.result ≡ w.result
    values : u.values ≡ w.values
    behind : Behind (slice_get ms w.function) (slice_get ls w.function) w.next u.next

  abbrev TiedStack : List Frame → List Frame → Type 0
  TiedStack [] [] = Unit {0}
  TiedStack (w ∷ ws) (u ∷ us) = TiedFrame w u × TiedStack ws us
  TiedStack [] (u ∷ us) = ⊥
  TiedStack (w ∷ ws) [] = ⊥

  same_length : (ws us : List Frame) → TiedStack ws us → length us ≡ length ws
  same_length [] [] h = refl
  same_length (w ∷ ws) (u ∷ us) h = ap suc (same_length ws us h.1)
  same_length [] (u ∷ us) h = absurd h
  same_length (w ∷ ws) [] h = absurd h

  abbrev other : Active → ℕ → List Frame → Active
  other n b us = record n { block = b; waiting = us }

  record Tied (n m : Active) : Type 0 where
    block : ℕ
    waiting : List Frame
    is : m ≡ other n block waiting
    near : Near (slice_get ms n.function) n.block block
    stack : TiedStack n.waiting waiting
    safe : NeverFails (λ k. run (next A) out k n)

  abbrev MeetsHere : Active → Active → Type 0
  MeetsHere = Meets (next A) out (next B) out Tied

  -- the other one takes steps first
  meets_behind : (j : ℕ) (n m m1 : Active) → Reach (next B) j m m1 → MeetsHere n m1 → MeetsHere n m
  meets_behind j n m m1 q (Again a b n2 m2 r2 q2 t) =
      let d : j + suc b ≡ suc (j + b) = omega arith in
      Again a (j + b) n2 m2 r2 (subst (λ k. Reach (next B) k m m2) d (reach_on (next B) j (suc b) m m1 m2 q q2)) t
  meets_behind j n m m1 q (Ended a b o v e d) = Ended a (j + b) o v e (run_reach (next B) out j b m m1 q ∙ d)

  again : (n n' m m' m2 : Active) → next A n ≡ On n' → next B m ≡ On m' → (j : ℕ) → Reach (next B) j m' m2 → NeverFails (λ k. run (next A) out k n) → (NeverFails (λ k. run (next A) out k n') → Tied n' m2) → MeetsHere n m
  again n n' m m' m2 e d j q safe tie = Again 0 j n' m2 (n', e, refl) (m', d, q) (tie (safe_after (next A) out 1 n n' (n', e, refl) safe))

  ended : (n m : Active) (o : Outcome) → next A n ≡ Over o → next B m ≡ Over o → IsOver o → MeetsHere n m
  ended n m o e d v = Ended 1 1 o v (ap (step_then (run (next A) out 0)) e) (ap (step_then (run (next B) out 0)) d)

  failed : (n m : Active) (xs : List ℕ) → next A n ≡ Over (Outcome.Wrong xs) → NeverFails (λ k. run (next A) out k n) → MeetsHere n m
  failed n m xs e safe = absurd (safe 1 (subst IsFailure (sym (ap (step_then (run (next A) out 0)) e)) tt))

  -- words as steps of the program

  abbrev moved : Active → ℕ → State → Active
  moved n b s = record n { block = b; state = s }

  record Inside (n : Active) (b : ℕ) (s : State) (h : Hop) : Type 0 where
    count : ℕ
    place : ℕ
    state : State
    reach : Reach (next B) count (moved n b s) (moved n place state)
    ends : next B (moved n place state) ≡ after_hop B (moved n place state) h

  abbrev at_b : Active → Option Graph → Option VWords → Hop
  at_b r graph l = body_hop B r (laid_body G graph l)

  step_is : (n : Active) (graph : Graph) (l : VWords) (b : ℕ) (s : State) (h : Hop) → slice_get flow.functions n.function ≡ Some graph → slice_get ls n.function ≡ Some l → laid_hop (setting_with B n.passed n.base) l b s ≡ h → next B (moved n b s) ≡ after_hop B (moved n b s) h
  step_is n graph l b s h e f r =
      ap (λ o. after_hop B (moved n b s) (at_b (moved n b s) o (slice_get ls n.function))) e ∙ ap (λ o. after_hop B (moved n b s) (at_b (moved n b s) (Some graph) o)) f ∙ ap (after_hop B (moved n b s)) r

  inside : (n : Active) (graph : Graph) (l : VWords) (b : ℕ) (s : State) (h : Hop) → slice_get flow.functions n.function ≡ Some graph → slice_get ls n.function ≡ Some l → Steps (laid_hop (setting_with B n.passed n.base) l) b s h → Inside n b s h
  inside n graph l b s h e f (last r) = record { count = 0; place = b; state = s; reach = refl; ends = step_is n graph l b s h e f r }
  inside n graph l b s h e f (on {from = c} {to = d} {t = t} r more) =
      let i = inside n graph l d t h e f more in
      record {
        count = suc i.count;
        place = i.place;
        state = i.state;
        reach = (moved n d t, step_is n graph l b s (Arrives c d t) e f r, i.reach);
        ends = i.ends;
      }

  module _ (frames : (f : ℕ) → SameFrame (slice_get flow.functions f) (slice_get ms f)) (each : (f : ℕ) → BothLaidOut (slice_get ms f) (slice_get ls f)) (settled : (f : ℕ) (m : MixedGraph) → slice_get ms f ≡ Some m → Settled room latency m) where
    -- a function that is there in both
    record There (f : ℕ) : Type 0 where
      graph : Graph
      mixed : MixedGraph
      laid : VWords
      in_flow : slice_get flow.functions f ≡ Some graph
      in_mixed : slice_get ms f ≡ Some mixed
      in_laid : slice_get ls f ≡ Some laid
      laid_out : LaidOut mixed laid
      parameters : mixed.parameters ≡ graph.parameters
      arrays : mixed.arrays ≡ graph.arrays

    there : (f : ℕ) → (slice_get ms f ≡ None) ⊎ There f
    there f = by (slice_get flow.functions f) (slice_get ms f) (slice_get ls f) refl refl refl (frames f) (each f)
      where
        by : (a : Option Graph) (b : Option MixedGraph) (c : Option VWords) → slice_get flow.functions f ≡ a → slice_get ms f ≡ b → slice_get ls f ≡ c → SameFrame a b → BothLaidOut b c → (slice_get ms f ≡ None) ⊎ There f
        by a None c ea eb ec x y = inl eb
        by None (Some m) c ea eb ec x y = absurd x
        by (Some graph) (Some m) None ea eb ec x y = absurd y
        by (Some graph) (Some m) (Some l) ea eb ec x y = inr (record { graph = graph; mixed = m; laid = l; in_flow = ea; in_mixed = eb; in_laid = ec; laid_out = y; parameters = x.0; arrays = x.1 })

    abbrev own : List Array → List ℕ
    own arrays = words_in (drop G arrays)

    abbrev begun : List ℕ → List Array → List ℤ → State → State
    begun parameters arrays args s = record s { values = at_entry parameters args; arrays = s.arrays ++ map undefined (own arrays) }

    -- both bodies are entered alike
    same_entry : (f : ℕ) (x : There f) (args : List ℤ) (s : State) → begun x.graph.parameters x.graph.arrays args s ≡ begun x.mixed.parameters x.mixed.arrays args s
    same_entry f x args s = ap (λ z. begun z x.graph.arrays args s) (sym x.parameters) ∙ ap (λ z. begun x.mixed.parameters z args s) (sym x.arrays)

    enter_step : (n m : Active) (g : ℕ) (args : List ℤ) (w u : Frame) (s : State) (ws us : List Frame) → TiedStack (w ∷ ws) (u ∷ us) → NeverFails (λ k. run (next A) out k n) →
        next A n ≡ enters g (A.body g) args s (w ∷ ws) → next B m ≡ enters g (B.body g) args s (u ∷ us) → (slice_get ms g ≡ None) ⊎ There g → MeetsHere n m
    enter_step n m g args w u s ws us stack safe e d (inl gone) = failed n m s.out (e ∙ ap (λ o. enters g (option_map (body_of G times latency) o) args s (w ∷ ws)) gone) safe
    enter_step n m g args w u s ws us stack safe e d (inr x) =
        by (spots_for mixed args s)
        (e ∙ ap (λ o. enters g (option_map (body_of G times latency) o) args s (w ∷ ws)) x.in_mixed)
        (d ∙ ap (λ o. enters g (laid_body G o (slice_get ls g)) args s (u ∷ us)) x.in_flow ∙ ap (λ o. enters g (laid_body G (Some x.graph) o) args s (u ∷ us)) x.in_laid ∙ ap (enters_with g laid args s (u ∷ us)) spots_same)
      where
        mixed : Option Body
        mixed = Some (body_of G times latency x.mixed)

        laid : Option Body
        laid = laid_body G (Some x.graph) (Some x.laid)

        spots_same : spots_for laid args s ≡ spots_for mixed args s
        spots_same = λ i. spots_held (length s.arrays) (at_entry (sym x.parameters i) args) (bases_in (drop G (sym x.arrays i)))

        entry : List (Option ℕ) → State → Active
        entry passed z = record { function = g; block = 0; passed = passed; base = length s.arrays; state = z; waiting = u ∷ us }

        by : (spots : Option (List (Option ℕ))) → next A n ≡ enters_with g mixed args s (w ∷ ws) spots → next B m ≡ enters_with g laid args s (u ∷ us) spots → MeetsHere n m
        by None a b = failed n m s.out a safe
        by (Some passed) a b =
            let n' : Active = record { function = g; block = 0; passed = passed; base = length s.arrays; state = begun x.mixed.parameters x.mixed.arrays args s; waiting = w ∷ ws } in
            let m' : Active = entry passed (begun x.graph.parameters x.graph.arrays args s) in
            again n n' m m' m' a b 0 refl safe (λ later. record {
              block = 0;
              waiting = u ∷ us;
              is = ap (entry passed) (same_entry g x args s);
              near = subst (λ o. Near o 0 0) (sym x.in_mixed) (inr (refl, refl));
              stack = stack;
              safe = later;
            })

    call_step : (deep deep' : Bool) (n m : Active) (g : ℕ) (args : List ℤ) (w u : Frame) (s : State) (ws us : List Frame) → deep' ≡ deep → TiedStack (w ∷ ws) (u ∷ us) → NeverFails (λ k. run (next A) out k n) →
        next A n ≡ (if deep then Over (Traps Depth s.out) else enters g (A.body g) args s (w ∷ ws)) → next B m ≡ (if deep' then Over (Traps Depth s.out) else enters g (B.body g) args s (u ∷ us)) → MeetsHere n m
    call_step true deep' n m g args w u s ws us q stack safe e d = ended n m (Traps Depth s.out) e (d ∙ ap (λ z. if z then Over (Traps Depth s.out) else enters g (B.body g) args s (u ∷ us)) q) tt
    call_step false deep' n m g args w u s ws us q stack safe e d =
        enter_step n m g args w u s ws us stack safe e (d ∙ ap (λ z. if z then Over (Traps Depth s.out) else enters g (B.body g) args s (u ∷ us)) q) (there g)

    abbrev after : Option ℕ → (ℕ → Content) → ℤ → ℕ → State → State
    after result values r base s = record s { values = with_result values result r; arrays = take base s.arrays }

    -- back in the caller, the word behind the call jumps on
    resumed : (n m : Active) (x : Frame) (y : Frame) (ws us : List Frame) (r : ℤ) (s : State) (base : ℕ) → TiedFrame x y → TiedStack ws us → NeverFails (λ k. run (next A) out k n) →
        next A n ≡ returned r s base (x ∷ ws) → next B m ≡ returned r s base (y ∷ us) → (slice_get ms x.function ≡ None) ⊎ There x.function → MeetsHere n m
    resumed n m x y ws us r s base t stack safe e d (inl gone) = absurd (subst (λ o. Behind o (slice_get ls x.function) x.next y.next) gone t.behind)
    resumed n m x y ws us r s base t stack safe e d (inr c) =
        let n' : Active = record { function = x.function; block = x.next; passed = x.passed; base = x.base; state = after x.result x.values r base s; waiting = ws } in
        let behind : Behind (Some c.mixed) (Some c.laid) x.next y.next = subst (λ o. Behind o (Some c.laid) x.next y.next) c.in_mixed (subst (λ o. Behind (slice_get ms x.function) o x.next y.next) c.in_laid t.behind) in
        let p = behind.0 in
        let m' : Active = other n' (suc p) us in
        let to : Active = other n' (suc (place_of c.mixed x.next)) us in
        let there_b : next B m ≡ On m' =
        d ∙ ap (λ z. On (back z y.next y.passed y.base y.result y.values)) t.function ∙ ap (λ z. On (back x.function z y.passed y.base y.result y.values)) behind.1 ∙ ap (λ z. On (back x.function (suc p) z y.base y.result y.values)) t.passed
        ∙ ap (λ z. On (back x.function (suc p) x.passed z y.result y.values)) t.base ∙ ap (λ z. On (back x.function (suc p) x.passed x.base z y.values)) t.result ∙ ap (λ z. On (back x.function (suc p) x.passed x.base x.result z)) t.values in
        let on_b : next B m' ≡ On to = step_is m' c.graph c.laid (suc p) n'.state (moves p (place_of c.mixed x.next) n'.state) c.in_flow c.in_laid (ap (λ o. some_word_hop (setting_with B x.passed x.base) p o n'.state) behind.2) in
        again n n' m m' to e there_b 1 (to, on_b, refl) safe (λ later. record {
          block = suc (place_of c.mixed x.next);
          waiting = us;
          is = refl;
          near = subst (λ o. Near o x.next (suc (place_of c.mixed x.next))) (sym c.in_mixed) (inl refl);
          stack = stack;
          safe = later;
        })
      where
        back : ℕ → ℕ → List (Option ℕ) → ℕ → Option ℕ → (ℕ → Content) → Active
        back function block passed ground result values = record { function = function; block = block; passed = passed; base = ground; state = after result values r base s; waiting = us }

    return_step : (n m : Active) (ws us : List Frame) (r : ℤ) (s : State) (base : ℕ) → TiedStack ws us → NeverFails (λ k. run (next A) out k n) → next A n ≡ returned r s base ws → next B m ≡ returned r s base us → MeetsHere n m
    return_step n m [] [] r s base stack safe e d = ended n m (EndsWith r s.out) e d tt
    return_step n m [] (u ∷ us) r s base stack safe e d = absurd stack
    return_step n m (x ∷ ws) [] r s base stack safe e d = absurd stack
    return_step n m (x ∷ ws) (u ∷ us) r s base stack safe e d = resumed n m x u ws us r s base stack.0 stack.1 safe e d (there x.function)

    -- both leave by tied hops, the other one from block b in state t
    last_step : (n : Active) (b : ℕ) (t : State) (us : List Frame) (c : There n.function) → TiedStack n.waiting us → NeverFails (λ k. run (next A) out k n) → (h h' : Hop) → HopTied c.laid (place_of c.mixed) h h' →
        next A n ≡ after_hop A n h → next B (moved (other n b us) b t) ≡ after_hop B (moved (other n b us) b t) h' → MeetsHere n (moved (other n b us) b t)
    last_step n b t us c stack safe h h' (arrives {from = from} {to = to} {from' = from'} {s = s}) e d =
        again n (moved n to s) (moved (other n b us) b t) (other (moved n to s) (suc (place_of c.mixed to)) us) (other (moved n to s) (suc (place_of c.mixed to)) us) e d 0 refl safe (λ later. record {
          block = suc (place_of c.mixed to);
          waiting = us;
          is = refl;
          near = subst (λ o. Near o to (suc (place_of c.mixed to))) (sym c.in_mixed) (inl refl);
          stack = stack;
          safe = later;
        })
    last_step n b t us c stack safe h h' (calls_too {g = g} {from = from} {next = to} {p = p} {arguments = args} {result = result} {s = s} f) e d =
        let len : length us ≡ length n.waiting = same_length n.waiting us stack in
        call_step (nat_le deepest (length n.waiting + 1)) (nat_le deepest (length us + 1)) n (moved (other n b us) b t) g args (waits n result from to s) (waits (other n b us) result (suc p) (suc (suc p)) s) s n.waiting us (ap (λ x. nat_le deepest (x + 1)) len) (
          record {
            function = refl;
            passed = refl;
            base = refl;
            result = refl;
            values = refl;
            behind = subst (λ o. Behind o (slice_get ls n.function) to (suc (suc p))) (sym c.in_mixed) (subst (λ o. Behind (Some c.mixed) o to (suc (suc p))) (sym c.in_laid) (suc p, refl, f));
          },
          stack,
        )
        safe e d
    last_step n b t us c stack safe h h' (leaves_too {n = r} {s = s}) e d = return_step n (moved (other n b us) b t) n.waiting us r s n.base stack safe e d
    last_step n b t us c stack safe h h' (stops_too {k = k} {s = s}) e d = ended n (moved (other n b us) b t) (Traps k s.out) e d tt
    last_step n b t us c stack safe h h' wrong e d = failed n (moved (other n b us) b t) n.state.out e safe

    followed : (f : ℕ) (c : There f) (passed : List (Option ℕ)) (base b b' : ℕ) (s : State) → Near (Some c.mixed) b b' → Followed (setting_with B passed base) c.laid (place_of c.mixed) b' s (early_hop (setting_with A passed base) c.mixed b s)
    followed f c passed base b b' s near =
        subst (λ z. Followed (setting_with B passed base) z (place_of c.mixed) b' s (early_hop (setting_with A passed base) c.mixed b s)) (sym c.laid_out.is) (by near)
      where
        by : Near (Some c.mixed) b b' → Followed (setting_with B passed base) (layout_of c.mixed) (place_of c.mixed) b' s (early_hop (setting_with A passed base) c.mixed b s)
        by (inl q) = subst (λ z. Followed (setting_with B passed base) (layout_of c.mixed) (place_of c.mixed) z s (early_hop (setting_with A passed base) c.mixed b s)) (sym q) (hop_followed latency c.mixed c.laid_out.valid c.laid_out.done (setting_with A passed base) b s)
        by (inr q) =
            subst (λ z. Followed (setting_with B passed base) (layout_of c.mixed) (place_of c.mixed) z s (early_hop (setting_with A passed base) c.mixed b s)) (sym q.1)
            (subst (λ z. Followed (setting_with B passed base) (layout_of c.mixed) (place_of c.mixed) 0 s (early_hop (setting_with A passed base) c.mixed z s)) (sym q.0) (start_followed latency c.mixed c.laid_out.valid c.laid_out.done (setting_with A passed base) s))

    abbrev at_a : Active → Option MixedGraph → Hop
    at_a r o = body_hop A r (option_map (body_of G times latency) o)

    meets_there : (n : Active) (b : ℕ) (us : List Frame) → Near (slice_get ms n.function) n.block b → TiedStack n.waiting us → NeverFails (λ k. run (next A) out k n) → (slice_get ms n.function ≡ None) ⊎ There n.function → MeetsHere n (other n b us)
    meets_there n b us near stack safe (inl gone) = failed n (other n b us) n.state.out (ap (λ o. after_hop A n (at_a n o)) gone) safe
    meets_there n b us near stack safe (inr c) =
        let h : Hop = early_hop (setting_with A n.passed n.base) c.mixed n.block n.state in
        let f : Followed (setting_with B n.passed n.base) c.laid (place_of c.mixed) b n.state h = followed n.function c n.passed n.base n.block b n.state (subst (λ o. Near o n.block b) c.in_mixed near) in
        let i : Inside (other n b us) b n.state f.way = inside (other n b us) c.graph c.laid b n.state f.way c.in_flow c.in_laid f.steps in
        let e : next A n ≡ after_hop A n h = ap (λ o. after_hop A n (at_a n o)) c.in_mixed ∙ ap (after_hop A n) (any_timing room latency c.mixed (settled n.function c.mixed c.in_mixed) (setting_with A n.passed n.base) times n.block n.state) in
        meets_behind i.count n (other n b us) (moved (other n b us) i.place i.state) i.reach (last_step n i.place i.state us c stack safe h f.way f.tied e i.ends)

    meets : (n m : Active) → Tied n m → MeetsHere n m
    meets n m t = subst (λ z. MeetsHere n z) (sym t.is) (meets_there n t.block t.waiting t.near t.stack t.safe (there n.function))

    first_state : (f : ℕ) (s : State) → (slice_get ms f ≡ None) ⊎ There f → entered_or (laid_body G (slice_get flow.functions f) (slice_get ls f)) s ≡ entered_or (option_map (body_of G times latency) (slice_get ms f)) s
    first_state f s (inl gone) =
        ap (λ o. entered_or (laid_body G (slice_get flow.functions f) o) s) (by (slice_get ms f) (slice_get ls f) gone (each f)) ∙ none (slice_get flow.functions f) ∙ ap (λ o. entered_or (option_map (body_of G times latency) o) s) (sym gone)
      where
        by : (a : Option MixedGraph) (b : Option VWords) → a ≡ None → BothLaidOut a b → b ≡ None
        by None None e h = refl
        by None (Some l) e h = absurd h
        by (Some m) b e h = absurd (cc)

        none : (o : Option Graph) → entered_or (laid_body G o None) s ≡ s
        none None = refl
        none (Some graph) = refl
    first_state f s (inr x) =
        ap (λ o. entered_or (laid_body G o (slice_get ls f)) s) x.in_flow ∙ ap (λ o. entered_or (laid_body G (Some x.graph) o) s) x.in_laid ∙ same_entry f x [] s ∙ ap (λ o. entered_or (option_map (body_of G times latency) o) s) (sym x.in_mixed)

    at_first : (o : Option MixedGraph) → Near o 0 0
    at_first None = tt
    at_first (Some m) = inr (refl, refl)

pub layout_runs : LayoutRuns
layout_runs flow times latency room ms ls input some frames each settled safe =
    let a : Program = program_of flow times latency ms in
    let b : Program = laid_program flow ls in
    let s : State = globals_at_start flow input in
    let tie : Tied flow times latency room ms ls (at_start a flow.main s) (at_start b flow.main s) = record {
      block = 0;
      waiting = [];
      is = ap (λ z. first_of flow s z) (first_state flow times latency room ms ls frames each settled flow.main s (there flow times latency room ms ls frames each settled flow.main));
      near = at_first flow times latency room ms ls frames each settled (slice_get ms flow.main);
      stack = tt;
      safe = safe;
    } in
    same_from_meeting (next a) (λ r. r.state.out) (next b) (λ r. r.state.out) (Tied flow times latency room ms ls) (grows flow times latency ms) (laid_grows flow ls) (meets flow times latency room ms ls frames each settled) (λ n m t. ap (λ (r : Active). r.state.out) (sym t.is)) (at_start a flow.main s) (at_start b flow.main s) tie
  where
    first_of : Flow → State → State → Active
    first_of fl start z = record { function = fl.main; block = 0; passed = []; base = length start.arrays; state = z; waiting = [] }
