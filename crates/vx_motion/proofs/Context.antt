-- Replaced graphs of the same meaning leave a program's runs the same.
use Rattle.std.proofs.Common.{◌≡◌, ◌≢◌, ℕ, zero, suc, ◌+◌, ◌≤◌, ℤ, Bool, true, false, Option, Some, None, List, [], ◌∷◌, ◌++◌, length, slice_get, take, drop, map, refl, sym, ap, ◌∙◌, subst, ⊎_elim, inl, inr, arith}
use Rattle.std.specs.Prelude.{◌⊎◌, ◌==◌, if◌then◌else◌, nat_le}
use Rattle.std.specs.Option.{option_map}
use Rattle.std.proofs.lemmas.Bool.{eq-eqb}
use Rattle.vx_base.specs.Outcome.{Outcome, Ends as EndsWith, Traps, IsOver, IsFailure, NeverFails, On, Over, step_then, run}
use Rattle.vx_base.specs.declared.outcome.Trap.{Trap}
use Rattle.vx_base.specs.declared.outcome.Trap.TheVariants.{Depth}
use Rattle.vx_base.proofs.Runs.{Reach, run_reach, reach_on, safe_after}
use Rattle.vx_base.proofs.Meeting.{Meets, Again, Ended, same_from_meeting}
use Rattle.vx_flow.specs.declared.graph.Op.{Op}
use Rattle.vx_flow.specs.declared.graph.Array.{Array}
use Rattle.vx_flow.specs.declared.graph.Flow.{Flow}
use Rattle.vx_flow.specs.Effects.{Content, State}
use Rattle.vx_flow.specs.Apart.{StandApart}
use Rattle.vx_flow.specs.Meaning.{Hop, Arrives, Calls, Leaves, Stops, Wrong, Body, Program, Frame, Active, deepest, spot_in, setting_with, at_entry, undefined, entered, spots_held, spots_for, enters_with, enters, bases_in, words_in, with_result, returned, waits, after_hop, body_hop, next, words_at_start, globals_at_start, entered_or, at_start}
use Rattle.vx_flow.proofs.Apart.{spots_apart}
use Rattle.vx_flow.proofs.Entering.{entered_apart}
use Rattle.vx_mixed.specs.declared.mixed.MixedGraph.{MixedGraph}
use Rattle.vx_mixed.specs.Meaning.{hop}
use Rattle.vx_mixed.specs.Live.{Live}
use Rattle.vx_mixed.specs.Agree.{Segment, SameWorld, Agree, Alike, SameMeaning, not_the_result}
use Rattle.vx_mixed.specs.Program.{body_of}
use Rattle.vx_motion.specs.Context.{Becomes, Remains, Changes, Both, AllBecome, HaveGlobalsFirst, SameRuns, InContext}
use Rattle.vx_mixed.proofs.Keeps.{HopGood, hop_good}
use Rattle.vx_mixed.proofs.GraphGrows.{P, grows, inside, moved}

same_world : (s : State) → SameWorld s s
same_world s = record { arrays = refl; input = refl; out = refl }

wrong_or : (h : Hop) → (h ≡ Wrong) ⊎ (h ≢ Wrong)
wrong_or (Arrives b c s) = inr (λ (e : Arrives b c s ≡ Wrong). cc)
wrong_or (Calls g args result from next s) = inr (λ (e : Calls g args result from next s ≡ Wrong). cc)
wrong_or (Leaves r s) = inr (λ (e : Leaves r s ≡ Wrong). cc)
wrong_or (Stops k s) = inr (λ (e : Stops k s ≡ Wrong). cc)
wrong_or Wrong = inl refl

-- Two states of one function, and two hops that leave alike

module _ (latency : Op → ℕ) where
  -- at one of its entrances
  abbrev pub Near : (m m' : MixedGraph) → Becomes latency m m' → ℕ → State → ℕ → State → Type 0
  Near m m' (Remains e) b s b' t = (b' ≡ b) × (t ≡ s)
  Near m m' (Changes ps ars meet meet' pairs c) b s b' t = (pairs b b' ≡ true) × Agree (Live m b) s t

  abbrev pub NearIn : (o o' : Option MixedGraph) → Both latency o o' → ℕ → State → ℕ → State → Type 0
  NearIn None None l b s b' t = SameWorld s t
  NearIn (Some m) (Some m') l b s b' t = Near m m' l b s b' t
  NearIn None (Some m') l b s b' t = ⊥
  NearIn (Some m) None l b s b' t = ⊥

  -- the values of a function that waits for a result
  abbrev pub Rest : (m m' : MixedGraph) → Becomes latency m m' → Option ℕ → ℕ → (ℕ → Content) → ℕ → (ℕ → Content) → Type 0
  Rest m m' (Remains e) result b vs b' us = (b' ≡ b) × (us ≡ vs)
  Rest m m' (Changes ps ars meet meet' pairs c) result b vs b' us = (pairs b b' ≡ true) × ((v : ℕ) (n : ℤ) → Live m b v × not_the_result result v → vs v ≡ Some n → us v ≡ Some n)

  abbrev pub RestIn : (o o' : Option MixedGraph) → Both latency o o' → Option ℕ → ℕ → (ℕ → Content) → ℕ → (ℕ → Content) → Type 0
  RestIn None None l result b vs b' us = ⊥
  RestIn (Some m) (Some m') l result b vs b' us = Rest m m' l result b vs b' us
  RestIn None (Some m') l result b vs b' us = ⊥
  RestIn (Some m) None l result b vs b' us = ⊥

pub data Exits (N : ℕ → State → ℕ → State → Type 0) (R : Option ℕ → ℕ → (ℕ → Content) → ℕ → (ℕ → Content) → Type 0) : Hop → Hop → Type 0 where
  ByEdge : {b c b' c' : ℕ} {s t : State} → N c s c' t → SameWorld s t → Exits N R (Arrives b c s) (Arrives b' c' t)
  ByCall : {g from from' c c' : ℕ} {args : List ℤ} {result : Option ℕ} {s t : State} → R result c s.values c' t.values → SameWorld s t → Exits N R (Calls g args result from c s) (Calls g args result from' c' t)
  ByReturn : {r : ℤ} {s t : State} → SameWorld s t → Exits N R (Leaves r s) (Leaves r t)
  ByTrap : {k : Trap} {s t : State} → SameWorld s t → Exits N R (Stops k s) (Stops k t)
  IsWrong : {h : Hop} → Exits N R Wrong h

module _ (latency : Op → ℕ) where
  exits_remain : (m m' : MixedGraph) (e : m' ≡ m) (h : Hop) → Exits (Near latency m m' (Remains e)) (Rest latency m m' (Remains e)) h h
  exits_remain m m' e (Arrives b c s) = ByEdge (refl, refl) (same_world s)
  exits_remain m m' e (Calls g args result from c s) = ByCall (refl, refl) (same_world s)
  exits_remain m m' e (Leaves r s) = ByReturn (same_world s)
  exits_remain m m' e (Stops k s) = ByTrap (same_world s)
  exits_remain m m' e Wrong = IsWrong

  module _ (m m' : MixedGraph) (ps : m'.parameters ≡ m.parameters) (ars : m'.arrays ≡ m.arrays) (meet meet' pairs : ℕ → ℕ → Bool) (c : SameMeaning latency m m' meet meet' pairs) where
    abbrev Ex : Hop → Hop → Type 0
    Ex = Exits (Near latency m m' (Changes ps ars meet meet' pairs c)) (Rest latency m m' (Changes ps ars meet meet' pairs c))

    by_call : (g g' : ℕ) (args args' : List ℤ) (result result' : Option ℕ) (from from' b b' : ℕ) (s t : State) → g' ≡ g → args' ≡ args → result' ≡ result → pairs b b' ≡ true → Agree (λ v. Live m b v × not_the_result result v) s t → Ex (Calls g args result from b s) (Calls g' args' result' from' b' t)
    by_call g g' args args' result result' from from' b b' s t e1 e2 e3 e4 a =
        subst (λ x. Ex (Calls g args result from b s) (Calls x args' result' from' b' t)) (sym e1)
        (subst (λ x. Ex (Calls g args result from b s) (Calls g x result' from' b' t)) (sym e2)
        (subst (λ x. Ex (Calls g args result from b s) (Calls g args x from' b' t)) (sym e3) (ByCall (e4, a.values) a.world)))

    exits_change : (h h' : Hop) → Alike m pairs h h' → Ex h h'
    exits_change Wrong h' x = IsWrong
    exits_change (Arrives b d s) (Arrives b' d' t) x = ByEdge (x.0, x.1) x.1.world
    exits_change (Calls g args result from b s) (Calls g' args' result' from' b' t) x = by_call g g' args args' result result' from from' b b' s t x.0 x.1 x.2 x.3 x.4
    exits_change (Leaves r s) (Leaves r' t) x = subst (λ y. Ex (Leaves r s) (Leaves y t)) (sym x.0) (ByReturn x.1)
    exits_change (Stops k s) (Stops k' t) x = subst (λ y. Ex (Stops k s) (Stops y t)) (sym x.0) (ByTrap x.1)
    exits_change (Arrives b d s) h' x = absurd x
    exits_change (Calls g args result from b s) h' x = absurd x
    exits_change (Leaves r s) h' x = absurd x
    exits_change (Stops k s) h' x = absurd x

length_take : {A : Type 0} → (n : ℕ) (xs : List A) → n ≤ length xs → length (take n xs) ≡ n
length_take zero xs h = refl
length_take (suc n) [] h = absurd (omega arith)
length_take (suc n) (x ∷ xs) h = ap suc (length_take n xs (omega arith))

length_both : {A : Type 0} → (xs ys : List A) → length xs ≤ length (xs ++ ys)
length_both [] ys = omega arith
length_both (x ∷ xs) ys = let r = length_both xs ys in omega arith

length_mapped : {A B : Type 0} → (f : A → B) (xs : List A) → length (map f xs) ≡ length xs
length_mapped f [] = refl
length_mapped f (x ∷ xs) = ap suc (length_mapped f xs)

pub arrays_stay : (latency : Op → ℕ) (m m' : MixedGraph) → Becomes latency m m' → m'.arrays ≡ m.arrays
arrays_stay latency m m' (Remains e) = ap (λ (x : MixedGraph). x.arrays) e
arrays_stay latency m m' (Changes ps ars meet meet' pairs c) = ars

parameters_stay : (latency : Op → ℕ) (m m' : MixedGraph) → Becomes latency m m' → m'.parameters ≡ m.parameters
parameters_stay latency m m' (Remains e) = ap (λ (x : MixedGraph). x.parameters) e
parameters_stay latency m m' (Changes ps ars meet meet' pairs c) = ps

module _ (flow : Flow) (times : List ℕ) (latency : Op → ℕ) (some : times ≢ []) (ms ns : List MixedGraph) (first_ones : HaveGlobalsFirst (length flow.globals) ms) (each : AllBecome latency ms ns) where
  abbrev A : Program
  A = P flow times latency ms

  abbrev B : Program
  B = P flow times latency ns

  abbrev Globals : ℕ
  Globals = length flow.globals

  abbrev out : Active → List ℕ
  out r = r.state.out

  -- a function's arrays stand apart, with those that it was passed and its own from base on
  abbrev FarIn : Option MixedGraph → List (Option ℕ) → ℕ → Type 0
  FarIn None passed base = Unit {0}
  FarIn (Some m) passed base = StandApart m.arrays (spot_in Globals passed base)

  far_all : (o : Option MixedGraph) (base : ℕ) → Globals ≤ base → FarIn o [] base
  far_all None base le = tt
  far_all (Some m) base le = spots_apart m.arrays Globals base le

  record TiedFrame (w u : Frame) : Type 0 where
    function : u.function ≡ w.function
    passed : u.passed ≡ w.passed
    base : u.base ≡ w.base
    result : u.result ≡ w.result
    rest : RestIn latency (slice_get ms w.function) (slice_get ns w.function) (each w.function) w.result w.next w.values u.next u.values

  -- each waiting function's own arrays begin behind the globals, and before those of the one that it called, and its arrays
  -- stand apart
  abbrev TiedStack : ℕ → List Frame → List Frame → Type 0
  TiedStack base [] [] = Unit {0}
  TiedStack base (w ∷ ws) (u ∷ us) = TiedFrame w u × (Globals ≤ w.base) × (w.base ≤ base) × FarIn (slice_get ms w.function) w.passed w.base × TiedStack w.base ws us
  TiedStack base [] (u ∷ us) = ⊥
  TiedStack base (w ∷ ws) [] = ⊥

  record Tied (n m : Active) : Type 0 where
    function : m.function ≡ n.function
    passed : m.passed ≡ n.passed
    base : m.base ≡ n.base
    near : NearIn latency (slice_get ms n.function) (slice_get ns n.function) (each n.function) n.block n.state m.block m.state
    world : SameWorld n.state m.state
    stack : TiedStack n.base n.waiting m.waiting
    low : Globals ≤ n.base
    far : FarIn (slice_get ms n.function) n.passed n.base
    high : n.base ≤ length n.state.arrays
    safe : NeverFails (λ k. run (next A) out k n)

  same_length : (base : ℕ) (ws us : List Frame) → TiedStack base ws us → length us ≡ length ws
  same_length base [] [] h = refl
  same_length base (w ∷ ws) (u ∷ us) h = ap suc (same_length w.base ws us h.4)
  same_length base [] (u ∷ us) h = absurd h
  same_length base (w ∷ ws) [] h = absurd h

  abbrev MeetsHere : Active → Active → Type 0
  MeetsHere = Meets (next A) out (next B) out Tied

  meets_after : (i j : ℕ) (n n1 m m1 : Active) → Reach (next A) i n n1 → Reach (next B) j m m1 → MeetsHere n1 m1 → MeetsHere n m
  meets_after i j n n1 m m1 r q (Again a b n2 m2 r2 q2 t) =
      let e : i + suc a ≡ suc (i + a) = omega arith in
      let d : j + suc b ≡ suc (j + b) = omega arith in
      Again (i + a) (j + b) n2 m2 (subst (λ k. Reach (next A) k n n2) e (reach_on (next A) i (suc a) n n1 n2 r r2)) (subst (λ k. Reach (next B) k m m2) d (reach_on (next B) j (suc b) m m1 m2 q q2)) t
  meets_after i j n n1 m m1 r q (Ended a b o v e d) = Ended (i + a) (j + b) o v (run_reach (next A) out i a n n1 r ∙ e) (run_reach (next B) out j b m m1 q ∙ d)

  again : (n n' m m' : Active) → next A n ≡ On n' → next B m ≡ On m' → NeverFails (λ k. run (next A) out k n) → (NeverFails (λ k. run (next A) out k n') → Tied n' m') → MeetsHere n m
  again n n' m m' e d safe tie = Again 0 0 n' m' (n', e, refl) (m', d, refl) (tie (safe_after (next A) out 1 n n' (n', e, refl) safe))

  ended : (n m : Active) (o : Outcome) → next A n ≡ Over o → next B m ≡ Over o → IsOver o → MeetsHere n m
  ended n m o e d v = Ended 1 1 o v (ap (step_then (run (next A) out 0)) e) (ap (step_then (run (next B) out 0)) d)

  failed : (n m : Active) (xs : List ℕ) → next A n ≡ Over (Outcome.Wrong xs) → NeverFails (λ k. run (next A) out k n) → MeetsHere n m
  failed n m xs e safe = absurd (safe 1 (subst IsFailure (sym (ap (step_then (run (next A) out 0)) e)) tt))

  -- the result stored, both states still agree
  result_agrees : (Lives : ℕ → Type 0) (result : Option ℕ) (r : ℤ) (vs us : ℕ → Content) → ((v : ℕ) (n : ℤ) → Lives v × not_the_result result v → vs v ≡ Some n → us v ≡ Some n) → (v : ℕ) (n : ℤ) → Lives v → with_result vs result r v ≡ Some n → with_result us result r v ≡ Some n
  result_agrees Lives None r vs us h v n l e = h v n (l, tt) e
  result_agrees Lives (Some q) r vs us h v n l e = by (v == q) refl e
    where
      by : (b : Bool) → (v == q) ≡ b → (if b then Some r else vs v) ≡ Some n → (if b then Some r else us v) ≡ Some n
      by true d e = e
      by false d e = h v n (l, λ (x : v ≡ q). let t = sym (eq-eqb v q x) ∙ d in absurd (cc)) e

  abbrev after_return : Option ℕ → ℕ → ℤ → (ℕ → Content) → State → State
  after_return result base r vs s = record s { values = with_result vs result r; arrays = take base s.arrays }

  abbrev state_of : (ℕ → Content) → List (List Content) → List ℤ → List ℕ → State
  state_of vs arrays input out = record { values = vs; arrays = arrays; input = input; out = out }

  same_state : (vs us : ℕ → Content) (a b : List (List Content)) (i j : List ℤ) (o p : List ℕ) → us ≡ vs → b ≡ a → j ≡ i → p ≡ o → state_of us b j p ≡ state_of vs a i o
  same_state vs us a b i j o p e1 e2 e3 e4 = ap (λ x. state_of x b j p) e1 ∙ ap (λ x. state_of vs x j p) e2 ∙ ap (λ x. state_of vs a x p) e3 ∙ ap (λ x. state_of vs a i x) e4

  resumed : (o o' : Option MixedGraph) (l : Both latency o o') (result result' : Option ℕ) (b : ℕ) (vs : ℕ → Content) (b' : ℕ) (us : ℕ → Content) (base base' : ℕ) (r : ℤ) (s t : State) →
      result' ≡ result → base' ≡ base → RestIn latency o o' l result b vs b' us → SameWorld s t → NearIn latency o o' l b (after_return result base r vs s) b' (after_return result' base' r us t)
  resumed None None l result result' b vs b' us base base' r s t e1 e2 rest w = absurd rest
  resumed None (Some m') l result result' b vs b' us base base' r s t e1 e2 rest w = absurd rest
  resumed (Some m) None l result result' b vs b' us base base' r s t e1 e2 rest w = absurd rest
  resumed (Some m) (Some m') (Remains e) result result' b vs b' us base base' r s t e1 e2 rest w =
      (rest.0, same_state (with_result vs result r) (with_result us result' r) (take base s.arrays) (take base' t.arrays) s.input t.input s.out t.out (ap (λ q. with_result us q r) e1 ∙ ap (λ z. with_result z result r) rest.1) (ap (λ q. take q t.arrays) e2 ∙ ap (take base) w.arrays) w.input w.out)
  resumed (Some m) (Some m') (Changes ps ars meet meet' pairs c) result result' b vs b' us base base' r s t e1 e2 rest w = (
    rest.0,
    record {
      world = record { arrays = ap (λ q. take q t.arrays) e2 ∙ ap (take base) w.arrays; input = w.input; out = w.out };
      values = λ v n l e. subst (λ q. with_result us q r v ≡ Some n) (sym e1) (result_agrees (Live m b) result r vs us rest.1 v n l e);
    },
  )

  return_step : (n m : Active) (ws us : List Frame) (r : ℤ) (s t : State) → TiedStack n.base ws us → m.base ≡ n.base → n.base ≤ length s.arrays → next A n ≡ returned r s n.base ws → next B m ≡ returned r t m.base us → SameWorld s t → NeverFails (λ k. run (next A) out k n) → MeetsHere n m
  return_step n m [] [] r s t ties eb hi e d w safe = ended n m (EndsWith r s.out) e (d ∙ ap (λ o. Over (EndsWith r o)) w.out) tt
  return_step n m [] (u ∷ us) r s t ties eb hi e d w safe = absurd ties
  return_step n m (x ∷ ws) [] r s t ties eb hi e d w safe = absurd ties
  return_step n m (x ∷ ws) (u ∷ us) r s t ties eb hi e d w safe =
      let y = ties.0 in
      again n _ m _ e d safe (λ later. record {
        function = y.function;
        passed = y.passed;
        base = y.base;
        near = resumed (slice_get ms x.function) (slice_get ns x.function) (each x.function) x.result u.result x.next x.values u.next u.values n.base m.base r s t y.result eb y.rest w;
        world = record { arrays = ap (λ q. take q t.arrays) eb ∙ ap (take n.base) w.arrays; input = w.input; out = w.out };
        stack = ties.4;
        low = ties.1;
        far = ties.3;
        high = let l = length_take n.base s.arrays hi in let a = ties.2 in omega arith;
        safe = later;
      })

  arrays_same : (o o' : Option MixedGraph) → Both latency o o' → (m m' : MixedGraph) → o ≡ Some m → o' ≡ Some m' → m'.arrays ≡ m.arrays
  arrays_same (Some x) (Some x') (Remains e) m m' p q = let a : x ≡ m = cc in let b : x' ≡ m' = cc in ap (λ (z : MixedGraph). z.arrays) (sym b ∙ e ∙ a)
  arrays_same (Some x) (Some x') (Changes ps ars meet meet' pairs c) m m' p q = let a : x ≡ m = cc in let b : x' ≡ m' = cc in ap (λ (z : MixedGraph). z.arrays) (sym b) ∙ ars ∙ ap (λ (z : MixedGraph). z.arrays) a
  arrays_same None o' l m m' p q = absurd (cc)
  arrays_same (Some x) None l m m' p q = absurd l

  abbrev entry : MixedGraph → List ℤ → State → State
  entry m args s = entered (body_of Globals times latency m) args s

  abbrev own : MixedGraph → List (List Content)
  own m = map undefined (words_in (drop Globals m.arrays))

  entry_world : (m m' : MixedGraph) (args : List ℤ) (s t : State) → m'.arrays ≡ m.arrays → SameWorld s t → SameWorld (entry m args s) (entry m' args t)
  entry_world m m' args s t e w = record {
    arrays = ap (λ a. a ++ own m') w.arrays ∙ ap (λ x. s.arrays ++ map undefined (words_in (drop Globals x))) e;
    input = w.input;
    out = w.out;
  }

  entry_near : (m m' : MixedGraph) (l : Becomes latency m m') (args : List ℤ) (s t : State) → SameWorld s t → NearIn latency (Some m) (Some m') l 0 (entry m args s) 0 (entry m' args t) × SameWorld (entry m args s) (entry m' args t)
  entry_near m m' (Remains e) args s t w =
      let world = entry_world m m' args s t (ap (λ (x : MixedGraph). x.arrays) e) w in
      ((refl, same_state (at_entry m.parameters args) (at_entry m'.parameters args) (s.arrays ++ own m) (t.arrays ++ own m') s.input t.input s.out t.out (ap (λ (x : MixedGraph). at_entry x.parameters args) e) world.arrays w.input w.out), world)
  entry_near m m' (Changes ps ars meet meet' pairs c) args s t w =
      let world = entry_world m m' args s t ars w in
      ((c.start, record { world = world; values = λ v n l e. subst (λ x. at_entry x args v ≡ Some n) (sym ps) e }), world)

  -- the function that is called is entered
  enter_step : (n m : Active) (g : ℕ) (o o' : Option MixedGraph) (l : Both latency o o') (args : List ℤ) (w u : Frame) (s t : State) → slice_get ms g ≡ o →
      ((s' t' : State) → NearIn latency o o' l 0 s' 0 t' → NearIn latency (slice_get ms g) (slice_get ns g) (each g) 0 s' 0 t') →
      TiedStack (length s.arrays) (w ∷ n.waiting) (u ∷ m.waiting) → Globals ≤ length s.arrays → NeverFails (λ k. run (next A) out k n) → SameWorld s t →
      next A n ≡ enters g (option_map (body_of Globals times latency) o) args s (w ∷ n.waiting) → next B m ≡ enters g (option_map (body_of Globals times latency) o') args t (u ∷ m.waiting) → MeetsHere n m
  enter_step n m g None None l args w u s t is near st lo safe world e d = failed n m s.out e safe
  enter_step n m g None (Some m') l args w u s t is near st lo safe world e d = absurd l
  enter_step n m g (Some m1) None l args w u s t is near st lo safe world e d = absurd l
  enter_step n m g (Some m1) (Some m') l args w u s t is near st lo safe world e d = by (spots_for (body m1) args s) refl e (d ∙ ap (enters_with g (body m') args t (u ∷ m.waiting)) spots_same)
    where
      body : MixedGraph → Option Body
      body x = Some (body_of Globals times latency x)

      spots_same : spots_for (body m') args t ≡ spots_for (body m1) args s
      spots_same = λ i. spots_held (length (world.arrays i)) (at_entry (parameters_stay latency m1 m' l i) args) (bases_in (drop Globals (arrays_stay latency m1 m' l i)))

      by : (spots : Option (List (Option ℕ))) → spots_for (body m1) args s ≡ spots → next A n ≡ enters_with g (body m1) args s (w ∷ n.waiting) spots → next B m ≡ enters_with g (body m') args t (u ∷ m.waiting) spots → MeetsHere n m
      by None q a b = failed n m s.out a safe
      by (Some passed) q a b =
          let start = entry_near m1 m' l args s t world in
          again n _ m _ a b safe (λ later. record {
            function = refl;
            passed = refl;
            base = ap length world.arrays;
            near = near (entry m1 args s) (entry m' args t) start.0;
            world = start.1;
            stack = st;
            low = lo;
            far = subst (λ o. FarIn o passed (length s.arrays)) (sym is) (entered_apart Globals (length s.arrays) m1.arrays (at_entry m1.parameters args) passed (first_ones g m1 is) lo q);
            high = length_both s.arrays (own m1);
            safe = later;
          })

  -- a call of one function too many traps in both
  call_step : (deep deep' : Bool) (n m : Active) (g : ℕ) (args : List ℤ) (w u : Frame) (s t : State) → deep' ≡ deep →
      TiedStack (length s.arrays) (w ∷ n.waiting) (u ∷ m.waiting) → Globals ≤ length s.arrays → NeverFails (λ k. run (next A) out k n) → SameWorld s t →
      next A n ≡ (if deep then Over (Traps Depth s.out) else enters g (A.body g) args s (w ∷ n.waiting)) → next B m ≡ (if deep' then Over (Traps Depth t.out) else enters g (B.body g) args t (u ∷ m.waiting)) → MeetsHere n m
  call_step true deep' n m g args w u s t q st lo safe world e d = ended n m (Traps Depth s.out) e (d ∙ ap (λ z. if z then Over (Traps Depth t.out) else enters g (B.body g) args t (u ∷ m.waiting)) q ∙ ap (λ o. Over (Traps Depth o)) world.out) tt
  call_step false deep' n m g args w u s t q st lo safe world e d =
      enter_step n m g (slice_get ms g) (slice_get ns g) (each g) args w u s t refl (λ s' t' x. x) st lo safe world e (d ∙ ap (λ z. if z then Over (Traps Depth t.out) else enters g (B.body g) args t (u ∷ m.waiting)) q)

  -- the last hop of a segment; behind it there are k arrays
  last_step : (n m : Active) → m.function ≡ n.function → m.passed ≡ n.passed → m.base ≡ n.base → TiedStack n.base n.waiting m.waiting → Globals ≤ n.base → FarIn (slice_get ms n.function) n.passed n.base → NeverFails (λ j. run (next A) out j n) → (xs : List ℕ) (k : ℕ) → n.base ≤ k → (h h' : Hop) → HopGood xs k h → next A n ≡ after_hop A n h → next B m ≡ after_hop B m h' →
      Exits (NearIn latency (slice_get ms n.function) (slice_get ns n.function) (each n.function)) (RestIn latency (slice_get ms n.function) (slice_get ns n.function) (each n.function)) h h' → MeetsHere n m
  last_step n m ef el eb st lo far safe xs k hi h h' good e d (ByEdge near w) =
      again n _ m _ e d safe (λ later. record { function = ef; passed = el; base = eb; near = near; world = w; stack = st; low = lo; far = far; high = let g = good.1 in omega arith; safe = later })
  last_step n m ef el eb st lo far safe xs k hi h h' good e d (ByCall {g = g} {from = from} {from' = from'} {c = c} {c' = c'} {args = args} {result = result} {s = s} {t = t} rest w) =
      let len : length m.waiting ≡ length n.waiting = same_length n.base n.waiting m.waiting st in
      let more = good.1 in
      call_step (nat_le deepest (length n.waiting + 1)) (nat_le deepest (length m.waiting + 1)) n m g args (waits n result from c s) (waits m result from' c' t) s t (ap (λ x. nat_le deepest (x + 1)) len)
      (record { function = ef; passed = el; base = eb; result = refl; rest = rest }, lo, omega arith, far, st)
      (omega arith) safe w e d
  last_step n m ef el eb st lo far safe xs k hi h h' good e d (ByReturn {r = r} {s = s} {t = t} w) = return_step n m n.waiting m.waiting r s t st eb (let g = good.1 in omega arith) e d w safe
  last_step n m ef el eb st lo far safe xs k hi h h' good e d (ByTrap {k = q} {s = s} w) = ended n m (Traps q s.out) e (d ∙ ap (λ o. Over (Traps q o)) w.out) tt
  last_step n m ef el eb st lo far safe xs k hi h h' good e d IsWrong = failed n m n.state.out e safe

  record Ran (n m : Active) (N : ℕ → State → ℕ → State → Type 0) (R : Option ℕ → ℕ → (ℕ → Content) → ℕ → (ℕ → Content) → Type 0) : Type 0 where
    count : ℕ
    count' : ℕ
    place : ℕ
    place' : ℕ
    state : State
    state' : State
    way : Hop
    way' : Hop
    xs : List ℕ
    reach : Reach (next A) count n (moved flow times latency ms n place state)
    reach' : Reach (next B) count' m (moved flow times latency ns m place' state')
    good : HopGood xs (length n.state.arrays) way
    ends : next A (moved flow times latency ms n place state) ≡ after_hop A (moved flow times latency ms n place state) way
    ends' : next B (moved flow times latency ns m place' state') ≡ after_hop B (moved flow times latency ns m place' state') way'
    exits : Exits N R way way'

  same_hop : (f f' : MixedGraph) (passed passed' : List (Option ℕ)) (base base' b b' : ℕ) (s t : State) → f' ≡ f → passed' ≡ passed → base' ≡ base → b' ≡ b → t ≡ s → hop (setting_with B passed' base') times latency f' b' t ≡ hop (setting_with A passed base) times latency f b s
  same_hop f f' passed passed' base base' b b' s t e1 e2 e3 e4 e5 =
      ap (λ x. hop (setting_with B passed' base') times latency x b' t) e1 ∙ ap (λ x. hop (setting_with B x base') times latency f b' t) e2 ∙ ap (λ x. hop (setting_with B passed x) times latency f b' t) e3
      ∙ ap (λ x. hop (setting_with A passed base) times latency f x t) e4 ∙ ap (hop (setting_with A passed base) times latency f b) e5

  abbrev at_a : Active → Option MixedGraph → Hop
  at_a r o = body_hop A r (option_map (body_of Globals times latency) o)

  abbrev at_b : Active → Option MixedGraph → Hop
  at_b r o = body_hop B r (option_map (body_of Globals times latency) o)

  ran : (n m : Active) (o o' : Option MixedGraph) (l : Both latency o o') → m.function ≡ n.function → m.passed ≡ n.passed → m.base ≡ n.base → FarIn o n.passed n.base → slice_get ms n.function ≡ o → slice_get ns n.function ≡ o' → NearIn latency o o' l n.block n.state m.block m.state → Ran n m (NearIn latency o o' l) (RestIn latency o o' l)
  ran n m None None l ef el eb far e e' near = record {
    count = 0;
    count' = 0;
    place = n.block;
    place' = m.block;
    state = n.state;
    state' = m.state;
    way = Wrong;
    way' = at_b m (slice_get ns m.function);
    xs = [];
    reach = refl;
    reach' = refl;
    good = tt;
    ends = ap (λ x. after_hop A n (at_a n x)) e;
    ends' = refl;
    exits = IsWrong;
  }
  ran n m None (Some f') l ef el eb far e e' near = absurd l
  ran n m (Some f) None l ef el eb far e e' near = absurd l
  ran n m (Some f) (Some f') (Remains same) ef el eb far e e' near =
      let h = hop (setting_with A n.passed n.base) times latency f n.block n.state in
      record {
        count = 0;
        count' = 0;
        place = n.block;
        place' = m.block;
        state = n.state;
        state' = m.state;
        way = h;
        way' = h;
        xs = n.state.out;
        reach = refl;
        reach' = refl;
        good = hop_good (setting_with A n.passed n.base) times latency f n.block n.state;
        ends = ap (λ x. after_hop A n (at_a n x)) e;
        ends' = ap (λ x. after_hop B m (at_b m x)) (ap (slice_get ns) ef ∙ e') ∙ ap (after_hop B m) (same_hop f f' n.passed m.passed n.base m.base n.block m.block n.state m.state same el eb near.0 near.1);
        exits = exits_remain latency f f' same h;
      }
  ran n m (Some f) (Some f') (Changes ps ars meet meet' pairs c) ef el eb far e e' near =
      let setting = setting_with A n.passed n.base in
      let old = c.ends setting times n.block m.block n.state near.0 in
      let a = inside flow times latency ms n f meet n.block n.state old.0 e old.1 in
      ⊎_elim
      (λ wrong. let w : Ran n m (NearIn latency (Some f) (Some f') (Changes ps ars meet meet' pairs c)) (RestIn latency (Some f) (Some f') (Changes ps ars meet meet' pairs c)) = record {
        count = a.count;
        count' = 0;
        place = a.place;
        place' = m.block;
        state = a.state;
        state' = m.state;
        way = Wrong;
        way' = at_b m (slice_get ns m.function);
        xs = [];
        reach = a.reach;
        reach' = refl;
        good = tt;
        ends = a.ends ∙ ap (after_hop A (moved flow times latency ms n a.place a.state)) wrong;
        ends' = refl;
        exits = IsWrong;
      } in w)
      (λ right.
      let new = c.leads setting times times n.block m.block n.state m.state old.0 far some some near.0 near.1 old.1 right in
      let b = inside flow times latency ns m f' meet' m.block m.state new.0 (ap (slice_get ns) ef ∙ e') (subst (λ x. Segment (hop (setting_with A m.passed x) times latency f') meet' m.block m.state new.0) (sym eb) (subst (λ x. Segment (hop (setting_with A x n.base) times latency f') meet' m.block m.state new.0) (sym el) new.1)) in
      record {
        count = a.count;
        count' = b.count;
        place = a.place;
        place' = b.place;
        state = a.state;
        state' = b.state;
        way = old.0;
        way' = new.0;
        xs = a.out;
        reach = a.reach;
        reach' = b.reach;
        good = a.good;
        ends = a.ends;
        ends' = b.ends;
        exits = exits_change latency f f' ps ars meet meet' pairs c old.0 new.0 new.2;
      })
      (wrong_or old.0)

  meets : (n m : Active) → Tied n m → MeetsHere n m
  meets n m t =
      let r = ran n m (slice_get ms n.function) (slice_get ns n.function) (each n.function) t.function t.passed t.base t.far refl refl t.near in
      let n' = moved flow times latency ms n r.place r.state in
      let m' = moved flow times latency ns m r.place' r.state' in
      let safe = safe_after (next A) out r.count n n' r.reach t.safe in
      meets_after r.count r.count' n n' m m' r.reach r.reach'
      (last_step n' m' t.function t.passed t.base t.stack t.low t.far safe r.xs (length n.state.arrays) t.high r.way r.way' r.good r.ends r.ends' r.exits)

  -- main, ars it is begun
  abbrev first : Option MixedGraph → State → State
  first o s = entered_or (option_map (body_of Globals times latency) o) s

  record Begun (o o' : Option MixedGraph) (l : Both latency o o') (s : State) : Type 0 where
    near : NearIn latency o o' l 0 (first o s) 0 (first o' s)
    world : SameWorld (first o s) (first o' s)
    high : length s.arrays ≤ length (first o s).arrays

  begun : (o o' : Option MixedGraph) (l : Both latency o o') (s : State) → Begun o o' l s
  begun None None l s = record { near = same_world s; world = same_world s; high = omega arith }
  begun None (Some m') l s = absurd l
  begun (Some m) None l s = absurd l
  begun (Some m) (Some m') l s = let start = entry_near m m' l [] s s (same_world s) in record { near = start.0; world = start.1; high = length_both s.arrays (own m) }

  pub same_runs : (input : List ℤ) → SameRuns flow times latency ms ns input
  same_runs input safe =
      let s = globals_at_start flow input in
      let b = begun (slice_get ms flow.main) (slice_get ns flow.main) (each flow.main) s in
      let low : Globals ≤ length s.arrays = let l = length_mapped words_at_start flow.globals in omega arith in
      let tie : Tied (at_start A flow.main s) (at_start B flow.main s) = record {
        function = refl;
        passed = refl;
        base = refl;
        near = b.near;
        world = b.world;
        stack = tt;
        low = low;
        far = far_all (slice_get ms flow.main) (length s.arrays) low;
        high = b.high;
        safe = safe;
      } in
      same_from_meeting (next A) out (next B) out Tied (grows flow times latency ms) (grows flow times latency ns) meets (λ n m t. sym t.world.out) (at_start A flow.main s) (at_start B flow.main s) tie

pub in_context : InContext
in_context flow times latency ms ns input some first each = same_runs flow times latency some ms ns first each input
