-- The blocks of a path one after another are the trace in trace order.
use Rattle.std.proofs.Common.{◌≡◌, ℕ, zero, suc, ◌<◌, ℤ, Bool, true, false, Option, Some, None, List, [], ◌∷◌, ◌++◌, length, refl, sym, ap, ◌∙◌, subst, ⊎_elim, inl, inr, arith, map}
use Rattle.std.specs.Prelude.{◌⊎◌, slice_get, cond, not, if◌then◌else◌}
use Rattle.vx_flow.specs.Effects.{Content, State, Setting, IsIn, is_one, without_meaning, effect, held, cell_in, row_of, loaded, dismissed, state_or}
use Rattle.vx_flow.specs.declared.graph.Op.{Op}
use Rattle.vx_flow.specs.declared.graph.Op.TheVariants.{Load}
use Rattle.vx_flow.specs.declared.graph.Exit.{Exit}
use Rattle.vx_flow.specs.declared.graph.Exit.TheVariants.{Goto, Split as Branch, Call, Return, Ends}
use Rattle.vx_mixed.specs.declared.region.Item.{Item}
use Rattle.vx_mixed.specs.declared.region.Item.TheVariants.{Plain, Split}
use Rattle.vx_mixed.specs.declared.region.Node.TheVariants.{Unused}
use Rattle.vx_mixed.specs.declared.mixed.MixedGraph.{MixedGraph}
use Rattle.vx_flow.specs.Meaning.{Hop, Arrives, Wrong, leave, by_test, calls, leaves, and_then, block_hop, known}
use Rattle.vx_mixed.specs.Meaning.{into, node_hop, timed_from_start, hop, leaves_on, picked}
use Rattle.vx_mixed.specs.Agree.{Segment, last, on, EndsAt}
use Rattle.vx_motion.specs.Items.{calm}
use Rattle.vx_motion.specs.Trace.{nth, order}
use Rattle.vx_mixed.specs.Path.{trace_hop, Path, ends, jumps, on_yes, on_no}
use Rattle.vx_flow.specs.Sound.{targets_of}
use Rattle.vx_flow.specs.Walk.{edge}
use Rattle.vx_mixed.specs.Live.{plain}
use Rattle.vx_mixed.proofs.Contents.{none_is}
use Rattle.vx_motion.proofs.Passing.{Passes, LeavesBy, LeavesAt, RunsOut}

abbrev run_ops : Setting → List Op → State → Option State
run_ops setting [] s = Some s
run_ops setting (op ∷ ops) s = into (effect setting s op s) (run_ops setting ops)

block_is : (setting : Setting) (b : ℕ) (ops : List Op) (x : Exit) (s : State) → block_hop setting b ops x s ≡ and_then (run_ops setting ops s) (leave b x)
block_is setting b [] x s = refl
block_is setting b (op ∷ ops) x s = by (effect setting s op s) (λ t. block_is setting b ops x t)
  where
    by : (o : Option State) → ((t : State) → block_hop setting b ops x t ≡ and_then (run_ops setting ops t) (leave b x)) → and_then o (block_hop setting b ops x) ≡ and_then (into o (run_ops setting ops)) (leave b x)
    by None h = refl
    by (Some t) h = h t

trace_is : (setting : Setting) (ops : List Op) (is : List Item) (l : ℕ) (x : Exit) (s : State) → trace_hop setting (map plain ops ++ is) l x s ≡ and_then (run_ops setting ops s) (trace_hop setting is l x)
trace_is setting [] is l x s = refl
trace_is setting (op ∷ ops) is l x s = by (effect setting s op s) (λ t. trace_is setting ops is l x t)
  where
    by : (o : Option State) → ((t : State) → trace_hop setting (map plain ops ++ is) l x t ≡ and_then (run_ops setting ops t) (trace_hop setting is l x)) → and_then o (trace_hop setting (map plain ops ++ is) l x) ≡ and_then (into o (run_ops setting ops)) (trace_hop setting is l x)
    by None h = refl
    by (Some t) h = h t

append_nil : (is : List Item) → is ++ [] ≡ is
append_nil [] = refl
append_nil (i ∷ is) = ap (λ z. i ∷ z) (append_nil is)

module _ (setting : Setting) (times : List ℕ) (latency : Op → ℕ) (m : MixedGraph) (meet : ℕ → ℕ → Bool) where
  abbrev pub H : ℕ → State → Hop
  H = hop setting times latency m

  hop_is : (b : ℕ) (s : State) (ops : List Op) (x : Exit) → slice_get m.nodes b ≡ Some (Unused (record { ops = ops; exit = x })) → H b s ≡ and_then (run_ops setting ops s) (leave b x)
  hop_is b s ops x e = ap (λ n. node_hop setting (timed_from_start setting times latency) m b n s) e ∙ block_is setting b ops x s

  -- where the edge to c is an inner one, the run goes on there
  goes_on : (b c : ℕ) (s t : State) (h : Hop) → H b s ≡ Arrives b c t → meet b c ≡ false → Segment H meet b s h → Segment H meet c t h
  goes_on b c s t h e inner (last r end) = absurd (let g : meet b c ≡ true = subst (EndsAt meet) (sym r ∙ e) end in cc)
  goes_on b c s t h e inner (on {from = p} {to = q} {t = u} r n rest) =
      let g : Arrives p q u ≡ Arrives b c t = sym r ∙ e in
      let eq : q ≡ c = cc in
      let eu : u ≡ t = cc in
      subst (λ z. Segment H meet c z h) eu (subst (λ z. Segment H meet z u h) eq rest)

  -- a hop that does not arrive by an inner edge is the whole
  pub is_whole : (b : ℕ) (s : State) (g h : Hop) → H b s ≡ g → ((p q : ℕ) (t : State) → g ≡ Arrives p q t → meet p q ≡ false → ⊥) → Segment H meet b s h → g ≡ h
  is_whole b s g h e never (last r end) = sym e ∙ r
  is_whole b s g h e never (on {from = p} {to = q} {t = u} r n rest) = absurd (never p q u (sym e ∙ r) n)

  -- an exit whose edges all meet
  no_inner : (b : ℕ) (x : Exit) (t : State) → ((c : ℕ) → IsIn c (targets_of x) → meet b c ≡ true) → (p q : ℕ) (u : State) → leave b x t ≡ Arrives p q u → meet p q ≡ false → ⊥
  no_inner b (Goto c) t all p q u e n = let ep : p ≡ b = cc in let eq : q ≡ c = cc in let g = all c (inl refl) in let f : meet b c ≡ false = subst (λ z. meet b z ≡ false) eq (subst (λ z. meet z q ≡ false) ep n) in cc
  no_inner b (Branch r c d) t all p q u e n = by (t.values r) e
    where
      to : (z : ℕ) → meet b z ≡ true → Arrives b z t ≡ Arrives p q u → ⊥
      to z g f = let ep : p ≡ b = cc in let eq : q ≡ z = cc in let k : meet b z ≡ false = subst (λ z. meet b z ≡ false) eq (subst (λ z. meet z q ≡ false) ep n) in cc

      way : (one : Bool) → (if one then Arrives b c t else Arrives b d t) ≡ Arrives p q u → ⊥
      way true f = to c (all c (inl refl)) f
      way false f = to d (all d (inr (inl refl))) f

      by : (v : Content) → by_test v (Arrives b c t) (Arrives b d t) ≡ Arrives p q u → ⊥
      by None f = cc
      by (Some z) f = way (is_one z) f
  no_inner b (Call g args result next) t all p q u e n = by (known (map (held t) args)) e
    where
      by : (o : Option (List ℤ)) → calls g o result b next t ≡ Arrives p q u → ⊥
      by None f = cc
      by (Some ns) f = cc
  no_inner b (Return y) t all p q u e n = by (held t y) e
    where
      by : (o : Content) → leaves o t ≡ Arrives p q u → ⊥
      by None f = cc
      by (Some ns) f = cc
  no_inner b (Ends k) t all p q u e n = cc

  -- the three kinds of exit inside
  pub path_hop : {b l : ℕ} {is : List Item} {x : Exit} → Path m meet b is l x → (s : State) (h : Hop) → Segment H meet b s h → trace_hop setting is l x s ≡ h
  path_hop {b} {l} {is} {x} (ends ops e i eb all) s h seg =
      ap (λ z. trace_hop setting z l x s) (i ∙ sym (append_nil (map plain ops))) ∙ trace_is setting ops [] l x s ∙ ap (λ z. and_then (run_ops setting ops s) (leave z x)) eb
      ∙ by (run_ops setting ops s) (hop_is b s ops x e)
    where
      by : (o : Option State) → H b s ≡ and_then o (leave b x) → and_then o (leave b x) ≡ h
      by None f = is_whole b s Wrong h f (λ p q t g n. cc) seg
      by (Some t) f = is_whole b s (leave b x t) h f (no_inner b x t all) seg
  path_hop {b} {l} {is} {x} (jumps c ops rest e inner i path) s h seg =
      ap (λ z. trace_hop setting z l x s) i ∙ trace_is setting ops rest l x s ∙ by (run_ops setting ops s) (hop_is b s ops (Goto c) e) (λ t f. path_hop path t h (goes_on b c s t h f inner seg))
    where
      by : (o : Option State) → H b s ≡ and_then o (leave b (Goto c)) → ((t : State) → H b s ≡ Arrives b c t → trace_hop setting rest l x t ≡ h) → and_then o (trace_hop setting rest l x) ≡ h
      by None f go = is_whole b s Wrong h f (λ p q t g n. cc) seg
      by (Some t) f go = go t f
  path_hop {b} {l} {is} {x} (on_yes p c d ops rest e inner out i path) s h seg =
      ap (λ z. trace_hop setting z l x s) i ∙ trace_is setting ops (Split p false (edge b d) 0 ∷ rest) l x s ∙ by (run_ops setting ops s) (hop_is b s ops (Branch p c d) e) (λ t f. path_hop path t h (goes_on b c s t h f inner seg))
    where
      at_bool : (t : State) (one : Bool) → H b s ≡ (if one then Arrives b c t else Arrives b d t) → (H b s ≡ Arrives b c t → trace_hop setting rest l x t ≡ h) → picked (Some (cond one false (not false))) Wrong (Arrives b d t) (trace_hop setting rest l x t) ≡ h
      at_bool t true f go = go f
      at_bool t false f go = is_whole b s (Arrives b d t) h f (λ p q u g n. let ep : p ≡ b = cc in let eq : q ≡ d = cc in let k : meet b d ≡ false = subst (λ z. meet b z ≡ false) eq (subst (λ z. meet z q ≡ false) ep n) in cc) seg

      at_test : (t : State) (v : Content) → H b s ≡ by_test v (Arrives b c t) (Arrives b d t) → (H b s ≡ Arrives b c t → trace_hop setting rest l x t ≡ h) → picked (leaves_on v false) Wrong (Arrives b d t) (trace_hop setting rest l x t) ≡ h
      at_test t None f go = is_whole b s Wrong h f (λ p q t g n. cc) seg
      at_test t (Some z) f go = at_bool t (is_one z) f go

      by : (o : Option State) → H b s ≡ and_then o (leave b (Branch p c d)) → ((t : State) → H b s ≡ Arrives b c t → trace_hop setting rest l x t ≡ h) → and_then o (trace_hop setting (Split p false (edge b d) 0 ∷ rest) l x) ≡ h
      by None f go = is_whole b s Wrong h f (λ p q t g n. cc) seg
      by (Some t) f go = at_test t (t.values p) f (go t)
  path_hop {b} {l} {is} {x} (on_no p c d ops rest e inner out i path) s h seg =
      ap (λ z. trace_hop setting z l x s) i ∙ trace_is setting ops (Split p true (edge b c) 0 ∷ rest) l x s ∙ by (run_ops setting ops s) (hop_is b s ops (Branch p c d) e) (λ t f. path_hop path t h (goes_on b d s t h f inner seg))
    where
      at_bool : (t : State) (one : Bool) → H b s ≡ (if one then Arrives b c t else Arrives b d t) → (H b s ≡ Arrives b d t → trace_hop setting rest l x t ≡ h) → picked (Some (cond one true (not true))) Wrong (Arrives b c t) (trace_hop setting rest l x t) ≡ h
      at_bool t true f go = is_whole b s (Arrives b c t) h f (λ p q u g n. let ep : p ≡ b = cc in let eq : q ≡ c = cc in let k : meet b c ≡ false = subst (λ z. meet b z ≡ false) eq (subst (λ z. meet z q ≡ false) ep n) in cc) seg
      at_bool t false f go = go f

      at_test : (t : State) (v : Content) → H b s ≡ by_test v (Arrives b c t) (Arrives b d t) → (H b s ≡ Arrives b d t → trace_hop setting rest l x t ≡ h) → picked (leaves_on v true) Wrong (Arrives b c t) (trace_hop setting rest l x t) ≡ h
      at_test t None f go = is_whole b s Wrong h f (λ p q t g n. cc) seg
      at_test t (Some z) f go = at_bool t (is_one z) f go

      by : (o : Option State) → H b s ≡ and_then o (leave b (Branch p c d)) → ((t : State) → H b s ≡ Arrives b d t → trace_hop setting rest l x t ≡ h) → and_then o (trace_hop setting (Split p true (edge b c) 0 ∷ rest) l x) ≡ h
      by None f go = is_whole b s Wrong h f (λ p q t g n. cc) seg
      by (Some t) f go = at_test t (t.values p) f (go t)

-- an operation that is not wrong does what it does calmly
free_effect : (setting : Setting) (s t : State) (op : Op) → effect setting s op s ≡ Some t → effect setting s (dismissed op) s ≡ Some t
free_effect setting s t (Load v a p d) e = by (cell_in (length (row_of s (setting.spot a))) (held s p)) d e
  where
    by : (o : Option ℕ) (d : Bool) → loaded s v (row_of s (setting.spot a)) o d ≡ Some t → loaded s v (row_of s (setting.spot a)) o true ≡ Some t
    by None true f = f
    by None false f = none_is f
    by (Some i) d f = f
free_effect setting s t op e = e

-- where the trace leaves: not at all, by its first split that leaves, or at its end
pub how_it_ends : (setting : Setting) (is : List Item) (l : ℕ) (x : Exit) (s : State) (h : Hop) → trace_hop setting is l x s ≡ h → (h ≡ Wrong) ⊎ (((e : ℕ) × LeavesAt setting is s h e) ⊎ RunsOut setting is s h l x)
how_it_ends setting [] l x s h f = inr (inr (record { passes = λ k lt. absurd (omega arith); leaves = sym f }))
how_it_ends setting (Plain op cluster ∷ is) l x s h f = by (effect setting s op s) refl f (λ t g. how_it_ends setting is l x t h g)
  where
    pass : (t : State) → effect setting s op s ≡ Some t → (e : ℕ) → ((k : ℕ) → k < e → Passes setting (order setting is t k) (nth is k)) → (k : ℕ) → k < suc e → Passes setting (order setting (Plain op cluster ∷ is) s k) (nth (Plain op cluster ∷ is) k)
    pass t q e more zero lt = (t, q)
    pass t q e more (suc k) lt = subst (λ z. Passes setting (order setting is z k) (nth is k)) (sym (ap (state_or (without_meaning op s)) (free_effect setting s t op q))) (more k (omega arith))

    by : (o : Option State) → effect setting s op s ≡ o → and_then o (trace_hop setting is l x) ≡ h → ((t : State) → trace_hop setting is l x t ≡ h → (h ≡ Wrong) ⊎ (((e : ℕ) × LeavesAt setting is t h e) ⊎ RunsOut setting is t h l x)) → (h ≡ Wrong) ⊎ (((e : ℕ) × LeavesAt setting (Plain op cluster ∷ is) s h e) ⊎ RunsOut setting (Plain op cluster ∷ is) s h l x)
    by None q g go = inl (sym g)
    by (Some t) q g go =
        let same : t ≡ calm setting s (Plain op cluster) = sym (ap (state_or (without_meaning op s)) (free_effect setting s t op q)) in
        ⊎_elim
        (λ w. inl w)
        (λ r. inr (⊎_elim
        (λ a. inl (suc a.0, record { inside = let i = a.1.inside in omega arith; passes = pass t q a.0 a.1.passes; leaves = subst (λ z. LeavesBy (order setting is z a.0) (nth is a.0) h) same a.1.leaves }))
        (λ a. inr (record { passes = pass t q (length is) a.passes; leaves = a.leaves ∙ ap (λ z. leave l x (order setting is z (length is))) same }))
        r))
        (go t g)
how_it_ends setting (Split p y edge d ∷ is) l x s h f = by (leaves_on (s.values p) y) refl f (λ g. how_it_ends setting is l x s h g)
  where
    pass : leaves_on (s.values p) y ≡ Some false → (e : ℕ) → ((k : ℕ) → k < e → Passes setting (order setting is s k) (nth is k)) → (k : ℕ) → k < suc e → Passes setting (order setting (Split p y edge d ∷ is) s k) (nth (Split p y edge d ∷ is) k)
    pass q e more zero lt = q
    pass q e more (suc k) lt = more k (omega arith)

    by : (o : Option Bool) → leaves_on (s.values p) y ≡ o → picked o Wrong (Arrives edge.from edge.to s) (trace_hop setting is l x s) ≡ h → (trace_hop setting is l x s ≡ h → (h ≡ Wrong) ⊎ (((e : ℕ) × LeavesAt setting is s h e) ⊎ RunsOut setting is s h l x)) → (h ≡ Wrong) ⊎ (((e : ℕ) × LeavesAt setting (Split p y edge d ∷ is) s h e) ⊎ RunsOut setting (Split p y edge d ∷ is) s h l x)
    by None q g go = inl (sym g)
    by (Some true) q g go = inr (inl (0, record { inside = omega arith; passes = λ k lt. absurd (omega arith); leaves = (q, sym g) }))
    by (Some false) q g go =
        ⊎_elim
        (λ w. inl w)
        (λ r. inr (⊎_elim
        (λ a. inl (suc a.0, record { inside = let i = a.1.inside in omega arith; passes = pass q a.0 a.1.passes; leaves = a.1.leaves }))
        (λ a. inr (record { passes = pass q (length is) a.passes; leaves = a.leaves }))
        r))
        (go g)
