-- The items of a trace and those of the trace with copies leave alike.
use Rattle.std.proofs.Common.{◌≡◌, inl, inr, ⊎_elim, refl, sym, ◌∙◌, ap, subst, arith, eq-eqb, Bool, true, false, if◌then◌else◌, ℕ, zero, suc, ◌+◌, Option, Some, None, List, [], ◌∷◌, ◌++◌, length, map, take, drop}
use Rattle.std.proofs.lemmas.List.{append_assoc, map-append}
use Rattle.vx_flow.specs.declared.graph.Exit.{Exit}
use Rattle.vx_flow.specs.declared.graph.Exit.TheVariants.{Goto, Split as Branch, Call, Return, Ends}
use Rattle.vx_flow.specs.declared.graph.Op.{Op}
use Rattle.vx_flow.specs.declared.graph.Op.TheVariants.{Load, Input, Across}
use Rattle.vx_flow.specs.declared.trace.TraceOp.{TraceOp}
use Rattle.vx_flow.specs.declared.trace.TraceOp.TheVariants.{Plain, Split}
use Rattle.vx_flow.specs.declared.trace.Trace.{Trace}
use Rattle.vx_flow.specs.Effects.{Content, State, Setting, IsIn, row_of, cell_of, with_value, loaded, state_or, effect, calm_effect, writes}
use Rattle.vx_flow.specs.Agree.{SameWorld}
use Rattle.vx_flow.specs.Meaning.{Arrives, Wrong, and_then, leave}
use Rattle.vx_linear.specs.Followed.{is_join}
use Rattle.vx_linear.specs.InOrder.{in_order, IsEntrance}
use Rattle.vx_mixed.specs.declared.region.Item.{Item}
use Rattle.vx_mixed.specs.declared.mixed.MixedGraph.{MixedGraph}
use Rattle.vx_mixed.specs.Agree.{Alike}
use Rattle.vx_mixed.specs.Alive.{Alive, AtEnd}
use Rattle.vx_mixed.specs.Live.{Live}
use Rattle.vx_mixed.specs.Meaning.{is_same, leaves_on, picked}
use Rattle.vx_mixed.specs.Path.{trace_hop}
use Rattle.vx_mixed.specs.Way.{Renamed, goto, branch, call, return, stop, Clustered}
use Rattle.vx_mixed.specs.TraceItems.{plain_item, plain_items, item_of, items_of}
use Rattle.vx_mixed.proofs.LeaveAlike.{leave_alike}
use Rattle.vx_bug.specs.declared.served.Served.{Served}
use Rattle.vx_bug.specs.Copies.{Standing, across, copy_of, with_its_copies, served_behind, pieces_from, pieces_of, joined, with_copies}
use Rattle.vx_bug.specs.Laying.{standing, served_at}
use Rattle.vx_region.specs.Beside.{SameReadsOf, executes, tests, Off, Wanted, Tied, copied_from, CopiesFit}
use Rattle.vx_region.specs.Ways.{live_in, ClusteredLaw}
use Rattle.vx_region.proofs.Effects.{After, effects}
use Rattle.vx_region.proofs.Lists.{run_through}
use Rattle.vx_region.proofs.CopySteps.{Below, fewer, copying, copied_here, op_here, Stepped, stepped}
use Rattle.vx_region.proofs.Runs.{op_of, piece_is, fits_tail}
use Rattle.vx_region.proofs.Fresh.{nothing_new_at}

-- where an operation has a meaning, it is that of calm order

loaded_so : (s t : State) (v : ℕ) (row : List Content) (i : Option ℕ) (d : Bool) → loaded s v row i d ≡ Some t → state_or s (loaded s v row i true) ≡ t
loaded_so s t v row None true e = cc
loaded_so s t v row None false e = absurd cc
loaded_so s t v row (Some i) d e = cc

or_so : (u t : State) (o : Option State) → o ≡ Some t → state_or u o ≡ t
or_so u t o e = ap (state_or u) e

calm_is : (setting : Setting) (s t : State) (op : Op) → effect setting s op s ≡ Some t → calm_effect setting s op s ≡ t
calm_is setting s t (Load v a p d) e = loaded_so s t v (row_of s (setting.spot a)) (cell_of setting s a p) d e
calm_is setting s t (Input v) e = or_so (with_value s v None) t (effect setting s (Input v) s) e
calm_is setting s t op e = or_so s t (effect setting s op s) e

-- items

abbrev pub item_at : Standing → Item
item_at s = item_of s.op s.cluster

pub items_are : (xs : List Standing) → items_of (map op_of xs) (map (λ (s : Standing). s.cluster) xs) ≡ map item_at xs
items_are [] = refl
items_are (x ∷ xs) = ap (λ is. item_at x ∷ is) (items_are xs)

piece_items : (values : ℕ) (homes : ℕ → Option ℕ) (now : List Served) (op : TraceOp) (k : ℕ) (f : Option ℕ) (rest : List Standing) →
    map item_at (with_its_copies values homes now op k f ++ rest) ≡ map item_at (map (across values k) (copied_here homes now op k f)) ++ item_of (op_here values homes op k f) k ∷ map item_at rest
piece_items values homes now op k f rest =
    let xs : List Standing = map (across values k) (copied_here homes now op k f) in
    let y : Standing = standing (op_here values homes op k f) k f in
    ap (λ p. map item_at (p ++ rest)) (piece_is values homes now op k f) ∙ map-append item_at (xs ++ y ∷ []) rest
    ∙ ap (λ z. z ++ map item_at rest) (map-append item_at xs (y ∷ [])) ∙ append_assoc (map item_at xs) (item_at y ∷ []) (map item_at rest)

drop_items : (piece js rs : List Standing) → drop (length (piece ++ js)) (map item_at (piece ++ rs)) ≡ drop (length js) (map item_at rs)
drop_items [] js rs = refl
drop_items (x ∷ xs) js rs = drop_items xs js rs

pub items_from : (q : ℕ) (pieces : List (List Standing)) → drop (length (joined (take q pieces))) (map item_at (joined pieces)) ≡ map item_at (joined (drop q pieces))
items_from zero pieces = refl
items_from (suc q) [] = refl
items_from (suc q) (piece ∷ pieces) = drop_items piece (joined (take q pieces)) (joined pieces) ∙ items_from q pieces

-- hops

same_exit : (x : Exit) → Renamed is_same x x
same_exit (Goto c) = goto (eq-eqb c c refl)
same_exit (Branch p c d) = branch (eq-eqb c c refl) (eq-eqb d d refl)
same_exit (Call g args result next) = call (eq-eqb next next refl)
same_exit (Return x) = return
same_exit (Ends k) = stop

module _ (t : Trace) (homes : ℕ → Option ℕ) (setting : Setting) (old : MixedGraph) (b : ℕ) (exit : Exit) where
  abbrev Beyond : List TraceOp → ℕ → Type 0
  Beyond ops = Wanted (live_in old) (AtEnd old exit) ops

  copies_hop : (k : ℕ) (vs : List ℕ) (is : List Item) (s : State) → trace_hop setting (map item_at (map (across t.values k) vs) ++ is) b exit s ≡ trace_hop setting is b exit (run_through setting s (copying t.values k vs))
  copies_hop k [] is s = refl
  copies_hop k (v ∷ vs) is s = copies_hop k vs is (in_order setting s (Plain (Across (copy_of t.values v k) v)))

  end_hop : (s s' : State) → Tied t.values [] (AtEnd old exit) s s' → Alike old is_same (leave b exit s) (leave b exit s')
  end_hop s s' T = leave_alike old is_same b b exit exit (same_exit exit) s s' (record { arrays = T.world.arrays; input = T.world.input; out = T.world.out }) (λ v w n e. T.of_wanted v w ∙ e)

  op_hop : (op op' : TraceOp) (k : ℕ) (s s1 : State) (is is' : List Item) → SameReadsOf s s1 op op' → SameWorld s s1 → ((v : ℕ) → Off (live_in old) op v → s1.values v ≡ s.values v) →
      Alike old is_same (trace_hop setting is b exit (in_order setting s op)) (trace_hop setting is' b exit (in_order setting s1 op')) →
      Alike old is_same (trace_hop setting (plain_item op ∷ is) b exit s) (trace_hop setting (item_of op' k ∷ is') b exit s1)
  op_hop one other k s s1 is is' (executes {op} {op'} r) w live rest = by (effect setting s op s) refl (effect setting s1 op' s1) refl (effects setting s s1 op op' r w)
    where
      by : (o : Option State) → effect setting s op s ≡ o → (o' : Option State) → effect setting s1 op' s1 ≡ o' → After (writes op) s s1 o o' → Alike old is_same (and_then o (trace_hop setting is b exit)) (and_then o' (trace_hop setting is' b exit))
      by None e o' e' a = tt
      by (Some u) e None e' a = absurd a
      by (Some u) e (Some u') e' a =
          subst (λ x. Alike old is_same (trace_hop setting is b exit u) (trace_hop setting is' b exit x)) (calm_is setting s1 u' op' e')
          (subst (λ x. Alike old is_same (trace_hop setting is b exit x) (trace_hop setting is' b exit (calm_effect setting s1 op' s1))) (calm_is setting s u op e) rest)
  op_hop one other k s s1 is is' (tests {op} {op'} {p} {y} {edge} {live} r e e') w off_live rest =
      subst (λ x. Alike old is_same (trace_hop setting (plain_item x ∷ is) b exit s) (trace_hop setting (item_of other k ∷ is') b exit s1)) (sym e)
      (subst (λ x. Alike old is_same (trace_hop setting (plain_item (Split p y edge live) ∷ is) b exit s) (trace_hop setting (item_of x k ∷ is') b exit s1)) (sym e')
      (subst (λ c. Alike old is_same (picked (leaves_on (s.values p) y) Wrong (Arrives edge.from edge.to s) (trace_hop setting is b exit s)) (picked (leaves_on c y) Wrong (Arrives edge.from edge.to s1) (trace_hop setting is' b exit s1))) (sym r)
      (by (leaves_on (s.values p) y))))
    where
      kept : Alike old is_same (trace_hop setting is b exit s) (trace_hop setting is' b exit s1)
      kept = subst (λ x. Alike old is_same (trace_hop setting is b exit s) (trace_hop setting is' b exit (in_order setting s1 x))) e'
          (subst (λ x. Alike old is_same (trace_hop setting is b exit (in_order setting s x)) (trace_hop setting is' b exit (in_order setting s1 other))) e rest)

      off : (v : ℕ) → Live old edge.to v → s1.values v ≡ s.values v
      off v l = off_live v (subst (λ x. Off (live_in old) x v) (sym e) l)

      by : (o : Option Bool) → Alike old is_same (picked o Wrong (Arrives edge.from edge.to s) (trace_hop setting is b exit s)) (picked o Wrong (Arrives edge.from edge.to s1) (trace_hop setting is' b exit s1))
      by None = tt
      by (Some true) = (eq-eqb edge.to edge.to refl, record { world = record { arrays = w.arrays; input = w.input; out = w.out }; values = λ v n l q. off v l ∙ q })
      by (Some false) = kept

  join_below : (c : Bool) (served : List Served) → Below t.values served → Below t.values (if c then [] else served)
  join_below true served h = λ e m. absurd m
  join_below false served h = h

  join_tied : (c : Bool) (served : List Served) (wants : ℕ → Type 0) (s s' : State) → Tied t.values served wants s s' → Tied t.values (if c then [] else served) wants s s'
  join_tied true served wants s s' T = fewer served [] (λ x m. absurd m) T
  join_tied false served wants s s' T = T

  hops : (i : ℕ) (served : List Served) (ops : List TraceOp) (chosen : List ℕ) (fixed : List (Option ℕ)) (s s' : State) → CopiesFit t.values ops chosen fixed (copied_from t homes i served ops chosen fixed) (live_in old) (AtEnd old exit) →
      Below t.values (served_at t i served) → Tied t.values (served_at t i served) (Beyond ops) s s' →
      Alike old is_same (trace_hop setting (plain_items ops) b exit s) (trace_hop setting (map item_at (joined (pieces_from t homes i served ops chosen fixed))) b exit s')
  hops i served [] chosen fixed s s' F below T = end_hop s s' (fewer (served_at t i served) [] (λ x m. absurd m) T)
  hops i served (op ∷ ops) [] fixed s s' F below T = let h : 0 ≡ suc (length ops) = F.each_chosen in absurd (omega (arith, h))
  hops i served (op ∷ ops) (k ∷ chosen) [] s s' F below T = let h : 0 ≡ suc (length ops) = F.each_fixed in absurd (omega (arith, h))
  hops i served (op ∷ ops) (k ∷ chosen) (f ∷ fixed) s s' F below T =
      let now : List Served = served_at t i served in
      let next : List Served = served_behind homes now op k f in
      let vs : List ℕ = copied_here homes now op k f in
      let st : Stepped t.values homes now (live_in old) (AtEnd old exit) setting s s' op ops k f =
      stepped t.values homes now (live_in old) (AtEnd old exit) setting s s' op ops k f below (λ v m. F.reads 0 vs v refl m) (λ u m. F.writes 0 op u refl m) (λ v m. F.free 0 k vs v refl refl m) T in
      let s1 : State = run_through setting s' (copying t.values k vs) in
      let there : TraceOp = op_here t.values homes op k f in
      let rest : List Standing = joined (pieces_from t homes (i + 1) next ops chosen fixed) in
      let r : Alike old is_same (trace_hop setting (plain_items ops) b exit (in_order setting s op)) (trace_hop setting (map item_at rest) b exit (in_order setting s1 there)) =
      hops (i + 1) next ops chosen fixed (in_order setting s op) (in_order setting s1 there) (fits_tail F) (join_below (is_join t (i + 1)) next st.below) (join_tied (is_join t (i + 1)) next (Beyond ops) (in_order setting s op) (in_order setting s1 there) st.behind) in
      let o : Alike old is_same (trace_hop setting (plain_item op ∷ plain_items ops) b exit s) (trace_hop setting (item_of there k ∷ map item_at rest) b exit s1) =
      op_hop op there k s s1 (plain_items ops) (map item_at rest) st.reads st.tied.world (λ v l. st.tied.of_wanted v (inr (inl l))) r in
      let e : trace_hop setting (item_of there k ∷ map item_at rest) b exit s1 ≡ trace_hop setting (map item_at (with_its_copies t.values homes now op k f ++ rest)) b exit s' =
      sym (ap (λ is. trace_hop setting is b exit s') (piece_items t.values homes now op k f rest) ∙ copies_hop k vs (item_of there k ∷ map item_at rest) s') in
      subst (λ h. Alike old is_same (trace_hop setting (plain_item op ∷ plain_items ops) b exit s) h) e o

  none_at_join : (c : Bool) (served : List Served) → c ≡ true → (if c then [] else served) ≡ []
  none_at_join true served e = refl
  none_at_join false served e = let h : false ≡ true = e in absurd cc

  hops_from : (q i : ℕ) (served : List Served) (ops : List TraceOp) (chosen : List ℕ) (fixed : List (Option ℕ)) (s s' : State) → CopiesFit t.values ops chosen fixed (copied_from t homes i served ops chosen fixed) (live_in old) (AtEnd old exit) →
      is_join t (i + q) ≡ true → Tied t.values [] (Beyond (drop q ops)) s s' →
      Alike old is_same (trace_hop setting (plain_items (drop q ops)) b exit s) (trace_hop setting (map item_at (joined (drop q (pieces_from t homes i served ops chosen fixed)))) b exit s')
  hops_from zero i served ops chosen fixed s s' F j T =
      let e : i + 0 ≡ i = omega arith in
      let none : served_at t i served ≡ [] = none_at_join (is_join t i) served (sym (ap (is_join t) e) ∙ j) in
      hops i served ops chosen fixed s s' F (subst (λ x. Below t.values x) (sym none) (λ x m. absurd m)) (subst (λ x. Tied t.values x (Beyond ops) s s') (sym none) T)
  hops_from (suc q) i served [] chosen fixed s s' F j T = end_hop s s' T
  hops_from (suc q) i served (op ∷ ops) [] fixed s s' F j T = let h : 0 ≡ suc (length ops) = F.each_chosen in absurd (omega (arith, h))
  hops_from (suc q) i served (op ∷ ops) (k ∷ chosen) [] s s' F j T = let h : 0 ≡ suc (length ops) = F.each_fixed in absurd (omega (arith, h))
  hops_from (suc q) i served (op ∷ ops) (k ∷ chosen) (f ∷ fixed) s s' F j T =
      let e : i + suc q ≡ (i + 1) + q = omega arith in
      hops_from q (i + 1) (served_behind homes (served_at t i served) op k f) ops chosen fixed s s' (fits_tail F) (sym (ap (is_join t) e) ∙ j) T

  itself : (wants : ℕ → Type 0) (s : State) → Tied t.values [] wants s s
  itself wants s = record { of_values = λ v m. refl; of_wanted = λ v m. refl; of_served = λ e m. absurd m; world = record { arrays = refl; input = refl; out = refl } }

  entered : (chosen : List ℕ) (q : ℕ) (s : State) → CopiesFit t.values t.ops chosen t.fixed (copied_from t homes 0 [] t.ops chosen t.fixed) (live_in old) (AtEnd old exit) → IsEntrance t q →
      Alike old is_same (trace_hop setting (plain_items (drop q t.ops)) b exit s) (trace_hop setting (map item_at (joined (drop q (pieces_of t homes chosen)))) b exit s)
  entered chosen q s F E = ⊎_elim at_start (λ j. let e : 0 + q ≡ q = omega arith in hops_from q 0 [] t.ops chosen t.fixed s s F (ap (is_join t) e ∙ j) (itself (Beyond (drop q t.ops)) s)) E
    where
      Goal : ℕ → Type 0
      Goal n = Alike old is_same (trace_hop setting (plain_items (drop n t.ops)) b exit s) (trace_hop setting (map item_at (joined (drop n (pieces_of t homes chosen)))) b exit s)

      at_start : q ≡ 0 → Goal q
      at_start e = subst Goal (sym e) (hops 0 [] t.ops chosen t.fixed s s F (join_below (is_join t 0) [] (λ x m. absurd m)) (join_tied (is_join t 0) [] (Beyond t.ops) s s (itself (Beyond t.ops) s)))

  -- what is alive

  wanted_alive : (ops : List TraceOp) (v : ℕ) → Beyond ops v → Alive old (plain_items ops) v (AtEnd old exit v)
  wanted_alive [] v h = h
  wanted_alive (Plain op ∷ ops) v h = ⊎_elim (λ i. inl i) (λ r. ⊎_elim (λ o. absurd o) (λ (p : (IsIn v (writes op) → ⊥) × Beyond ops v). inr (inr (p.0, wanted_alive ops v p.1))) r) h
  wanted_alive (Split p y edge live ∷ ops) v h = ⊎_elim (λ i. inl i) (λ r. ⊎_elim (λ o. inr (inl o)) (λ (p : (⊥ → ⊥) × Beyond ops v). inr (inr (p.0, wanted_alive ops v p.1))) r) h

  alive_wanted : (xs : List Standing) (v : ℕ) → Alive old (map item_at xs) v (AtEnd old exit v) → Beyond (map op_of xs) v
  alive_wanted [] v h = h
  alive_wanted (x ∷ xs) v h = by x.op (alive_wanted xs v) h
    where
      by : (op : TraceOp) → (Alive old (map item_at xs) v (AtEnd old exit v) → Beyond (map op_of xs) v) → Alive old (item_of op x.cluster ∷ map item_at xs) v (AtEnd old exit v) → Beyond (op ∷ map op_of xs) v
      by (Plain op) rest h = ⊎_elim (λ i. inl i) (λ r. ⊎_elim (λ o. absurd o) (λ (p : (IsIn v (writes op) → ⊥) × Alive old (map item_at xs) v (AtEnd old exit v)). inr (inr (p.0, rest p.1))) r) h
      by (Split p y edge live) rest h = ⊎_elim (λ i. inl i) (λ r. ⊎_elim (λ o. inr (inl o)) (λ (p : (⊥ → ⊥) × Alive old (map item_at xs) v (AtEnd old exit v)). inr (inr (p.0, rest p.1))) r) h

pub clustered_law : ClusteredLaw
clustered_law t homes chosen setting q old b exit F E =
    let pieces : List (List Standing) = pieces_of t homes chosen in
    let e : drop (length (joined (take q pieces))) (items_of (with_copies t homes chosen).trace.ops (with_copies t homes chosen).clusters) ≡ map item_at (joined (drop q pieces)) =
    ap (λ is. drop (length (joined (take q pieces))) is) (items_are (joined pieces)) ∙ items_from q pieces in
    subst (λ is. Clustered setting old (plain_items (drop q t.ops)) is b exit) (sym e) (record {
      leaves_alike = λ s h g n. (trace_hop setting (map item_at (joined (drop q pieces))) b exit s, refl, subst (λ x. Alike old is_same x (trace_hop setting (map item_at (joined (drop q pieces))) b exit s)) g (entered t homes setting old b exit chosen q s F E));
      alive = λ v a. wanted_alive t homes setting old b exit (drop q t.ops) v (nothing_new_at (live_in old) (AtEnd old exit) t homes chosen q v F.each_fixed F.each_chosen E (alive_wanted t homes setting old b exit (joined (drop q pieces)) v a));
    })
