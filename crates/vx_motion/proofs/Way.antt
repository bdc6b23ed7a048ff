-- From one way in, the region and the made blocks do what the blocks of the trace do.
use Rattle.std.proofs.Common.{◌≡◌, ℕ, ◌+◌, ◌-◌, ◌<◌, ◌≤◌, Bool, true, Some, List, length, drop, refl, sym, ap, ◌∙◌, subst, ⊎_elim, inl, inr, arith}
use Rattle.std.specs.Prelude.{nat_lt, slice_get}
use Rattle.std.proofs.lemmas.Bool.{cases_order}
use Rattle.vx_flow.specs.declared.graph.Op.{Op}
use Rattle.vx_flow.specs.Effects.{State, Setting, IsIn, Location, Of, Cell, TheInput, TheOutput, at}
use Rattle.vx_flow.specs.declared.graph.Edge.{Edge}
use Rattle.vx_flow.specs.declared.graph.Exit.{Exit}
use Rattle.vx_flow.specs.declared.graph.Exit.TheVariants.{Goto}
use Rattle.vx_mixed.specs.declared.region.Item.{Item}
use Rattle.vx_mixed.specs.declared.region.Item.TheVariants.{Plain, Split}
use Rattle.vx_mixed.specs.declared.region.Region.{Region}
use Rattle.vx_mixed.specs.declared.region.Node.TheVariants.{Unused, Enters}
use Rattle.vx_mixed.specs.declared.mixed.MixedGraph.{MixedGraph}
use Rattle.vx_flow.specs.Meaning.{Hop, Arrives, Wrong, leave, block_hop}
use Rattle.vx_mixed.specs.Meaning.{node_hop, in_region, timed_from_start, is_same, hop, leaves_on, early_words}
use Rattle.vx_mixed.specs.Agree.{Segment, last, on, Agree, Alike, SameShape}
use Rattle.vx_mixed.specs.Live.{item_reads, item_writes, Live}
use Rattle.vx_mixed.specs.Settled.{InTime}
use Rattle.vx_motion.specs.Items.{Fine, Reads, Writes}
use Rattle.vx_motion.specs.Trace.{nth, order, AfterOf}
use Rattle.vx_mixed.specs.Path.{trace_hop}
use Rattle.vx_motion.specs.Facts.{IsSplit, row, words_from, copies}
use Rattle.vx_mixed.specs.Alive.{AfterItem, AtEnd, Alive}
use Rattle.vx_mixed.specs.Way.{item_latency, LeadsIn, LeadsOut, at_once, by_made}
use Rattle.vx_mixed.proofs.Shape.{shape_trans}
use Rattle.vx_motion.proofs.OrderShape.{shape_sym, order_shape, words_shape}
use Rattle.vx_motion.proofs.Blocks.{path_hop, how_it_ends}
use Rattle.vx_motion.proofs.Delays.{takes_no_value, gives_no_value, gives_firm}
use Rattle.vx_motion.proofs.Exits.{X, Y, by_join, leaves_by, by_edge, at_edge, by_join_, runs_out, at_end}
use Rattle.vx_mixed.proofs.Alive.{live_start}
use Rattle.vx_motion.proofs.AliveAt.{alive_read, alive_edge, alive_end}
use Rattle.vx_mixed.proofs.Timed.{timed_is_early}
use Rattle.vx_motion.proofs.States.{shape_of_world, fine_of_agree, agree_of_fine}
use Rattle.vx_motion.proofs.Hops.{alike_trans, exit_ends, not_wrong}
use Rattle.vx_mixed.proofs.LeaveAlike.{leave_alike}
use Rattle.vx_motion.proofs.Timetable.{laid}
use Rattle.vx_motion.proofs.Passing.{LeavesBy, LeavesAt, RunsOut}
use Rattle.vx_motion.proofs.AtTimes.{form, at_time}
use Rattle.vx_motion.proofs.OneWay.{Way}

split_at : (i : Item) (s : State) (h : Hop) → LeavesBy s i h → (p : ℕ) × (edge : Edge) × (d : ℕ) × (y : Bool) × (i ≡ Split p y edge d) × (leaves_on (s.values p) y ≡ Some true) × (h ≡ Arrives edge.from edge.to s)
split_at (Plain op cluster) s h x = absurd x
split_at (Split p y edge d) s h x = (p, edge, d, y, refl, x.0, x.1)

split_is : (i : Item) (p : ℕ) (edge : Edge) (d : ℕ) (y : Bool) → i ≡ Split p y edge d → IsSplit i
split_is i p edge d y e = subst IsSplit (sym e) tt

split_writes_none : (setting : Setting) (s : State) (i : Item) (l : Location) → IsSplit i → Writes setting s i l → ⊥
split_writes_none setting s (Plain op cluster) l h w = h
split_writes_none setting s (Split p y edge d) l h (inl w) = w.1
split_writes_none setting s (Split p y edge d) l h (inr w) = w

module _ (setting : Setting) (latency : Op → ℕ) (old new : MixedGraph) (meet_old meet_new : ℕ → ℕ → Bool) (pairs : ℕ → ℕ → Bool) (n : ℕ) (reg : Region) (b b' : ℕ) (way : Way setting latency old new meet_old meet_new pairs n reg b b') (settled : InTime latency reg) (is_region : slice_get new.regions n ≡ Some reg) (times : List ℕ) (s t : State) (agree : Agree (Live old b) s t) where
  abbrev H : ℕ → State → Hop
  H = hop setting times latency new

  abbrev Wanted : Location → Type 0
  Wanted l = (v : ℕ) → l ≡ Of v → Live old b v

  abbrev W : ℕ → Location → Type 0
  W k l = Writes setting (order setting way.items s k) (nth way.items k) l

  same : SameShape s t
  same = shape_of_world s t agree.world

  start : (l : Location) → Wanted l → Fine l (at s l) (at t l)
  start l w = fine_of_agree (Live old b) s t agree l w

  unwritten : (p : ℕ) (v : ℕ) → ((k : ℕ) → k < p → W k (Of v) → ⊥) → (k : ℕ) → k < p → IsIn v (item_writes (nth way.items k)) → ⊥
  unwritten p v none k lt h = none k lt (inl (v, h, refl))

  live_at : (v : ℕ) → Alive old way.items v (AtEnd old way.exit v) → Live old b v
  live_at v a = live_start old meet_old way.path v (way.clustered.alive v a)

  wants : (o : ℕ) (l : Location) → Reads setting (order setting way.items s o) (nth way.items o) l → ((k : ℕ) → k < o → W k l → ⊥) → Wanted l
  wants o l rd none v e =
      ⊎_elim
      (λ h.
      let q : Of h.0 ≡ Of v = sym h.2 ∙ e in
      let same_v : h.0 ≡ v = cc in
      live_at v (alive_read old way.items v (AtEnd old way.exit v) o (subst (λ z. IsIn z (item_reads (nth way.items o))) same_v h.1) (unwritten o v (λ k lt w. none k lt (subst (λ z. W k z) (sym e) w)))))
      (λ h. absurd (takes_no_value setting (order setting way.items s o) (nth way.items o) l v h e))
      rd

  -- one hop from the word where the region is entered
  abbrev T : State → Hop
  T u = timed_from_start setting times latency reg (drop way.rejoin reg.words) u

  region_is : (c : ℕ) → slice_get new.nodes c ≡ Some (Enters n way.rejoin) → (u : State) → H c u ≡ T u
  region_is c e u = ap (λ z. node_hop setting (timed_from_start setting times latency) new c z u) e ∙ ap (λ z. in_region (timed_from_start setting times latency) way.rejoin z u) is_region

  region_early : (u : State) (h : Hop) → early_words setting reg (words_from (row way.word way.mark 0 (length way.items)) way.rejoin (length reg.words - way.rejoin)) u ≡ h → T u ≡ h
  region_early u h e = timed_is_early setting times latency reg settled way.rejoin u ∙ ap (λ z. early_words setting reg z u) way.words ∙ e

  block_at : (c : ℕ) (ops : List Op) (x : Exit) → slice_get new.nodes c ≡ Some (Unused (record { ops = ops; exit = x })) → (u : State) → H c u ≡ block_hop setting c ops x u
  block_at c ops x e u = ap (λ z. node_hop setting (timed_from_start setting times latency) new c z u) e

  -- in by the copies, where there are any
  enter : (u : State) → ((c : ℕ) (x : Exit) → block_hop setting c (copies (λ k. nat_lt (way.word k) way.rejoin) way.mark 0 (length way.items)) x t ≡ leave c x u) → (h' : Hop) → ((c : ℕ) → slice_get new.nodes c ≡ Some (Enters n way.rejoin) → Segment H meet_new c u h') → Segment H meet_new b' t h'
  enter u copied h' go = by way.enters
    where
      by : LeadsIn new meet_new n way.rejoin (copies (λ k. nat_lt (way.word k) way.rejoin) way.mark 0 (length way.items)) b' → Segment H meet_new b' t h'
      by (at_once none node) =
          let e : Arrives 0 0 t ≡ Arrives 0 0 u = sym (ap (λ z. block_hop setting 0 z (Goto 0) t) none) ∙ copied 0 (Goto 0) in
          let e' : u ≡ t = cc in
          subst (λ z. Segment H meet_new b' z h') e' (go b' node)
      by (by_made c node inner region) = on (block_at b' (copies (λ k. nat_lt (way.word k) way.rejoin) way.mark 0 (length way.items)) (Goto c) node t ∙ copied b' (Goto c)) inner (go c region)

  -- the trace leaves by its split at place e
  module _ (h : Hop) (e : ℕ) (left : LeavesAt setting way.items s h e) (p : ℕ) (edge : Edge) (d : ℕ) (y : Bool) (at_e : nth way.items e ≡ Split p y edge d) (out : leaves_on ((order setting way.items s e).values p) y ≡ Some true) (is_h : h ≡ Arrives edge.from edge.to (order setting way.items s e)) where
    is_sp : (z : ℕ) → e ≡ z → IsSplit (nth way.items z)
    is_sp z q = subst (λ y. IsSplit (nth way.items y)) q (split_is (nth way.items e) p edge d y at_e)

    lo : way.rejoin ≤ way.word e
    lo = way.late e (is_sp e refl)

    abbrev Z : ℕ → State
    Z = X setting way.items way.word way.mark (item_latency latency) (length reg.words) (AfterOf old way.items) way.facts way.rejoin s t same Wanted start wants e p edge d y at_e left.inside lo left.passes

    abbrev Last : ℕ
    Last = length way.items + (way.word e + 1 + e)

    abbrev copied_out : List Op
    copied_out = copies (λ k. nat_lt (way.word e) (way.word k)) (nth way.items) 0 e

    below : (l : Location) (k : ℕ) → e ≤ k → W k l → e < k
    below l k le w = ⊎_elim (λ q. absurd (split_writes_none setting (order setting way.items s k) (nth way.items k) l (is_sp k q) w)) (λ x. ⊎_elim (λ a. a) (λ a. absurd (omega arith)) x) (cases_order e k)

    finely : (l : Location) → ((k : ℕ) → e ≤ k → W k l → way.word e < way.word k) → (((k : ℕ) → k < e → W k l → ⊥) → Wanted l) → Fine l (at (order setting way.items s e) l) (at (Z Last) l)
    finely l later want = at_edge setting way.items way.word way.mark (item_latency latency) (length reg.words) (AfterOf old way.items) way.facts way.rejoin s t same Wanted start wants e p edge d y at_e left.inside lo left.passes l later want

    firm_later : (l : Location) → ((v : ℕ) → l ≡ Of v → ⊥) → (k : ℕ) → e ≤ k → W k l → way.word e < way.word k
    firm_later l other k le w =
        ⊎_elim
        (λ h. absurd (other h.0 h.2))
        (λ h. way.facts.held e k (below l k le w) (is_sp e refl) (gives_firm setting (order setting way.items s k) (nth way.items k) l h))
        w

    after_e : (v : ℕ) → Live old edge.to v → AfterItem old (nth way.items e) v
    after_e v live = subst (λ z. AfterItem old z v) (sym at_e) live

    value_later : (v : ℕ) → Live old edge.to v → (k : ℕ) → e ≤ k → W k (Of v) → way.word e < way.word k
    value_later v live k le w =
        ⊎_elim
        (λ h.
        let q : Of h.0 ≡ Of v = sym h.2 in
        let same_v : h.0 ≡ v = cc in
        way.facts.kept e k v (below (Of v) k le w) (is_sp e refl) (after_e v live) (subst (λ z. IsIn z (item_writes (nth way.items k))) same_v h.1))
        (λ h. absurd (gives_no_value setting (order setting way.items s k) (nth way.items k) (Of v) v h refl))
        w

    agrees : Agree (Live old edge.to) (order setting way.items s e) (Z Last)
    agrees = agree_of_fine (Live old edge.to) (order setting way.items s e) (Z Last)
        (shape_trans (order setting way.items s e) s (Z Last) (shape_sym s (order setting way.items s e) (order_shape setting way.items s e)) (shape_trans s t (Z Last) same (words_shape setting (laid (form way.items way.mark (length way.items) (way.word e)) (at_time way.word (length way.items) way.rejoin (way.word e) e)) t Last)))
        (λ a i. finely (Cell a i) (firm_later (Cell a i) (λ v (q : Cell a i ≡ Of v). cc)) (λ none v (q : Cell a i ≡ Of v). absurd (cc)))
        (finely TheInput (firm_later TheInput (λ v (q : TheInput ≡ Of v). cc)) (λ none v (q : TheInput ≡ Of v). absurd (cc)))
        (finely TheOutput (firm_later TheOutput (λ v (q : TheOutput ≡ Of v). cc)) (λ none v (q : TheOutput ≡ Of v). absurd (cc)))
        (λ v live. finely (Of v) (value_later v live) (λ none u (q : Of v ≡ Of u).
        let same_v : v ≡ u = cc in
        subst (λ z. Live old b z) same_v (live_at v (alive_edge old way.items v (AtEnd old way.exit v) e (after_e v live) (unwritten e v none)))))

    abbrev Found : State → Type 0
    Found u = (h' : Hop) × ((c : ℕ) → slice_get new.nodes c ≡ Some (Enters n way.rejoin) → Segment H meet_new c u h') × Alike old pairs (Arrives edge.from edge.to (order setting way.items s e)) h'

    go_out : (x z : ℕ) (u0 u1 u2 : State) → early_words setting reg (words_from (row way.word way.mark 0 (length way.items)) way.rejoin (length reg.words - way.rejoin)) u0 ≡ Arrives x z u1 → ((c : ℕ) (q : Exit) → block_hop setting c copied_out q u1 ≡ leave c q u2) → Agree (Live old edge.to) (order setting way.items s e) u2 → LeadsOut new meet_new pairs copied_out x z edge.to → Found u0
    go_out x z u0 u1 u2 is_early copied ag (at_once none meets pair) =
        let e1 : Arrives 0 0 u1 ≡ Arrives 0 0 u2 = sym (ap (λ q. block_hop setting 0 q (Goto 0) u1) none) ∙ copied 0 (Goto 0) in
        let same_state : u2 ≡ u1 = cc in
        (Arrives x z u1, (λ c node. last (region_is c node u0 ∙ region_early u0 (Arrives x z u1) is_early) meets), (pair, subst (Agree (Live old edge.to) (order setting way.items s e)) same_state ag))
    go_out x z u0 u1 u2 is_early copied ag (by_made c' inner node meets pair) =
        (Arrives z c' u2, (λ c region. on (region_is c region u0 ∙ region_early u0 (Arrives x z u1) is_early) inner (last (block_at z copied_out (Goto c') node u1 ∙ copied z (Goto c')) meets)), (pair, ag))

    by_split : (h' : Hop) × Segment H meet_new b' t h' × Alike old pairs h h'
    by_split =
        let r = leaves_by setting way.items way.word way.mark (item_latency latency) (length reg.words) (AfterOf old way.items) way.facts way.rejoin s t same Wanted start wants e p edge d y at_e left.inside lo left.passes out reg in
        let f = go_out r.0.from r.0.to (Z (length way.items)) (Z (length way.items + (way.word e + 1))) (Z Last) r.3 (λ c x. by_edge setting way.items way.word way.mark (item_latency latency) (length reg.words) (AfterOf old way.items) way.facts way.rejoin s t same Wanted start wants e p edge d y at_e left.inside lo left.passes c x) agrees (way.leaves e p d r.1 y edge r.0 at_e r.2) in (
          f.0,
          enter (Z (length way.items)) (λ c x. by_join setting way.items way.word way.mark (item_latency latency) (length reg.words) (AfterOf old way.items) way.facts way.rejoin s t same Wanted start wants e p edge d y at_e left.inside lo left.passes c x) f.0 f.1,
          subst (λ z. Alike old pairs z f.0) (sym is_h) f.2,
        )

  -- the trace runs to its end
  module _ (h : Hop) (ran : RunsOut setting way.items s h way.end way.exit) (fine_end : h ≡ Wrong → ⊥) where
    abbrev Z_ : ℕ → State
    Z_ = Y setting way.items way.word way.mark (item_latency latency) (length reg.words) (AfterOf old way.items) way.facts way.rejoin s t same Wanted start wants way.low ran.passes

    abbrev Last_ : ℕ
    Last_ = length way.items + length reg.words

    finely_ : (l : Location) → (((k : ℕ) → k < length way.items → W k l → ⊥) → Wanted l) → Fine l (at (order setting way.items s (length way.items)) l) (at (Z_ Last_) l)
    finely_ l want = at_end setting way.items way.word way.mark (item_latency latency) (length reg.words) (AfterOf old way.items) way.facts way.rejoin s t same Wanted start wants way.low ran.passes l want

    agrees_ : Agree (AtEnd old way.exit) (order setting way.items s (length way.items)) (Z_ Last_)
    agrees_ = agree_of_fine (AtEnd old way.exit) (order setting way.items s (length way.items)) (Z_ Last_)
        (shape_trans (order setting way.items s (length way.items)) s (Z_ Last_) (shape_sym s (order setting way.items s (length way.items)) (order_shape setting way.items s (length way.items))) (shape_trans s t (Z_ Last_) same (words_shape setting (laid (form way.items way.mark (length way.items) (length reg.words)) (at_time way.word (length way.items) way.rejoin (length reg.words) (length way.items))) t Last_)))
        (λ a i. finely_ (Cell a i) (λ none v (q : Cell a i ≡ Of v). absurd (cc)))
        (finely_ TheInput (λ none v (q : TheInput ≡ Of v). absurd (cc)))
        (finely_ TheOutput (λ none v (q : TheOutput ≡ Of v). absurd (cc)))
        (λ v live. finely_ (Of v) (λ none u (q : Of v ≡ Of u).
        let same_v : v ≡ u = cc in
        subst (λ z. Live old b z) same_v (live_at v (alive_end old way.items v (AtEnd old way.exit v) live (unwritten (length way.items) v none)))))

    by_end : (h' : Hop) × Segment H meet_new b' t h' × Alike old pairs h h'
    by_end =
        let u0 = Z_ (length way.items) in
        let g = leave reg.from reg.last (Z_ Last_) in
        let r = region_early u0 g (runs_out setting way.items way.word way.mark (item_latency latency) (length reg.words) (AfterOf old way.items) way.facts way.rejoin s t same Wanted start wants way.low ran.passes reg) in
        let like : Alike old pairs h g = subst (λ z. Alike old pairs z g) (sym ran.leaves) (leave_alike old pairs way.end reg.from way.exit reg.last way.last_exit (order setting way.items s (length way.items)) (Z_ Last_) agrees_.world (λ v l m q. agrees_.values v m l q)) in (
          g,
          enter u0 (λ c x. by_join_ setting way.items way.word way.mark (item_latency latency) (length reg.words) (AfterOf old way.items) way.facts way.rejoin s t same Wanted start wants way.low ran.passes c x) g (λ c node. last (region_is c node u0 ∙ r) (exit_ends meet_new reg.from reg.last (Z_ Last_) way.last_meets)),
          like,
        )

  -- from the start of the trace, or from a join of it, new does what old does
  pub from_here : (times_old : List ℕ) (h : Hop) → Segment (hop setting times_old latency old) meet_old b s h → (h ≡ Wrong → ⊥) → (h' : Hop) × Segment H meet_new b' t h' × Alike old pairs h h'
  from_here times_old h seg fine_end =
      let c = way.clustered.leaves_alike s h (path_hop setting times_old latency old meet_old way.path s h seg) fine_end in
      let fine' = not_wrong old is_same h c.0 fine_end c.2 in
      let found = in_order c.0 c.1 fine' in
      (found.0, found.1, alike_trans old pairs h c.0 found.0 fine_end c.2 found.2)
    where
      in_order : (h : Hop) → trace_hop setting way.items way.end way.exit s ≡ h → (h ≡ Wrong → ⊥) → (h' : Hop) × Segment H meet_new b' t h' × Alike old pairs h h'
      in_order h e fine_end =
          ⊎_elim
          (λ w. absurd (fine_end w))
          (λ x. ⊎_elim
          (λ y. let q = split_at (nth way.items y.0) (order setting way.items s y.0) h y.1.leaves in by_split h y.0 y.1 q.0 q.1 q.2 q.3 q.4 q.5 q.6)
          (λ ran. by_end h ran fine_end)
          x)
          (how_it_ends setting way.items way.end way.exit s h e)
