-- The three laws of motion: what a compensated replacement's words leave, from its start and from each joining edge.
use Rattle.std.proofs.Common.{◌≡◌, ℕ, ◌+◌, ◌-◌, ◌<◌, ◌≤◌, Bool, true, false, Option, Some, None, List, [], ◌∷◌, length, map, drop, slice_get, refl, sym, ap, ◌∙◌, subst, ⊎_elim, inl, inr, arith}
use Rattle.std.specs.Prelude.{◌⊎◌, ◌==◌, ℤ, nat_lt, if◌then◌else◌}
use Rattle.std.proofs.lemmas.Bool.{eq-eqb, le-ltb, cases_order}
use Rattle.vx_flow.specs.declared.graph.Edge.{Edge}
use Rattle.vx_flow.specs.declared.graph.Exit.{Exit}
use Rattle.vx_flow.specs.declared.graph.Exit.TheVariants.{Goto, Split as Branch, Call, Return, Ends}
use Rattle.vx_flow.specs.declared.graph.Op.{Op}
use Rattle.vx_flow.specs.declared.trace.TraceOp.TheVariants.{Split as TraceSplit}
use Rattle.vx_flow.specs.declared.trace.Join.{Join}
use Rattle.vx_flow.specs.Apart.{StandApart}
use Rattle.vx_flow.specs.Effects.{Content, State, Setting, Location, Of, Cell, TheInput, TheOutput, IsIn, at, held, is_one, effect}
use Rattle.vx_flow.specs.Meaning.{Hop, Arrives, Calls, Wrong, known, calls, leaves, by_test, leave, and_then, block_hop}
use Rattle.vx_flow.specs.Sound.{targets_of}
use Rattle.vx_flow.specs.Walk.{edge}
use Rattle.vx_flow.proofs.SoundLists.{any_of}
use Rattle.vx_mixed.specs.declared.region.Item.{Item}
use Rattle.vx_mixed.specs.declared.region.Item.TheVariants.{Plain, Split}
use Rattle.vx_mixed.specs.declared.region.Node.TheVariants.{Unused}
use Rattle.vx_mixed.specs.declared.region.Region.{Region}
use Rattle.vx_mixed.specs.declared.mixed.MixedGraph.{MixedGraph}
use Rattle.vx_mixed.specs.declared.replacement.Replacement.{Replacement}
use Rattle.vx_mixed.specs.Agree.{Agree, Alike, SameShape}
use Rattle.vx_mixed.specs.Alive.{AfterItem, AtEnd, Alive}
use Rattle.vx_motion.specs.Trace.{AfterOf, nth, order}
use Rattle.vx_motion.specs.Compensation.{items, word, mark, is_join_place, IsRejoin, exit_of, Compensated}
use Rattle.vx_mixed.specs.Next.{on_edge, made_on, last_of, exit_in, renamed_exit, new_region, new_end, is_split_edge}
use Rattle.vx_mixed.specs.Edges.{IsEdge, of_block}
use Rattle.vx_mixed.specs.Entrances.{edge_of_made}
use Rattle.vx_motion.specs.Facts.{RowFacts, IsSplit, row, words_from, copies}
use Rattle.vx_motion.specs.Items.{Fine, Reads, Writes}
use Rattle.vx_mixed.specs.Live.{Live, item_reads, item_writes}
use Rattle.vx_mixed.specs.Meaning.{is_same, leaves_on, early_words, timed_from_start}
use Rattle.vx_mixed.specs.Path.{trace_hop}
use Rattle.vx_motion.specs.Replaced.{CellFacts}
use Rattle.vx_motion.specs.Rows.{below_join, Meets, Placed}
use Rattle.vx_mixed.specs.Settled.{InTime}
use Rattle.vx_mixed.specs.Valid.{Valid}
use Rattle.vx_mixed.specs.Way.{item_latency, Renamed, goto, branch, call, return, stop}
use Rattle.vx_motion.proofs.AliveAt.{alive_read, alive_edge, alive_end}
use Rattle.vx_motion.proofs.AtTimes.{form, at_time}
use Rattle.vx_motion.proofs.Blocks.{how_it_ends}
use Rattle.vx_motion.proofs.Delays.{split_in_trace, takes_no_value, gives_no_value, gives_firm}
use Rattle.vx_motion.proofs.Exits.{X, Y, by_join, leaves_by, by_edge, at_edge, by_join_, runs_out, at_end}
use Rattle.vx_mixed.proofs.LeaveAlike.{leave_alike}
use Rattle.vx_motion.proofs.Joins.{nth_drop, no_copies, join_copies, words_below, split_copies, below}
use Rattle.vx_mixed.proofs.Linked.{Linkable, some_same, index_in, can, off_trace, joins, unused, to_below, made_at, at_end as end_of}
use Rattle.vx_mixed.proofs.NewNodes.{made_none, made_some, edge_old}
use Rattle.vx_motion.proofs.Passing.{LeavesBy, LeavesAt, RunsOut}
use Rattle.vx_motion.proofs.PlacedWords.{length_items, split_at, split_placed}
use Rattle.vx_motion.proofs.Replacements.{linkable, words_are_rows, is_placed, is_met}
use Rattle.vx_motion.proofs.Rows.{cell_facts, row_facts}
use Rattle.vx_mixed.proofs.Shape.{shape_trans}
use Rattle.vx_motion.proofs.OrderShape.{shape_sym, order_shape, words_shape}
use Rattle.vx_motion.proofs.States.{shape_of_world, fine_of_agree, agree_of_fine}
use Rattle.vx_mixed.proofs.Timed.{timed_is_early}
use Rattle.vx_motion.proofs.Timetable.{laid}
use Rattle.vx_mixed.proofs.TraceFacts.{is_split, last_among}
use Rattle.vx_motion.proofs.Waits.{settled}
use Rattle.vx_region.specs.Motion.{after_ops, along, with_copies}

split_by : (i : Item) (s : State) (h : Hop) → LeavesBy s i h → (p : ℕ) × (edge : Edge) × (d : ℕ) × (y : Bool) × (i ≡ Split p y edge d) × (leaves_on (s.values p) y ≡ Some true) × (h ≡ Arrives edge.from edge.to s)
split_by (Plain op cluster) s h x = absurd x
split_by (Split p y edge d) s h x = (p, edge, d, y, refl, x.0, x.1)

split_is : (i : Item) (p : ℕ) (edge : Edge) (d : ℕ) (y : Bool) → i ≡ Split p y edge d → IsSplit i
split_is i p edge d y e = subst IsSplit (sym e) tt

split_writes_none : (setting : Setting) (s : State) (i : Item) (l : Location) → IsSplit i → Writes setting s i l → ⊥
split_writes_none setting s (Plain op cluster) l h w = h
split_writes_none setting s (Split p y edge d) l h (inl w) = w.1
split_writes_none setting s (Split p y edge d) l h (inr w) = w

-- operations, and then more
after_is : (setting : Setting) (ops : List Op) (t u : State) → block_hop setting 0 ops (Goto 0) t ≡ leave 0 (Goto 0) u → (next : State → Hop) → after_ops setting ops t next ≡ next u
after_is setting [] t u e next = let q : Arrives 0 0 t ≡ Arrives 0 0 u = e in let same : t ≡ u = cc in ap next same
after_is setting (op ∷ ops) t u e next = by (effect setting t op t) e (λ v q. after_is setting ops v u q next)
  where
    by : (o : Option State) → and_then o (block_hop setting 0 ops (Goto 0)) ≡ leave 0 (Goto 0) u → ((v : State) → block_hop setting 0 ops (Goto 0) v ≡ leave 0 (Goto 0) u → after_ops setting ops v next ≡ next u) → and_then o (λ v. after_ops setting ops v next) ≡ next u
    by None q go = absurd (let z : Wrong ≡ Arrives 0 0 u = q in cc)
    by (Some v) q go = go v q

-- an exit whose edges all lead where they led
same_exit : (x : Exit) → Renamed is_same x x
same_exit (Goto c) = goto (eq-eqb c c refl)
same_exit (Branch p c d) = branch (eq-eqb c c refl) (eq-eqb d d refl)
same_exit (Call g arguments result next) = call (eq-eqb next next refl)
same_exit (Return x) = return
same_exit (Ends k) = stop

module _ (setting : Setting) (m : MixedGraph) (r : Replacement) where
  arrives_so : (b c c' : ℕ) (u : State) → c' ≡ c → edge_of_made (length m.nodes) r.made c ≡ None → with_copies setting m r (Arrives b c' u) ≡ Arrives b c u
  arrives_so b c c' u same none = ap (λ z. with_copies setting m r (Arrives b z u)) same ∙ ap (λ o. along setting r.made o b c u) none

  exit_is : (to : ℕ → ℕ) (b : ℕ) (x : Exit) (u : State) → ((c : ℕ) → IsIn c (targets_of x) → (to c ≡ c) × (edge_of_made (length m.nodes) r.made c ≡ None)) → with_copies setting m r (leave b (renamed_exit to x) u) ≡ leave b x u
  exit_is to b (Goto c) u h = let q = h c (inl refl) in arrives_so b c (to c) u q.0 q.1
  exit_is to b (Branch p c d) u h = by (u.values p)
    where
      way : (one : Bool) → with_copies setting m r (if one then Arrives b (to c) u else Arrives b (to d) u) ≡ (if one then Arrives b c u else Arrives b d u)
      way true = let q = h c (inl refl) in arrives_so b c (to c) u q.0 q.1
      way false = let q = h d (inr (inl refl)) in arrives_so b d (to d) u q.0 q.1

      by : (v : Content) → with_copies setting m r (by_test v (Arrives b (to c) u) (Arrives b (to d) u)) ≡ by_test v (Arrives b c u) (Arrives b d u)
      by None = refl
      by (Some z) = way (is_one z)
  exit_is to b (Call g arguments result next) u h = by (known (map (held u) arguments))
    where
      by : (o : Option (List ℤ)) → with_copies setting m r (calls g o result b (to next) u) ≡ calls g o result b next u
      by None = refl
      by (Some ns) = ap (λ z. Calls g ns result b z u) (h next (inl refl)).0
  exit_is to b (Return x) u h = by (held u x)
    where
      by : (v : Content) → with_copies setting m r (leaves v u) ≡ leaves v u
      by None = refl
      by (Some n) = refl
  exit_is to b (Ends k) u h = refl

module _ (latency : Op → ℕ) (m : MixedGraph) (r : Replacement) (valid : Valid m) (c : Compensated latency m r) (first : ℕ) (others : List ℕ) (blocks_are : r.trace.blocks ≡ first ∷ others) where
  abbrev Link : Linkable m r
  Link = linkable c

  abbrev I : List Item
  I = items r

  abbrev W : ℕ → ℕ
  W = word r

  abbrev M : ℕ → Item
  M = mark m r

  abbrev Reg : Region
  Reg = new_region m r

  abbrev To_ : ℕ → ℕ → ℕ
  To_ = new_end m r.made

  abbrev End : ℕ
  End = last_of r.trace.blocks

  -- what the delays give

  words : Reg.words ≡ words_from (row W M 0 (length I)) 0 (length Reg.words)
  words = words_are_rows latency m r c

  placed : Placed I (item_latency latency) W M (length Reg.words)
  placed = is_placed latency m r c

  meets : Meets I (item_latency latency) (AfterOf m I) c.never (is_join_place r.trace.joins) W
  meets = is_met latency m r c valid first others blocks_are

  cells : (setting : Setting) → StandApart m.arrays setting.spot → (q : ℕ) → q ≤ length I → ((q ≡ 0) ⊎ (is_join_place r.trace.joins q ≡ true)) → CellFacts setting (drop q I) (λ k. W (q + k))
  cells setting apart q le h = cell_facts setting I (item_latency latency) (AfterOf m I) c.never (is_join_place r.trace.joins) W M (length Reg.words) meets placed q le (c.apart setting apart q h)

  all_cells : (setting : Setting) → StandApart m.arrays setting.spot → CellFacts setting I W
  all_cells setting apart =
      let f = cells setting apart 0 (omega arith) (inl refl) in
      record {
        flow = λ s i o l lt a b. let x : 0 + i ≡ i = omega arith in let y : 0 + o ≡ o = omega arith in subst (λ z. W z < W o) x (subst (λ z. W (0 + i) < W z) y (f.flow s i o l lt a b));
        anti = λ s o k l lt a b. let x : 0 + o ≡ o = omega arith in let y : 0 + k ≡ k = omega arith in subst (λ z. W z ≤ W k) x (subst (λ z. W (0 + o) ≤ W z) y (f.anti s o k l lt a b));
        output = λ s i k l lt a b. let x : 0 + i ≡ i = omega arith in let y : 0 + k ≡ k = omega arith in subst (λ z. W z < W k) x (subst (λ z. W (0 + i) < W z) y (f.output s i k l lt a b));
      }

  facts : (setting : Setting) → StandApart m.arrays setting.spot → RowFacts setting I W M (item_latency latency) (length Reg.words) (AfterOf m I)
  facts setting apart = row_facts setting I (item_latency latency) (AfterOf m I) c.never (is_join_place r.trace.joins) W M (length Reg.words) meets placed (all_cells setting apart)

  in_time : (setting : Setting) → StandApart m.arrays setting.spot → InTime latency Reg
  in_time setting apart = settled setting I W M latency c.loads Reg (AfterOf m I) (facts setting apart) c.drained words

  -- edges out

  leaves_off : (e p d : ℕ) (y : Bool) (off : Edge) → nth I e ≡ Split p y off d → is_split_edge r.trace.ops off ≡ true
  leaves_off e p d y off at_e = let s = split_at r.trace.ops r.clusters e p d y off at_e in is_split r.trace.ops p y off s.0 (index_in r.trace.ops e (TraceSplit p y off s.0) s.1)

  out_by : (setting : Setting) (off : Edge) (u v : State) → is_split_edge r.trace.ops off ≡ true → block_hop setting 0 (on_edge r.made off) (Goto 0) u ≡ leave 0 (Goto 0) v → with_copies setting m r (Arrives off.from (To_ off.from off.to) u) ≡ Arrives off.from off.to v
  out_by setting off u v s copied = by (made_on (length m.nodes) r.made off) refl
    where
      by : (o : Option ℕ) → made_on (length m.nodes) r.made off ≡ o → with_copies setting m r (Arrives off.from (To_ off.from off.to) u) ≡ Arrives off.from off.to v
      by None q =
          let o = off_trace m r valid Link first others blocks_are off.from off.to s in
          let n = made_none (length m.nodes) r.made off q in
          let e : Arrives 0 0 u ≡ Arrives 0 0 v = sym (ap (λ z. block_hop setting 0 z (Goto 0) u) n) ∙ copied in
          let same : u ≡ v = cc in
          arrives_so setting m r off.from off.to (To_ off.from off.to) u (end_of m r valid Link first others blocks_are off.from off.to None q) (edge_old (length m.nodes) r.made off.to (to_below m r valid Link first others blocks_are off.from off.to o.is_edge))
          ∙ ap (Arrives off.from off.to) same
      by (Some d) q =
          ap (λ z. with_copies setting m r (Arrives off.from z u)) (end_of m r valid Link first others blocks_are off.from off.to (Some d) q)
          ∙ ap (λ o. along setting r.made o off.from d u) (made_at m r valid Link first others blocks_are off.from off.to d q)
          ∙ after_is setting (on_edge r.made off) u v copied (Arrives off.from off.to)

  last_ends : (b : ℕ) → IsIn b (targets_of (exit_of m r)) → (To_ End b ≡ b) × (edge_of_made (length m.nodes) r.made b ≡ None)
  last_ends b t =
      let q : End ≡ last_of (first ∷ others) = ap last_of blocks_are in
      let u = unused m r valid Link first others blocks_are (last_of (first ∷ others)) (last_among first others) in
      let last_is : slice_get m.nodes End ≡ Some (Unused u.0) = ap (slice_get m.nodes) q ∙ u.1 in
      let is_edge : IsEdge m (edge End b) = of_block {block = u.0} last_is (subst (λ x. IsIn b (targets_of x)) (ap exit_in last_is) t) in
      (by q is_edge (made_on (length m.nodes) r.made (edge End b)) refl, edge_old (length m.nodes) r.made b (to_below m r valid Link first others blocks_are End b is_edge))
    where
      by : End ≡ last_of (first ∷ others) → IsEdge m (edge End b) → (o : Option ℕ) → made_on (length m.nodes) r.made (edge End b) ≡ o → To_ End b ≡ b
      by q is_edge None none = end_of m r valid Link first others blocks_are End b None none
      by q is_edge (Some d) some =
          let x = made_some (length m.nodes) r.made (edge End b) d some in
          absurd (⊎_elim
          (λ s. (off_trace m r valid Link first others blocks_are End b (ap (is_split_edge r.trace.ops) (sym x.where_) ∙ s)).not_last q)
          (λ j.
          let J = joins m r valid Link first others blocks_are j.0 End b j.1 (subst (λ z. IsIn z j.0.edges) x.where_ j.2) in
          J.outer ((can m r valid Link first others blocks_are).back (edge End b) is_edge (subst (λ z. IsIn z (first ∷ others)) (sym q) (last_among first others)) J.behind))
          (c.made_where x.item (index_in r.made x.index x.item x.has)))

  -- from a place of the trace, which is entered at a word behind all that stands above it

  module _ (place rejoin : ℕ) (within : place ≤ length I) (low : rejoin ≤ length Reg.words) (above : (k : ℕ) → k < place → W k < rejoin) (splits_below : (k : ℕ) → place ≤ k → IsSplit (nth I k) → rejoin ≤ W k) (entered : (place ≡ 0) ⊎ (is_join_place r.trace.joins place ≡ true)) where
    abbrev Part : List Item
    Part = drop place I

    abbrev W_ : ℕ → ℕ
    W_ k = W (place + k)

    abbrev M_ : ℕ → Item
    M_ k = M (place + k)

    abbrev Copies : List Op
    Copies = copies (λ k. nat_lt (W_ k) rejoin) M_ 0 (length Part)

    part_facts : (setting : Setting) → StandApart m.arrays setting.spot → RowFacts setting Part W_ M_ (item_latency latency) (length Reg.words) (AfterOf m Part)
    part_facts setting apart = below setting I W M (item_latency latency) (length Reg.words) m (facts setting apart) place within (cells setting apart place within entered)

    late : (k : ℕ) → IsSplit (nth Part k) → rejoin ≤ W_ k
    late k s = splits_below (place + k) (omega arith) (subst IsSplit (nth_drop I place k) s)

    module _ (setting : Setting) (apart : StandApart m.arrays setting.spot) (times : List ℕ) (s t : State) (agree : Agree (λ v. Alive m Part v (AtEnd m (exit_of m r) v)) s t) where
      abbrev Ends_ : ℕ → Type 0
      Ends_ v = AtEnd m (exit_of m r) v

      abbrev Wanted : Location → Type 0
      Wanted l = (v : ℕ) → l ≡ Of v → Alive m Part v (Ends_ v)

      abbrev Wr : ℕ → Location → Type 0
      Wr k l = Writes setting (order setting Part s k) (nth Part k) l

      same : SameShape s t
      same = shape_of_world s t agree.world

      start : (l : Location) → Wanted l → Fine l (at s l) (at t l)
      start l w = fine_of_agree (λ v. Alive m Part v (Ends_ v)) s t agree l w

      unwritten : (p : ℕ) (v : ℕ) → ((k : ℕ) → k < p → Wr k (Of v) → ⊥) → (k : ℕ) → k < p → IsIn v (item_writes (nth Part k)) → ⊥
      unwritten p v none k lt h = none k lt (inl (v, h, refl))

      wants : (o : ℕ) (l : Location) → Reads setting (order setting Part s o) (nth Part o) l → ((k : ℕ) → k < o → Wr k l → ⊥) → Wanted l
      wants o l rd none v e =
          ⊎_elim
          (λ h.
          let q : Of h.0 ≡ Of v = sym h.2 ∙ e in
          let same_v : h.0 ≡ v = cc in
          alive_read m Part v (Ends_ v) o (subst (λ z. IsIn z (item_reads (nth Part o))) same_v h.1) (unwritten o v (λ k lt w. none k lt (subst (λ z. Wr k z) (sym e) w))))
          (λ h. absurd (takes_no_value setting (order setting Part s o) (nth Part o) l v h e))
          rd

      abbrev T : State → Hop
      T u = timed_from_start setting times latency Reg (drop rejoin Reg.words) u

      region_early : (u : State) (h : Hop) → early_words setting Reg (words_from (row W_ M_ 0 (length Part)) rejoin (length Reg.words - rejoin)) u ≡ h → T u ≡ h
      region_early u h e = timed_is_early setting times latency Reg (in_time setting apart) rejoin u ∙ ap (λ z. early_words setting Reg z u) (words_below I W place rejoin within above M Reg.words words low) ∙ e

      -- what is left, once the copies on the way in are done
      abbrev Left : Hop
      Left = after_ops setting Copies t (λ u. with_copies setting m r (T u))

      -- the trace leaves by its split at place e
      module _ (h : Hop) (e : ℕ) (left : LeavesAt setting Part s h e) (p : ℕ) (off : Edge) (d : ℕ) (y : Bool) (at_e : nth Part e ≡ Split p y off d) (out : leaves_on ((order setting Part s e).values p) y ≡ Some true) (is_h : h ≡ Arrives off.from off.to (order setting Part s e)) where
        is_sp : (z : ℕ) → e ≡ z → IsSplit (nth Part z)
        is_sp z q = subst (λ y. IsSplit (nth Part y)) q (split_is (nth Part e) p off d y at_e)

        lo : rejoin ≤ W_ e
        lo = late e (is_sp e refl)

        abbrev F : RowFacts setting Part W_ M_ (item_latency latency) (length Reg.words) (AfterOf m Part)
        F = part_facts setting apart

        abbrev Z : ℕ → State
        Z = X setting Part W_ M_ (item_latency latency) (length Reg.words) (AfterOf m Part) F rejoin s t same Wanted start wants e p off d y at_e left.inside lo left.passes

        abbrev Last : ℕ
        Last = length Part + (W_ e + 1 + e)

        below_e : (l : Location) (k : ℕ) → e ≤ k → Wr k l → e < k
        below_e l k le w = ⊎_elim (λ q. absurd (split_writes_none setting (order setting Part s k) (nth Part k) l (is_sp k q) w)) (λ x. ⊎_elim (λ a. a) (λ a. absurd (omega arith)) x) (cases_order e k)

        finely : (l : Location) → ((k : ℕ) → e ≤ k → Wr k l → W_ e < W_ k) → (((k : ℕ) → k < e → Wr k l → ⊥) → Wanted l) → Fine l (at (order setting Part s e) l) (at (Z Last) l)
        finely l later want = at_edge setting Part W_ M_ (item_latency latency) (length Reg.words) (AfterOf m Part) F rejoin s t same Wanted start wants e p off d y at_e left.inside lo left.passes l later want

        firm_later : (l : Location) → ((v : ℕ) → l ≡ Of v → ⊥) → (k : ℕ) → e ≤ k → Wr k l → W_ e < W_ k
        firm_later l other k le w =
            ⊎_elim
            (λ h. absurd (other h.0 h.2))
            (λ h. F.held e k (below_e l k le w) (is_sp e refl) (gives_firm setting (order setting Part s k) (nth Part k) l h))
            w

        after_e : (v : ℕ) → Live m off.to v → AfterItem m (nth Part e) v
        after_e v live = subst (λ z. AfterItem m z v) (sym at_e) live

        value_later : (v : ℕ) → Live m off.to v → (k : ℕ) → e ≤ k → Wr k (Of v) → W_ e < W_ k
        value_later v live k le w =
            ⊎_elim
            (λ h.
            let q : Of h.0 ≡ Of v = sym h.2 in
            let same_v : h.0 ≡ v = cc in
            F.kept e k v (below_e (Of v) k le w) (is_sp e refl) (after_e v live) (subst (λ z. IsIn z (item_writes (nth Part k))) same_v h.1))
            (λ h. absurd (gives_no_value setting (order setting Part s k) (nth Part k) (Of v) v h refl))
            w

        agrees : Agree (Live m off.to) (order setting Part s e) (Z Last)
        agrees = agree_of_fine (Live m off.to) (order setting Part s e) (Z Last)
            (shape_trans (order setting Part s e) s (Z Last) (shape_sym s (order setting Part s e) (order_shape setting Part s e)) (shape_trans s t (Z Last) same (words_shape setting (laid (form Part M_ (length Part) (W_ e)) (at_time W_ (length Part) rejoin (W_ e) e)) t Last)))
            (λ a i. finely (Cell a i) (firm_later (Cell a i) (λ v (q : Cell a i ≡ Of v). cc)) (λ none v (q : Cell a i ≡ Of v). absurd (cc)))
            (finely TheInput (firm_later TheInput (λ v (q : TheInput ≡ Of v). cc)) (λ none v (q : TheInput ≡ Of v). absurd (cc)))
            (finely TheOutput (firm_later TheOutput (λ v (q : TheOutput ≡ Of v). cc)) (λ none v (q : TheOutput ≡ Of v). absurd (cc)))
            (λ v live. finely (Of v) (value_later v live) (λ none u (q : Of v ≡ Of u).
            let same_v : v ≡ u = cc in
            subst (λ z. Alive m Part z (Ends_ z)) same_v (alive_edge m Part v (Ends_ v) e (after_e v live) (unwritten e v none))))

        whole_e : nth I (place + e) ≡ Split p y off d
        whole_e = sym (nth_drop I place e) ∙ at_e

        by_split : Alike m is_same h Left
        by_split =
            let x = leaves_by setting Part W_ M_ (item_latency latency) (length Reg.words) (AfterOf m Part) F rejoin s t same Wanted start wants e p off d y at_e left.inside lo left.passes out Reg in
            let other : x.0 ≡ record off { to = To_ off.from off.to } = split_placed To_ r.trace.ops r.clusters r.words r.drains [] (place + e) p d x.1 y off x.0 c.clusters_fit c.words_fit whole_e x.2 in
            let on_it : on_edge r.made off ≡ copies (λ k. nat_lt (W_ e) (W_ k)) (nth Part) 0 e = c.at_splits (place + e) p d y off whole_e ∙ split_copies I W place rejoin within above e (splits_below (place + e) (omega arith) (subst IsSplit (sym whole_e) tt)) in
            let copied : block_hop setting 0 (on_edge r.made off) (Goto 0) (Z (length Part + (W_ e + 1))) ≡ leave 0 (Goto 0) (Z Last) =
            ap (λ z. block_hop setting 0 z (Goto 0) (Z (length Part + (W_ e + 1)))) on_it
            ∙ by_edge setting Part W_ M_ (item_latency latency) (length Reg.words) (AfterOf m Part) F rejoin s t same Wanted start wants e p off d y at_e left.inside lo left.passes 0 (Goto 0) in
            let words_so : with_copies setting m r (T (Z (length Part))) ≡ Arrives off.from off.to (Z Last) =
            ap (with_copies setting m r) (region_early (Z (length Part)) (Arrives x.0.from x.0.to (Z (length Part + (W_ e + 1)))) x.3)
            ∙ ap (λ (z : Edge). with_copies setting m r (Arrives z.from z.to (Z (length Part + (W_ e + 1))))) other
            ∙ out_by setting off (Z (length Part + (W_ e + 1))) (Z Last) (leaves_off (place + e) p d y off whole_e) copied in
            let is_left : Left ≡ Arrives off.from off.to (Z Last) =
            after_is setting Copies t (Z (length Part)) (by_join setting Part W_ M_ (item_latency latency) (length Reg.words) (AfterOf m Part) F rejoin s t same Wanted start wants e p off d y at_e left.inside lo left.passes 0 (Goto 0)) (λ u. with_copies setting m r (T u))
            ∙ words_so in
            let both : Alike m is_same (Arrives off.from off.to (order setting Part s e)) (Arrives off.from off.to (Z Last)) = (eq-eqb off.to off.to refl, agrees) in
            subst (λ z. Alike m is_same z Left) (sym is_h) (subst (Alike m is_same (Arrives off.from off.to (order setting Part s e))) (sym is_left) both)

      -- the trace runs to its end
      module _ (h : Hop) (ran : RunsOut setting Part s h End (exit_of m r)) where
        abbrev F_ : RowFacts setting Part W_ M_ (item_latency latency) (length Reg.words) (AfterOf m Part)
        F_ = part_facts setting apart

        abbrev Z_ : ℕ → State
        Z_ = Y setting Part W_ M_ (item_latency latency) (length Reg.words) (AfterOf m Part) F_ rejoin s t same Wanted start wants low ran.passes

        abbrev Last_ : ℕ
        Last_ = length Part + length Reg.words

        finely_ : (l : Location) → (((k : ℕ) → k < length Part → Wr k l → ⊥) → Wanted l) → Fine l (at (order setting Part s (length Part)) l) (at (Z_ Last_) l)
        finely_ l want = at_end setting Part W_ M_ (item_latency latency) (length Reg.words) (AfterOf m Part) F_ rejoin s t same Wanted start wants low ran.passes l want

        agrees_ : Agree Ends_ (order setting Part s (length Part)) (Z_ Last_)
        agrees_ = agree_of_fine Ends_ (order setting Part s (length Part)) (Z_ Last_)
            (shape_trans (order setting Part s (length Part)) s (Z_ Last_) (shape_sym s (order setting Part s (length Part)) (order_shape setting Part s (length Part))) (shape_trans s t (Z_ Last_) same (words_shape setting (laid (form Part M_ (length Part) (length Reg.words)) (at_time W_ (length Part) rejoin (length Reg.words) (length Part))) t Last_)))
            (λ a i. finely_ (Cell a i) (λ none v (q : Cell a i ≡ Of v). absurd (cc)))
            (finely_ TheInput (λ none v (q : TheInput ≡ Of v). absurd (cc)))
            (finely_ TheOutput (λ none v (q : TheOutput ≡ Of v). absurd (cc)))
            (λ v live. finely_ (Of v) (λ none u (q : Of v ≡ Of u).
            let same_v : v ≡ u = cc in
            subst (λ z. Alive m Part z (Ends_ z)) same_v (alive_end m Part v (Ends_ v) live (unwritten (length Part) v none))))

        by_end : Alike m is_same h Left
        by_end =
            let is_left : Left ≡ leave End (exit_of m r) (Z_ Last_) =
            after_is setting Copies t (Z_ (length Part)) (by_join_ setting Part W_ M_ (item_latency latency) (length Reg.words) (AfterOf m Part) F_ rejoin s t same Wanted start wants low ran.passes 0 (Goto 0)) (λ u. with_copies setting m r (T u))
            ∙ ap (with_copies setting m r) (region_early (Z_ (length Part)) (leave Reg.from Reg.last (Z_ Last_)) (runs_out setting Part W_ M_ (item_latency latency) (length Reg.words) (AfterOf m Part) F_ rejoin s t same Wanted start wants low ran.passes Reg))
            ∙ exit_is setting m r (To_ End) End (exit_of m r) (Z_ Last_) last_ends in
            let both : Alike m is_same (leave End (exit_of m r) (order setting Part s (length Part))) (leave End (exit_of m r) (Z_ Last_)) =
            leave_alike m is_same End End (exit_of m r) (exit_of m r) (same_exit (exit_of m r)) (order setting Part s (length Part)) (Z_ Last_) agrees_.world (λ v l n q. agrees_.values v n l q) in
            subst (λ z. Alike m is_same z Left) (sym ran.leaves) (subst (Alike m is_same (leave End (exit_of m r) (order setting Part s (length Part)))) (sym is_left) both)

      pub leaves_so : Alike m is_same (trace_hop setting Part End (exit_of m r) s) Left
      leaves_so = by (trace_hop setting Part End (exit_of m r) s) refl
        where
          by : (h : Hop) → trace_hop setting Part End (exit_of m r) s ≡ h → Alike m is_same h Left
          by h e =
              ⊎_elim
              (λ w. subst (λ z. Alike m is_same z Left) (sym w) tt)
              (λ x. ⊎_elim
              (λ y. let q = split_by (nth Part y.0) (order setting Part s y.0) h y.1.leaves in by_split h y.0 y.1 q.0 q.1 q.2 q.3 q.4 q.5 q.6)
              (λ ran. by_end h ran)
              x)
              (how_it_ends setting Part End (exit_of m r) s h e)

  -- from the start, and from each joining edge

  pub from_start : (setting : Setting) → StandApart m.arrays setting.spot → (times : List ℕ) (s t : State) → Agree (λ v. Alive m I v (AtEnd m (exit_of m r) v)) s t →
      Alike m is_same (trace_hop setting I End (exit_of m r) s) (with_copies setting m r (timed_from_start setting times latency Reg (drop 0 Reg.words) t))
  from_start setting apart times s t agree =
      let low : 0 ≤ length Reg.words = omega arith in
      let h = leaves_so 0 0 (omega arith) low (λ k lt. absurd (omega arith)) (λ k le sp. omega arith) (inl refl) setting apart times s t agree in
      let none : copies (λ k. nat_lt (W (0 + k)) 0) (λ k. M (0 + k)) 0 (length I) ≡ [] = no_copies (λ k. nat_lt (W (0 + k)) 0) (λ k. M (0 + k)) (λ k. le-ltb (W (0 + k)) 0 (omega arith)) (length I) 0 in
      subst (λ z. Alike m is_same (trace_hop setting I End (exit_of m r) s) (after_ops setting z t (λ u. with_copies setting m r (timed_from_start setting times latency Reg (drop 0 Reg.words) u)))) none h

  rejoin_low : (q rejoin : ℕ) → q ≤ length I → IsRejoin W q rejoin → rejoin ≤ length Reg.words
  rejoin_low q rejoin le h = ⊎_elim (λ z. omega arith) (λ x. let a = x.1 in let b = x.2 in let i = placed.inside x.0 (omega arith) in omega arith) h.1

  rejoin_splits : (q rejoin : ℕ) → is_join_place r.trace.joins q ≡ true → IsRejoin W q rejoin → (k : ℕ) → q ≤ k → IsSplit (nth I k) → rejoin ≤ W k
  rejoin_splits q rejoin join h k le s =
      ⊎_elim
      (λ z. omega arith)
      (λ x.
      let a = x.1 in
      let b = x.2 in
      let f = meets x.0 k 1 (omega arith) (split_in_trace I k s) (below_join q join a le (inl s)) in
      omega arith)
      h.1

  pub from_edge : (i rejoin : ℕ) (j : Join) (e : Edge) → slice_get r.trace.joins i ≡ Some j → slice_get r.rejoins i ≡ Some rejoin → IsIn e j.edges →
      (setting : Setting) → StandApart m.arrays setting.spot → (times : List ℕ) (s t : State) → Agree (λ v. Alive m (drop j.place I) v (AtEnd m (exit_of m r) v)) s t →
      Alike m is_same (trace_hop setting (drop j.place I) End (exit_of m r) s) (after_ops setting (on_edge r.made e) t (λ u. with_copies setting m r (timed_from_start setting times latency Reg (drop rejoin Reg.words) u)))
  from_edge i rejoin j e at_j at_w on setting apart times s t agree =
      let w = c.rejoins i j at_j in
      let same_word : w.0 ≡ rejoin = some_same (slice_get r.rejoins i) w.0 rejoin w.1 at_w in
      let is : IsRejoin W j.place rejoin = subst (IsRejoin W j.place) same_word w.2 in
      let has = index_in r.trace.joins i j at_j in
      let within : j.place ≤ length I = let z = length_items r.trace.ops r.clusters in let p = c.join_places j has in omega arith in
      let join : is_join_place r.trace.joins j.place ≡ true = any_of (λ (x : Join). x.place == j.place) r.trace.joins j has (eq-eqb j.place j.place refl) in
      let low = rejoin_low j.place rejoin within is in
      let h = leaves_so j.place rejoin within low is.0 (rejoin_splits j.place rejoin join is) (inr join) setting apart times s t agree in
      let on_it = c.at_joins i rejoin j e at_j at_w on ∙ join_copies I W M j.place rejoin in
      subst (λ z. Alike m is_same (trace_hop setting (drop j.place I) End (exit_of m r) s) (after_ops setting z t (λ u. with_copies setting m r (timed_from_start setting times latency Reg (drop rejoin Reg.words) u)))) (sym on_it) h
