-- A compensated placement keeps what is live at the entrances that the two graphs share: the part of that law which goes forward.
use Rattle.std.proofs.Common.{◌≡◌, ◌≢◌, ℕ, ◌+◌, ◌-◌, ◌<◌, ◌≤◌, Bool, true, false, ◌&&◌, Option, Some, None, List, [], ◌∷◌, ◌++◌, length, map, drop, slice_get, refl, sym, ap, ◌∙◌, subst, ⊎_elim, inl, inr, arith}
use Rattle.std.specs.Prelude.{◌⊎◌, ◌==◌, not, nat_lt, if◌then◌else◌}
use Rattle.std.specs.List.{list_any}
use Rattle.std.proofs.lemmas.Bool.{and_parts, or_cases, eqb-true, eq-eqb, ne_eqb, le-ltb, cases_Bool, cases_eq}
use Rattle.vx_flow.specs.declared.graph.Edge.{Edge}
use Rattle.vx_flow.specs.declared.graph.Op.{Op}
use Rattle.vx_flow.specs.declared.trace.TraceOp.TheVariants.{Split as TraceSplit}
use Rattle.vx_flow.specs.declared.trace.Join.{Join}
use Rattle.vx_flow.specs.Effects.{IsIn}
use Rattle.vx_flow.specs.Sound.{targets_of}
use Rattle.vx_flow.specs.Walk.{edge}
use Rattle.vx_flow.proofs.Apart.{itself_apart}
use Rattle.vx_flow.proofs.SoundLists.{any_in, any_of}
use Rattle.vx_mixed.specs.declared.region.Item.{Item}
use Rattle.vx_mixed.specs.declared.region.Item.TheVariants.{Split}
use Rattle.vx_mixed.specs.declared.region.Node.{Node}
use Rattle.vx_mixed.specs.declared.region.Node.TheVariants.{Unused, Enters, Inner}
use Rattle.vx_mixed.specs.declared.region.Region.{Region}
use Rattle.vx_mixed.specs.declared.mixed.MixedGraph.{MixedGraph}
use Rattle.vx_mixed.specs.declared.replacement.Replacement.{Replacement}
use Rattle.vx_mixed.specs.Edges.{IsEdge, of_block, of_split, of_last}
use Rattle.vx_mixed.specs.Entrances.{stays, joined_at}
use Rattle.vx_mixed.specs.Live.{Live}
use Rattle.vx_mixed.specs.Next.{last_of, exit_in, is_split_edge, rejoin_at, entered_at, renamed_exit, renamed_region, renamed_node, new_region, trace_node, on_edge}
use Rattle.vx_mixed.specs.Path.{Path}
use Rattle.vx_mixed.specs.Settled.{InTime}
use Rattle.vx_mixed.specs.TraceItems.{plain_items}
use Rattle.vx_mixed.specs.TraceOf.{trace_ops, inner_edges}
use Rattle.vx_mixed.specs.Valid.{Valid, is_entrance, is_in_region}
use Rattle.vx_mixed.specs.Way.{item_latency, Renamed, LeadsIn, LeadsOut, at_once}
use Rattle.vx_mixed.proofs.Linked.{index_in, in_index, New, To, MeetOld, MeetNew, Pairs, InnerEdge, can, meets_not, meets, unused, no_region, edge_block, off_trace, joins, leads_out, first_node, leads_in, exit_renamed, from_outside, arrives}
use Rattle.vx_mixed.proofs.NewNodes.{node_old, front_get, map_get}
use Rattle.vx_mixed.proofs.PathOf.{Ways, ways_behind, path_of}
use Rattle.vx_mixed.proofs.TraceFacts.{is_split, last_none, last_among}
use Rattle.vx_motion.specs.Compensation.{items, word, mark, is_join_place, blocks_from, IsRejoin, exit_of, Compensated}
use Rattle.vx_motion.specs.Facts.{RowFacts, IsSplit, row, words_from, copies}
use Rattle.vx_motion.specs.Replaced.{CellFacts}
use Rattle.vx_motion.specs.Rows.{below_join, Meets, Placed}
use Rattle.vx_motion.specs.Trace.{AfterOf, nth}
use Rattle.vx_motion.specs.Unchanged.{Outside, block as as_block, region as as_region}
use Rattle.vx_motion.proofs.Delays.{split_in_trace}
use Rattle.vx_motion.proofs.Joins.{nth_drop, no_copies, join_copies, words_below, split_copies, below, in_order}
use Rattle.vx_motion.proofs.PlacedWords.{length_items, split_at, split_placed}
use Rattle.vx_motion.proofs.Replacements.{linkable, words_are_rows, is_placed, is_met}
use Rattle.vx_motion.proofs.Rows.{cell_facts, row_facts}
use Rattle.vx_region.proofs.LiveForth.{Wants, AtExit, Kept, Entry, live_forth}

none_any : (b : ℕ) (xs : List ℕ) → (IsIn b xs → ⊥) → list_any (λ x. x == b) xs ≡ false
none_any b xs n = ⊎_elim (λ t. let f = any_in (λ x. x == b) xs t in absurd (n (subst (λ z. IsIn z xs) (eqb-true f.item b f.holds) f.has))) (λ f. f) (cases_Bool (list_any (λ x. x == b) xs))

module _ (latency : Op → ℕ) (m : MixedGraph) (r : Replacement) (valid : Valid m) (in_time : (q : ℕ) (g : Region) → slice_get m.regions q ≡ Some g → InTime latency g) (c : Compensated latency m r) (first : ℕ) (others : List ℕ) (blocks_are : r.trace.blocks ≡ first ∷ others) (live : ℕ → List ℕ) (v : ℕ) where
  abbrev NewM : MixedGraph
  NewM = New m r valid (linkable c) first others blocks_are

  abbrev I : List Item
  I = items r

  abbrev W : ℕ → ℕ
  W = word r

  abbrev M : ℕ → Item
  M = mark m r

  abbrev Reg : Region
  Reg = new_region m r

  abbrev To_ : ℕ → ℕ → ℕ
  To_ = To m r valid (linkable c) first others blocks_are

  abbrev Old : ℕ → ℕ → Bool
  Old = MeetOld m r valid (linkable c) first others blocks_are

  abbrev Now : ℕ → ℕ → Bool
  Now = MeetNew m r valid (linkable c) first others blocks_are

  abbrev Pair : ℕ → ℕ → Bool
  Pair = Pairs m r valid (linkable c) first others blocks_are

  abbrev Q : ℕ → Type 0
  Q = Kept m NewM Pair v

  abbrev End : Type 0
  End = AtExit Q (exit_of m r) v

  -- paths

  ways : Ways m Old live (first ∷ others)
  ways =
      let k = can m r valid (linkable c) first others blocks_are in
      record {
        unused = k.unused;
        parts = λ b x at. (valid.block_parts b x at).0;
        once = k.once;
        follow = λ a b x h at. edge_block m r valid (linkable c) first others blocks_are a b x (k.follow (edge a b) h) at;
        no_call = λ a b x h at. k.no_call (edge a b) x h at;
        inner = meets_not m r valid (linkable c) first others blocks_are;
        outer = λ a b x h at t n. meets m r valid (linkable c) first others blocks_are a b n;
      }

  path_from : (b0 : ℕ) (bs : List ℕ) (b : ℕ) → Ways m Old live (b0 ∷ bs) → IsIn b (b0 ∷ bs) → Path m Old b (plain_items (trace_ops m live (blocks_from b (b0 ∷ bs)))) (last_of (b0 ∷ bs)) (exit_in (slice_get m.nodes (last_of (b0 ∷ bs))))
  path_from b0 [] b w h =
      let e : b0 ≡ b = ⊎_elim (λ q. sym q) (λ z. absurd z) h in
      subst (λ z. Path m Old b (plain_items (trace_ops m live z)) b0 (exit_in (slice_get m.nodes b0))) (sym (ap (λ t. if t then b0 ∷ [] else []) (eq-eqb b0 b e))) (subst (λ z. Path m Old z (plain_items (trace_ops m live (b0 ∷ []))) b0 (exit_in (slice_get m.nodes b0))) e (path_of m Old live b0 [] w))
  path_from b0 (c0 ∷ bs) b w h =
      let rest = path_from c0 bs b (ways_behind m Old live b0 c0 bs w) in
      ⊎_elim
      (λ e. subst (λ z. Path m Old b (plain_items (trace_ops m live z)) (last_of (c0 ∷ bs)) (exit_in (slice_get m.nodes (last_of (c0 ∷ bs))))) (sym (ap (λ t. if t then b0 ∷ c0 ∷ bs else blocks_from b (c0 ∷ bs)) (eq-eqb b0 b e))) (subst (λ z. Path m Old z (plain_items (trace_ops m live (b0 ∷ c0 ∷ bs))) (last_of (c0 ∷ bs)) (exit_in (slice_get m.nodes (last_of (c0 ∷ bs))))) e (path_of m Old live b0 (c0 ∷ bs) w)))
      (λ n. subst (λ z. Path m Old b (plain_items (trace_ops m live z)) (last_of (c0 ∷ bs)) (exit_in (slice_get m.nodes (last_of (c0 ∷ bs))))) (sym (ap (λ t. if t then b0 ∷ c0 ∷ bs else blocks_from b (c0 ∷ bs)) (ne_eqb b0 b n))) (rest (⊎_elim (λ e. absurd (n (sym e))) (λ q. q) h)))
      (cases_eq b0 b)

  path_first : Path m Old first (plain_items (trace_ops m live (first ∷ others))) (last_of r.trace.blocks) (exit_of m r)
  path_first = subst (λ z. Path m Old first (plain_items (trace_ops m live (first ∷ others))) (last_of z) (exit_in (slice_get m.nodes (last_of z)))) (sym blocks_are) (path_of m Old live first others ways)

  path_at : (b : ℕ) → IsIn b (first ∷ others) → Path m Old b (plain_items (trace_ops m live (blocks_from b r.trace.blocks))) (last_of r.trace.blocks) (exit_of m r)
  path_at b h = subst (λ z. Path m Old b (plain_items (trace_ops m live (blocks_from b z))) (last_of z) (exit_in (slice_get m.nodes (last_of z)))) (sym blocks_are) (path_from first others b ways h)

  -- edges out

  leaves : (e p d g : ℕ) (y : Bool) (off off' : Edge) → nth I e ≡ Split p y off d → M e ≡ Split p y off' g → LeadsOut NewM Now Pair (copies (λ k. nat_lt (W e) (W k)) (nth I) 0 e) off'.from off'.to off.to
  leaves e p d g y off off' at_e at_m =
      let s = split_at r.trace.ops r.clusters e p d y off at_e in
      let t = is_split r.trace.ops p y off s.0 (index_in r.trace.ops e (TraceSplit p y off s.0) s.1) in
      let q = split_placed To_ r.trace.ops r.clusters r.words r.drains [] e p d g y off off' c.clusters_fit c.words_fit at_e at_m in
      subst (λ z. LeadsOut NewM Now Pair z off'.from off'.to off.to) (c.at_splits e p d y off at_e)
      (subst (λ (z : Edge). LeadsOut NewM Now Pair (on_edge r.made off) z.from z.to off.to) (sym q) (leads_out m r valid (linkable c) first others blocks_are off.from off.to t))

  last_exit : Renamed Pair (exit_of m r) Reg.last
  last_exit = (exit_renamed m r valid (linkable c) first others blocks_are (last_of r.trace.blocks) (exit_of m r) each).0
    where
      q : last_of r.trace.blocks ≡ last_of (first ∷ others)
      q = ap last_of blocks_are

      each : (b : ℕ) → IsIn b (targets_of (exit_of m r)) → IsEdge m (edge (last_of r.trace.blocks) b) × (InnerEdge m r valid (linkable c) first others blocks_are (last_of r.trace.blocks) b → ⊥) × (is_split_edge r.trace.ops (edge (last_of r.trace.blocks) b) ≡ false)
      each b t =
          let u = unused m r valid (linkable c) first others blocks_are (last_of (first ∷ others)) (last_among first others) in
          let at : slice_get m.nodes (last_of r.trace.blocks) ≡ Some (Unused u.0) = ap (slice_get m.nodes) q ∙ u.1 in (
            of_block {block = u.0} at (subst (λ x. IsIn b (targets_of x)) (ap exit_in at) t),
            (λ h. last_none first others b (can m r valid (linkable c) first others blocks_are).once (subst (λ z. IsIn (edge z b) (inner_edges (first ∷ others))) q h)),
            ⊎_elim (λ s. absurd ((off_trace m r valid (linkable c) first others blocks_are (last_of r.trace.blocks) b s).not_last q)) (λ f. f) (cases_Bool (is_split_edge r.trace.ops (edge (last_of r.trace.blocks) b))),
          )

  -- outside of the trace

  other_node : (b : ℕ) (k : Node) → (IsIn b (first ∷ others) → ⊥) → trace_node m r r.trace.blocks b k ≡ renamed_node To_ b k
  other_node b k n =
      ap (λ z. trace_node m r z b k) blocks_are
      ∙ ap (λ t. if t then Enters (length m.regions) 0 else if list_any (λ x. x == b) others then entered_at (length m.regions) (rejoin_at r.trace.joins r.rejoins b) else renamed_node To_ b k) (ne_eqb first b (λ e. n (inl (sym e))))
      ∙ ap (λ t. if t then entered_at (length m.regions) (rejoin_at r.trace.joins r.rejoins b) else renamed_node To_ b k) (none_any b others (λ h. n (inr h)))

  not_inside : (b : ℕ) → is_in_region (slice_get m.nodes b) ≡ true → IsIn b (first ∷ others) → ⊥
  not_inside b t h = no_region m r valid (linkable c) first others blocks_are b h t

  outside : (b : ℕ) → (IsIn b (first ∷ others) → ⊥) → is_entrance (slice_get m.nodes b) ≡ true → Outside latency m NewM Old Now Pair b b
  outside b n e = by (slice_get m.nodes b) refl e
    where
      away : (a d : ℕ) → (IsIn a (first ∷ others) → ⊥) → (InnerEdge m r valid (linkable c) first others blocks_are a d → ⊥) × (is_split_edge r.trace.ops (edge a d) ≡ false)
      away a d f = from_outside m r valid (linkable c) first others blocks_are a d f

      by : (o : Option Node) → slice_get m.nodes b ≡ o → is_entrance o ≡ true → Outside latency m NewM Old Now Pair b b
      by None at t = absurd (cc)
      by (Some Inner) at t = absurd (cc)
      by (Some (Unused k)) at t =
          let x = exit_renamed m r valid (linkable c) first others blocks_are b k.exit (λ d h. (of_block {block = k} at h, (away b d n).0, (away b d n).1)) in
          as_block k.ops k.exit (renamed_exit (To_ b) k.exit) at (node_old m r b (Unused k) at ∙ ap Some (other_node b (Unused k) n)) x.0 (λ d h. meets m r valid (linkable c) first others blocks_are b d (away b d n).0) x.1
      by (Some (Enters q w)) at t =
          let g = valid.enters b q w at in
          let last_away = not_inside g.0.from (valid.last_from q g.0 g.1) in
          let x = exit_renamed m r valid (linkable c) first others blocks_are g.0.from g.0.last (λ d h. (of_last q g.0 g.1 refl h, (away g.0.from d last_away).0, (away g.0.from d last_away).1)) in
          as_region q q w g.0 (renamed_region To_ g.0) at g.1 (node_old m r b (Enters q w) at ∙ ap Some (other_node b (Enters q w) n))
          (front_get (map (renamed_region To_) m.regions) (Reg ∷ []) q (renamed_region To_ g.0) (map_get (renamed_region To_) m.regions q g.0 g.1))
          (record {
            to = To_;
            words = refl;
            last = x.0;
            edges = λ j p d off y wd at_j h.
                let f = away off.from off.to (not_inside off.from (valid.splits_from q j p d y off g.0 wd g.1 at_j h)) in
                let a = arrives m r valid (linkable c) first others blocks_are off.from off.to (of_split q j p d y g.0 wd g.1 at_j h) f.0 f.1 in
                (a.0, meets m r valid (linkable c) first others blocks_are off.from off.to f.0, a.1);
            last_old = λ d h. meets m r valid (linkable c) first others blocks_are g.0.from d (away g.0.from d last_away).0;
            last_new = x.1;
            settled_old = in_time q g.0 g.1;
            drain = refl;
          })

  -- what the delays give

  words : Reg.words ≡ words_from (row W M 0 (length I)) 0 (length Reg.words)
  words = words_are_rows latency m r c

  placed : Placed I (item_latency latency) W M (length Reg.words)
  placed = is_placed latency m r c

  table : Meets I (item_latency latency) (AfterOf m I) c.never (is_join_place r.trace.joins) W
  table = is_met latency m r c valid first others blocks_are

  cells : (q : ℕ) → q ≤ length I → ((q ≡ 0) ⊎ (is_join_place r.trace.joins q ≡ true)) → CellFacts in_order (drop q I) (λ k. W (q + k))
  cells q le h = cell_facts in_order I (item_latency latency) (AfterOf m I) c.never (is_join_place r.trace.joins) W M (length Reg.words) table placed q le (c.apart in_order (itself_apart m.arrays) q h)

  all_cells : CellFacts in_order I W
  all_cells =
      let f = cells 0 (omega arith) (inl refl) in
      record {
        flow = λ s i o l lt a b. let x : 0 + i ≡ i = omega arith in let y : 0 + o ≡ o = omega arith in subst (λ z. W z < W o) x (subst (λ z. W (0 + i) < W z) y (f.flow s i o l lt a b));
        anti = λ s o k l lt a b. let x : 0 + o ≡ o = omega arith in let y : 0 + k ≡ k = omega arith in subst (λ z. W z ≤ W k) x (subst (λ z. W (0 + o) ≤ W z) y (f.anti s o k l lt a b));
        output = λ s i k l lt a b. let x : 0 + i ≡ i = omega arith in let y : 0 + k ≡ k = omega arith in subst (λ z. W z < W k) x (subst (λ z. W (0 + i) < W z) y (f.output s i k l lt a b));
      }

  facts : RowFacts in_order I W M (item_latency latency) (length Reg.words) (AfterOf m I)
  facts = row_facts in_order I (item_latency latency) (AfterOf m I) c.never (is_join_place r.trace.joins) W M (length Reg.words) table placed all_cells

  abbrev Ways_in : ℕ → ℕ → Type 0
  Ways_in b b' = Entry in_order latency m NewM Old Now Pair (length m.regions) Reg v b b' ⊎ Outside latency m NewM Old Now Pair b b'

  module _ (wants_start : Wants Q (plain_items (trace_ops m live (first ∷ others))) v End → Wants Q (items r) v End)
      (wants_join : (j : Join) → IsIn j r.trace.joins → Wants Q (plain_items (trace_ops m live (blocks_from j.block r.trace.blocks))) v End → Wants Q (drop j.place (items r)) v End) where
    -- from the start

    at_start : (b : ℕ) → b ≡ first → Entry in_order latency m NewM Old Now Pair (length m.regions) Reg v b b
    at_start b e = record {
      plain = plain_items (trace_ops m live (first ∷ others));
      items = I;
      end = last_of r.trace.blocks;
      exit = exit_of m r;
      word = W;
      mark = M;
      rejoin = 0;
      path = subst (λ z. Path m Old z (plain_items (trace_ops m live (first ∷ others))) (last_of r.trace.blocks) (exit_of m r)) (sym e) path_first;
      wants = wants_start;
      facts = facts;
      low = omega arith;
      late = λ k s. omega arith;
      words = words ∙ (let z : length Reg.words ≡ length Reg.words - 0 = omega arith in ap (words_from (row W M 0 (length I)) 0) z);
      enters = at_once (no_copies (λ k. nat_lt (W k) 0) M (λ k. le-ltb (W k) 0 (omega arith)) (length I) 0) (ap (slice_get NewM.nodes) e ∙ first_node m r valid (linkable c) first others blocks_are);
      leaves = leaves;
      last_exit = last_exit;
    }

    -- by a joining edge

    module _ (i rejoin : ℕ) (j : Join) (at_j : slice_get r.trace.joins i ≡ Some j) (at_w : slice_get r.rejoins i ≡ Some rejoin) (is : IsRejoin W j.place rejoin) where
      there : IsIn j r.trace.joins
      there = index_in r.trace.joins i j at_j

      inside : j.place ≤ length I
      inside = let s = length_items r.trace.ops r.clusters in let p = c.join_places j there in omega arith

      is_join : is_join_place r.trace.joins j.place ≡ true
      is_join = any_of (λ (x : Join). x.place == j.place) r.trace.joins j there (eq-eqb j.place j.place refl)

      low : rejoin ≤ length Reg.words
      low = let l = inside in ⊎_elim (λ z. omega arith) (λ x. let a = x.1 in let b = x.2 in let h = placed.inside x.0 (omega arith) in omega arith) is.1

      splits_below : (k : ℕ) → j.place ≤ k → IsSplit (nth I k) → rejoin ≤ W k
      splits_below k le s =
          ⊎_elim
          (λ z. omega arith)
          (λ x.
          let a = x.1 in
          let b = x.2 in
          let f = table x.0 k 1 (omega arith) (split_in_trace I k s) (below_join j.place is_join a le (inl s)) in
          omega arith)
          is.1

      at_join : (a b b' : ℕ) → j.block ≡ b → IsIn (edge a b) j.edges → To_ a b ≡ b' → Entry in_order latency m NewM Old Now Pair (length m.regions) Reg v b b'
      at_join a b b' same on goes =
          let J = joins m r valid (linkable c) first others blocks_are j a b there on in
          let in_blocks : IsIn j.block (first ∷ others) = subst (λ z. IsIn z (first ∷ others)) J.block (inr J.behind) in
          record {
            plain = plain_items (trace_ops m live (blocks_from j.block r.trace.blocks));
            items = drop j.place I;
            end = last_of r.trace.blocks;
            exit = exit_of m r;
            word = λ k. W (j.place + k);
            mark = λ k. M (j.place + k);
            rejoin = rejoin;
            path = subst (λ z. Path m Old z (plain_items (trace_ops m live (blocks_from j.block r.trace.blocks))) (last_of r.trace.blocks) (exit_of m r)) same (path_at j.block in_blocks);
            wants = wants_join j there;
            facts = below in_order I W M (item_latency latency) (length Reg.words) m facts j.place inside (cells j.place inside (inr is_join));
            low = low;
            late = λ k s. splits_below (j.place + k) (omega arith) (subst IsSplit (nth_drop I j.place k) s);
            words = words_below I W j.place rejoin inside is.0 M Reg.words words low;
            enters = subst (λ z. LeadsIn NewM Now (length m.regions) rejoin z b') (c.at_joins i rejoin j (edge a b) at_j at_w on ∙ join_copies I W M j.place rejoin)
                (subst (LeadsIn NewM Now (length m.regions) rejoin (on_edge r.made (edge a b))) goes (leads_in m r valid (linkable c) first others blocks_are i rejoin a b j at_j at_w on));
            leaves = λ e p d g y off off' at_e at_m.
                let at' : nth I (j.place + e) ≡ Split p y off d = sym (nth_drop I j.place e) ∙ at_e in
                subst (λ z. LeadsOut NewM Now Pair z off'.from off'.to off.to) (split_copies I W j.place rejoin inside is.0 e (splits_below (j.place + e) (omega arith) (subst IsSplit (sym at') tt))) (leaves (j.place + e) p d g y off off' at' at_m);
            last_exit = last_exit;
          }

    stays_there : (b b' : ℕ) → (stays m r b && (b == b')) ≡ true → Ways_in b b'
    stays_there b b' h =
        let p = and_parts (stays m r b) (b == b') h in
        let s = and_parts (is_entrance (slice_get m.nodes b)) (not (list_any (λ x. x == b) (drop 1 r.trace.blocks))) p.0 in
        let same : b ≡ b' = eqb-true b b' p.1 in
        subst (Ways_in b) same
        (⊎_elim
        (λ e. inl (at_start b e))
        (λ n. inr (outside b (not_in n s.1) s.0))
        (cases_eq b first))
      where
        not_in : b ≢ first → not (list_any (λ x. x == b) (drop 1 r.trace.blocks)) ≡ true → IsIn b (first ∷ others) → ⊥
        not_in n t (inl e) = n e
        not_in n t (inr i) = let a = any_of (λ x. x == b) (drop 1 r.trace.blocks) b (subst (λ z. IsIn b (drop 1 z)) (sym blocks_are) i) (eq-eqb b b refl) in let z : false ≡ true = sym (ap not a) ∙ t in cc

    joined_there : (b b' : ℕ) → joined_at To_ r.trace.joins b b' ≡ true → Ways_in b b'
    joined_there b b' h =
        let f = any_in (λ (j : Join). (j.block == b) && list_any (λ (e : Edge). To_ e.from e.to == b') j.edges) r.trace.joins h in
        let p = and_parts (f.item.block == b) (list_any (λ (e : Edge). To_ e.from e.to == b') f.item.edges) f.holds in
        let g = any_in (λ (e : Edge). To_ e.from e.to == b') f.item.edges p.1 in
        let i = in_index r.trace.joins f.item f.has in
        let same : f.item.block ≡ b = eqb-true f.item.block b p.0 in
        let J = joins m r valid (linkable c) first others blocks_are f.item g.item.from g.item.to f.has g.has in
        let to : g.item.to ≡ b = J.block ∙ same in
        let w = c.rejoins i.0 f.item i.1 in
        inl (at_join i.0 w.0 f.item i.1 w.1 w.2 g.item.from b b' same (subst (λ z. IsIn (edge g.item.from z) f.item.edges) to g.has) (subst (λ z. To_ g.item.from z ≡ b') to (eqb-true (To_ g.item.from g.item.to) b' g.holds)))

    entries : (b b' : ℕ) → Pair b b' ≡ true → Ways_in b b'
    entries b b' h = ⊎_elim (stays_there b b') (joined_there b b') (or_cases (stays m r b && (b == b')) (joined_at To_ r.trace.joins b b') h)

    is_last : slice_get NewM.regions (length m.regions) ≡ Some Reg
    is_last = last_one m.regions
      where
        last_one : (gs : List Region) → slice_get (map (renamed_region To_) gs ++ Reg ∷ []) (length gs) ≡ Some Reg
        last_one [] = refl
        last_one (g ∷ gs) = last_one gs

    pub live_after : (b b' : ℕ) → Pair b b' ≡ true → Live m b v → Live NewM b' v
    live_after = live_forth in_order latency m NewM Old Now Pair (length m.regions) Reg is_last v entries
