-- A compensated placement keeps the meaning, tidy and settled.
use Rattle.std.proofs.Common.{◌≡◌, ◌≢◌, ℕ, suc, ◌+◌, ◌-◌, ◌<◌, Bool, true, false, ◌&&◌, Option, Some, None, List, [], ◌∷◌, ◌++◌, length, map, drop, slice_get, refl, sym, ap, ◌∙◌, subst, ⊎_elim, inl, inr, arith}
use Rattle.std.specs.Prelude.{◌⊎◌, ◌==◌, not, nat_lt, if◌then◌else◌}
use Rattle.std.specs.List.{list_any}
use Rattle.std.proofs.lemmas.Bool.{and_parts, or_cases, eqb-true, eq-eqb, ne_eqb, le-ltb, cases_Bool, cases_eq}
use Rattle.vx_flow.specs.declared.graph.Block.{Block}
use Rattle.vx_flow.specs.declared.graph.Edge.{Edge}
use Rattle.vx_flow.specs.declared.graph.Op.{Op}
use Rattle.vx_flow.specs.declared.trace.TraceOp.TheVariants.{Split as TraceSplit}
use Rattle.vx_flow.specs.declared.trace.Join.{Join}
use Rattle.vx_flow.specs.Effects.{IsIn}
use Rattle.vx_flow.specs.Sound.{targets_of}
use Rattle.vx_flow.specs.Walk.{edge}
use Rattle.vx_flow.proofs.SoundLists.{any_in, any_of}
use Rattle.vx_flow.proofs.IndexSteps.{get_below}
use Rattle.vx_mixed.specs.declared.region.Item.{Item}
use Rattle.vx_mixed.specs.declared.region.Item.TheVariants.{Split}
use Rattle.vx_mixed.specs.declared.region.Made.{Made}
use Rattle.vx_mixed.specs.declared.region.Node.{Node}
use Rattle.vx_mixed.specs.declared.region.Node.TheVariants.{Unused, Enters, Inner}
use Rattle.vx_mixed.specs.declared.region.Origin.{Origin}
use Rattle.vx_mixed.specs.declared.region.Region.{Region}
use Rattle.vx_mixed.specs.declared.mixed.MixedGraph.{MixedGraph}
use Rattle.vx_motion.specs.Trace.{nth}
use Rattle.vx_mixed.specs.Edges.{IsEdge, of_block, of_split, of_last}
use Rattle.vx_motion.specs.Facts.{copies}
use Rattle.vx_mixed.specs.Path.{Path}
use Rattle.vx_mixed.specs.Settled.{InTime, IsStart, block, region, made_at_split}
use Rattle.vx_motion.specs.Unchanged.{Outside, block as as_block, region as as_region}
use Rattle.vx_mixed.specs.Way.{Renamed, LeadsIn, LeadsOut, at_once}
use Rattle.vx_mixed.specs.declared.replacement.Replacement.{Replacement}
use Rattle.vx_mixed.specs.Next.{made_on, last_of, exit_in, is_split_edge, rejoin_at, entered_at, renamed_exit, renamed_region, renamed_node, new_region, trace_node, made_origin, on_edge}
use Rattle.vx_mixed.specs.TraceOf.{trace_ops, inner_edges}
use Rattle.vx_mixed.specs.Valid.{Valid, is_entrance, is_in_region}
use Rattle.vx_mixed.specs.Entrances.{stays, joined_at}
use Rattle.vx_motion.specs.Scheduled.{JoinEdge, Scheduled}
use Rattle.vx_motion.specs.Compensation.{items, word, mark, is_join_place, blocks_from, exit_of, Compensated, CompensationLaw}
use Rattle.vx_mixed.specs.TraceItems.{plain_items}
use Rattle.vx_mixed.proofs.Alike.{in_or}
use Rattle.vx_mixed.proofs.PathOf.{Ways, ways_behind, path_of}
use Rattle.vx_motion.proofs.PlacedWords.{length_items, split_at, split_placed}
use Rattle.vx_mixed.proofs.NewNodes.{made_some, made_here, node_old, node_new, origin_old, origin_made, front_get, map_get}
use Rattle.vx_mixed.proofs.TraceFacts.{is_split, last_none, last_among}
use Rattle.vx_mixed.proofs.Linked.{some_blocks, in_index, index_in, in_edge, New, To, MeetOld, MeetNew, Pairs, InnerEdge, can, meets_not, meets, pair_stays, pair_joined, unused, no_region, edge_block, off_trace, Joins, joins, some_edge, at_end, leads_out, first_node, leads_in, exit_renamed, from_outside, arrives}
use Rattle.vx_motion.proofs.Scheduled.{motion}
use Rattle.vx_motion.proofs.Joins.{no_copies}
use Rattle.vx_motion.proofs.Replacements.{linkable, words_are_rows, is_placed, is_met}

none_any : (b : ℕ) (xs : List ℕ) → (IsIn b xs → ⊥) → list_any (λ x. x == b) xs ≡ false
none_any b xs n = ⊎_elim (λ t. let f = any_in (λ x. x == b) xs t in absurd (n (subst (λ z. IsIn z xs) (eqb-true f.item b f.holds) f.has))) (λ f. f) (cases_Bool (list_any (λ x. x == b) xs))

split_origin : (o : Option (Option Origin)) → made_at_split o ≡ true → (origin : Origin) × (o ≡ Some (Some origin))
split_origin None h = absurd (cc)
split_origin (Some None) h = absurd (cc)
split_origin (Some (Some origin)) h = (origin, refl)

rejoin_of : (js : List Join) (ws : List ℕ) (b w : ℕ) → rejoin_at js ws b ≡ Some w → (i : ℕ) × (j : Join) × (slice_get js i ≡ Some j) × (slice_get ws i ≡ Some w) × (j.block ≡ b)
rejoin_of [] ws b w h = absurd (cc)
rejoin_of (j ∷ js) [] b w h = absurd (cc)
rejoin_of (j ∷ js) (v ∷ ws) b w h =
    ⊎_elim
    (λ t. let q : Some v ≡ Some w = sym (ap (λ z. if z then Some v else rejoin_at js ws b) t) ∙ h in (0, j, refl, q, eqb-true j.block b t))
    (λ f. let x = rejoin_of js ws b w (sym (ap (λ z. if z then Some v else rejoin_at js ws b) f) ∙ h) in (suc x.0, x.1, x.2, x.3, x.4))
    (cases_Bool (j.block == b))

module _ (latency : Op → ℕ) (m : MixedGraph) (r : Replacement) (valid : Valid m) (in_time : (q : ℕ) (g : Region) → slice_get m.regions q ≡ Some g → InTime latency g) (c : Compensated latency m r) (first : ℕ) (others : List ℕ) (blocks_are : r.trace.blocks ≡ first ∷ others) where
  abbrev NewM : MixedGraph
  NewM = New m r valid (linkable c) first others blocks_are

  abbrev I : List Item
  I = items r

  abbrev W : ℕ → ℕ
  W = word r

  abbrev M : ℕ → Item
  M = mark m r

  abbrev Reg : Region
  Reg = new_region m r

  abbrev To_ : ℕ → ℕ → ℕ
  To_ = To m r valid (linkable c) first others blocks_are

  abbrev Old : ℕ → ℕ → Bool
  Old = MeetOld m r valid (linkable c) first others blocks_are

  abbrev Now : ℕ → ℕ → Bool
  Now = MeetNew m r valid (linkable c) first others blocks_are

  abbrev Pair : ℕ → ℕ → Bool
  Pair = Pairs m r valid (linkable c) first others blocks_are

  abbrev L : ℕ → List ℕ
  L = c.is_trace.live

  -- paths

  ways : Ways m Old L (first ∷ others)
  ways =
      let k = can m r valid (linkable c) first others blocks_are in
      record {
        unused = k.unused;
        parts = λ b x at. (valid.block_parts b x at).0;
        once = k.once;
        follow = λ a b x h at. edge_block m r valid (linkable c) first others blocks_are a b x (k.follow (edge a b) h) at;
        no_call = λ a b x h at. k.no_call (edge a b) x h at;
        inner = meets_not m r valid (linkable c) first others blocks_are;
        outer = λ a b x h at t n. meets m r valid (linkable c) first others blocks_are a b n;
      }

  path_from : (b0 : ℕ) (bs : List ℕ) (b : ℕ) → Ways m Old L (b0 ∷ bs) → IsIn b (b0 ∷ bs) → Path m Old b (plain_items (trace_ops m L (blocks_from b (b0 ∷ bs)))) (last_of (b0 ∷ bs)) (exit_in (slice_get m.nodes (last_of (b0 ∷ bs))))
  path_from b0 [] b w h =
      let e : b0 ≡ b = ⊎_elim (λ q. sym q) (λ z. absurd z) h in
      subst (λ z. Path m Old b (plain_items (trace_ops m L z)) b0 (exit_in (slice_get m.nodes b0))) (sym (ap (λ t. if t then b0 ∷ [] else []) (eq-eqb b0 b e))) (subst (λ z. Path m Old z (plain_items (trace_ops m L (b0 ∷ []))) b0 (exit_in (slice_get m.nodes b0))) e (path_of m Old L b0 [] w))
  path_from b0 (c0 ∷ bs) b w h =
      let rest = path_from c0 bs b (ways_behind m Old L b0 c0 bs w) in
      ⊎_elim
      (λ e. subst (λ z. Path m Old b (plain_items (trace_ops m L z)) (last_of (c0 ∷ bs)) (exit_in (slice_get m.nodes (last_of (c0 ∷ bs))))) (sym (ap (λ t. if t then b0 ∷ c0 ∷ bs else blocks_from b (c0 ∷ bs)) (eq-eqb b0 b e))) (subst (λ z. Path m Old z (plain_items (trace_ops m L (b0 ∷ c0 ∷ bs))) (last_of (c0 ∷ bs)) (exit_in (slice_get m.nodes (last_of (c0 ∷ bs))))) e (path_of m Old L b0 (c0 ∷ bs) w)))
      (λ n. subst (λ z. Path m Old b (plain_items (trace_ops m L z)) (last_of (c0 ∷ bs)) (exit_in (slice_get m.nodes (last_of (c0 ∷ bs))))) (sym (ap (λ t. if t then b0 ∷ c0 ∷ bs else blocks_from b (c0 ∷ bs)) (ne_eqb b0 b n))) (rest (⊎_elim (λ e. absurd (n (sym e))) (λ q. q) h)))
      (cases_eq b0 b)

  path : Path m Old first (plain_items c.plain.ops) (last_of r.trace.blocks) (exit_of m r)
  path =
      subst (λ z. Path m Old first (plain_items z) (last_of r.trace.blocks) (exit_of m r)) (sym c.is_trace.ops)
      (subst (λ z. Path m Old first (plain_items (trace_ops m L z)) (last_of z) (exit_in (slice_get m.nodes (last_of z)))) (sym blocks_are) (path_of m Old L first others ways))

  path_at : (b : ℕ) → IsIn b (first ∷ others) → Path m Old b (plain_items (trace_ops m L (blocks_from b r.trace.blocks))) (last_of r.trace.blocks) (exit_of m r)
  path_at b h = subst (λ z. Path m Old b (plain_items (trace_ops m L (blocks_from b z))) (last_of z) (exit_in (slice_get m.nodes (last_of z)))) (sym blocks_are) (path_from first others b ways h)

  -- edges out

  leaves : (e p d g : ℕ) (y : Bool) (off off' : Edge) → nth I e ≡ Split p y off d → M e ≡ Split p y off' g → LeadsOut NewM Now Pair (copies (λ k. nat_lt (W e) (W k)) (nth I) 0 e) off'.from off'.to off.to
  leaves e p d g y off off' at_e at_m =
      let s = split_at r.trace.ops r.clusters e p d y off at_e in
      let t = is_split r.trace.ops p y off s.0 (index_in r.trace.ops e (TraceSplit p y off s.0) s.1) in
      let q = split_placed To_ r.trace.ops r.clusters r.words r.drains [] e p d g y off off' c.clusters_fit c.words_fit at_e at_m in
      subst (λ z. LeadsOut NewM Now Pair z off'.from off'.to off.to) (c.at_splits e p d y off at_e)
      (subst (λ (z : Edge). LeadsOut NewM Now Pair (on_edge r.made off) z.from z.to off.to) (sym q) (leads_out m r valid (linkable c) first others blocks_are off.from off.to t))

  last_exit : Renamed Pair (exit_of m r) Reg.last × ((d : ℕ) → IsIn d (targets_of Reg.last) → Now Reg.from d ≡ true)
  last_exit = exit_renamed m r valid (linkable c) first others blocks_are (last_of r.trace.blocks) (exit_of m r) each
    where
      q : last_of r.trace.blocks ≡ last_of (first ∷ others)
      q = ap last_of blocks_are

      each : (b : ℕ) → IsIn b (targets_of (exit_of m r)) → IsEdge m (edge (last_of r.trace.blocks) b) × (InnerEdge m r valid (linkable c) first others blocks_are (last_of r.trace.blocks) b → ⊥) × (is_split_edge r.trace.ops (edge (last_of r.trace.blocks) b) ≡ false)
      each b t =
          let u = unused m r valid (linkable c) first others blocks_are (last_of (first ∷ others)) (last_among first others) in
          let at : slice_get m.nodes (last_of r.trace.blocks) ≡ Some (Unused u.0) = ap (slice_get m.nodes) q ∙ u.1 in (
            of_block {block = u.0} at (subst (λ x. IsIn b (targets_of x)) (ap exit_in at) t),
            (λ h. last_none first others b (can m r valid (linkable c) first others blocks_are).once (subst (λ z. IsIn (edge z b) (inner_edges (first ∷ others))) q h)),
            ⊎_elim (λ s. absurd ((off_trace m r valid (linkable c) first others blocks_are (last_of r.trace.blocks) b s).not_last q)) (λ f. f) (cases_Bool (is_split_edge r.trace.ops (edge (last_of r.trace.blocks) b))),
          )

  -- outside of the trace

  other_node : (b : ℕ) (k : Node) → (IsIn b (first ∷ others) → ⊥) → trace_node m r r.trace.blocks b k ≡ renamed_node To_ b k
  other_node b k n =
      ap (λ z. trace_node m r z b k) blocks_are
      ∙ ap (λ t. if t then Enters (length m.regions) 0 else if list_any (λ x. x == b) others then entered_at (length m.regions) (rejoin_at r.trace.joins r.rejoins b) else renamed_node To_ b k) (ne_eqb first b (λ e. n (inl (sym e))))
      ∙ ap (λ t. if t then entered_at (length m.regions) (rejoin_at r.trace.joins r.rejoins b) else renamed_node To_ b k) (none_any b others (λ h. n (inr h)))

  not_inside : (b : ℕ) → is_in_region (slice_get m.nodes b) ≡ true → IsIn b (first ∷ others) → ⊥
  not_inside b t h = no_region m r valid (linkable c) first others blocks_are b h t

  outside : (b : ℕ) → (IsIn b (first ∷ others) → ⊥) → is_entrance (slice_get m.nodes b) ≡ true → Outside latency m NewM Old Now Pair b b
  outside b n e = by (slice_get m.nodes b) refl e
    where
      away : (a d : ℕ) → (IsIn a (first ∷ others) → ⊥) → (InnerEdge m r valid (linkable c) first others blocks_are a d → ⊥) × (is_split_edge r.trace.ops (edge a d) ≡ false)
      away a d f = from_outside m r valid (linkable c) first others blocks_are a d f

      by : (o : Option Node) → slice_get m.nodes b ≡ o → is_entrance o ≡ true → Outside latency m NewM Old Now Pair b b
      by None at t = absurd (cc)
      by (Some Inner) at t = absurd (cc)
      by (Some (Unused k)) at t =
          let x = exit_renamed m r valid (linkable c) first others blocks_are b k.exit (λ d h. (of_block {block = k} at h, (away b d n).0, (away b d n).1)) in
          as_block k.ops k.exit (renamed_exit (To_ b) k.exit) at (node_old m r b (Unused k) at ∙ ap Some (other_node b (Unused k) n)) x.0 (λ d h. meets m r valid (linkable c) first others blocks_are b d (away b d n).0) x.1
      by (Some (Enters q w)) at t =
          let g = valid.enters b q w at in
          let last_away = not_inside g.0.from (valid.last_from q g.0 g.1) in
          let x = exit_renamed m r valid (linkable c) first others blocks_are g.0.from g.0.last (λ d h. (of_last q g.0 g.1 refl h, (away g.0.from d last_away).0, (away g.0.from d last_away).1)) in
          as_region q q w g.0 (renamed_region To_ g.0) at g.1 (node_old m r b (Enters q w) at ∙ ap Some (other_node b (Enters q w) n))
          (front_get (map (renamed_region To_) m.regions) (Reg ∷ []) q (renamed_region To_ g.0) (map_get (renamed_region To_) m.regions q g.0 g.1))
          (record {
            to = To_;
            words = refl;
            last = x.0;
            edges = λ j p d off y wd at_j h.
                let f = away off.from off.to (not_inside off.from (valid.splits_from q j p d y off g.0 wd g.1 at_j h)) in
                let a = arrives m r valid (linkable c) first others blocks_are off.from off.to (of_split q j p d y g.0 wd g.1 at_j h) f.0 f.1 in
                (a.0, meets m r valid (linkable c) first others blocks_are off.from off.to f.0, a.1);
            last_old = λ d h. meets m r valid (linkable c) first others blocks_are g.0.from d (away g.0.from d last_away).0;
            last_new = x.1;
            settled_old = in_time q g.0 g.1;
            drain = refl;
          })

  -- entrances

  join_edge : (i : ℕ) (j : Join) (a b b' : ℕ) → slice_get r.trace.joins i ≡ Some j → j.block ≡ b → IsIn (edge a b) j.edges → To_ a b ≡ b' → JoinEdge m NewM Old Now I (last_of r.trace.blocks) (exit_of m r) W M (length m.regions) (is_join_place r.trace.joins) b b'
  join_edge i j a b b' h same on goes =
      let there = index_in r.trace.joins i j h in
      let w = c.rejoins i j h in
      let J = joins m r valid (linkable c) first others blocks_are j a b there on in
      record {
        place = j.place;
        inside = let s = length_items r.trace.ops r.clusters in let p = c.join_places j there in omega arith;
        is_join = any_of (λ (x : Join). x.place == j.place) r.trace.joins j there (eq-eqb j.place j.place refl);
        plain = plain_items (trace_ops m L (blocks_from j.block r.trace.blocks));
        path = subst (λ z. Path m Old z (plain_items (trace_ops m L (blocks_from j.block r.trace.blocks))) (last_of r.trace.blocks) (exit_of m r)) same (path_at j.block (subst (λ z. IsIn z (first ∷ others)) J.block (inr J.behind)));
        clustered = λ setting apart. c.clustered_below setting apart j there;
        rejoin = w.0;
        above = w.2.0;
        least = w.2.1;
        enters = subst (λ z. LeadsIn NewM Now (length m.regions) w.0 z b') (c.at_joins i w.0 j (edge a b) h w.1 on) (subst (LeadsIn NewM Now (length m.regions) w.0 (on_edge r.made (edge a b))) goes (leads_in m r valid (linkable c) first others blocks_are i w.0 a b j h w.1 on));
      }

  abbrev Entrance : ℕ → ℕ → Type 0
  Entrance b b' = ((b ≡ first) × LeadsIn NewM Now (length m.regions) 0 (copies (λ k. nat_lt (W k) 0) M 0 (length I)) b') ⊎ (JoinEdge m NewM Old Now I (last_of r.trace.blocks) (exit_of m r) W M (length m.regions) (is_join_place r.trace.joins) b b' ⊎ Outside latency m NewM Old Now Pair b b')

  stays_there : (b b' : ℕ) → (stays m r b && (b == b')) ≡ true → Entrance b b'
  stays_there b b' h =
      let p = and_parts (stays m r b) (b == b') h in
      let s = and_parts (is_entrance (slice_get m.nodes b)) (not (list_any (λ x. x == b) (drop 1 r.trace.blocks))) p.0 in
      let same : b ≡ b' = eqb-true b b' p.1 in
      ⊎_elim
      (λ e. inl (e, at_once (no_copies (λ k. nat_lt (W k) 0) M (λ k. le-ltb (W k) 0 (omega arith)) (length I) 0) (ap (slice_get NewM.nodes) (sym same ∙ e) ∙ first_node m r valid (linkable c) first others blocks_are)))
      (λ n. inr (inr (subst (Outside latency m NewM Old Now Pair b) same (outside b (not_in n s.1) s.0))))
      (cases_eq b first)
    where
      not_in : b ≢ first → not (list_any (λ x. x == b) (drop 1 r.trace.blocks)) ≡ true → IsIn b (first ∷ others) → ⊥
      not_in n t (inl e) = n e
      not_in n t (inr i) = let a = any_of (λ x. x == b) (drop 1 r.trace.blocks) b (subst (λ z. IsIn b (drop 1 z)) (sym blocks_are) i) (eq-eqb b b refl) in let z : false ≡ true = sym (ap not a) ∙ t in cc

  joined_there : (b b' : ℕ) → joined_at To_ r.trace.joins b b' ≡ true → Entrance b b'
  joined_there b b' h =
      let f = any_in (λ (j : Join). (j.block == b) && list_any (λ (e : Edge). To_ e.from e.to == b') j.edges) r.trace.joins h in
      let p = and_parts (f.item.block == b) (list_any (λ (e : Edge). To_ e.from e.to == b') f.item.edges) f.holds in
      let g = any_in (λ (e : Edge). To_ e.from e.to == b') f.item.edges p.1 in
      let i = in_index r.trace.joins f.item f.has in
      let same : f.item.block ≡ b = eqb-true f.item.block b p.0 in
      let J = joins m r valid (linkable c) first others blocks_are f.item g.item.from g.item.to f.has g.has in
      let to : g.item.to ≡ b = J.block ∙ same in
      inr (inl (join_edge i.0 f.item g.item.from b b' i.1 same (subst (λ z. IsIn (edge g.item.from z) f.item.edges) to g.has) (subst (λ z. To_ g.item.from z ≡ b') to (eqb-true (To_ g.item.from g.item.to) b' g.holds))))

  entrances : (b b' : ℕ) → Pair b b' ≡ true → Entrance b b'
  entrances b b' h = ⊎_elim (stays_there b b') (joined_there b b') (or_cases (stays m r b && (b == b')) (joined_at To_ r.trace.joins b b') h)

  -- where the new graph begins anew

  abbrev Begins : ℕ → Type 0
  Begins b' = (b : ℕ) × (Pair b b' ≡ true) × IsStart m b × (made_at_split (slice_get m.origins b) ≡ false)

  is_unused : (b : ℕ) (k : Block) → slice_get m.nodes b ≡ Some (Unused k) → is_entrance (slice_get m.nodes b) ≡ true
  is_unused b k at = ap is_entrance at

  begin_first : (b : ℕ) → b ≡ first → made_at_split (slice_get m.origins b) ≡ false → Begins b
  begin_first b e made =
      let u = unused m r valid (linkable c) first others blocks_are b (inl e) in
      (b, pair_stays m r valid (linkable c) first others blocks_are b (is_unused b u.0 u.1) (λ h. (can m r valid (linkable c) first others blocks_are).once.0 (subst (λ z. IsIn z others) e h)), block u.1, made)

  begin_join : (b : ℕ) → IsIn b others → rejoin_at r.trace.joins r.rejoins b ≡ Some 0 → made_at_split (slice_get m.origins b) ≡ false → Begins b
  begin_join b h w made =
      let x = rejoin_of r.trace.joins r.rejoins b 0 w in
      let j = x.1 in
      let i = index_in r.trace.joins x.0 j x.2 in
      let e = some_edge m r valid (linkable c) first others blocks_are j i in
      let J = joins m r valid (linkable c) first others blocks_are j e.0 e.1 i e.2 in
      let to : e.1 ≡ b = J.block ∙ x.4 in
      let on : IsIn (edge e.0 b) j.edges = subst (λ z. IsIn (edge e.0 z) j.edges) to e.2 in
      let none : on_edge r.made (edge e.0 b) ≡ [] = c.at_joins x.0 0 j (edge e.0 b) x.2 x.3 on ∙ no_copies (λ k. nat_lt (W k) 0) M (λ k. le-ltb (W k) 0 (omega arith)) (length I - j.place) j.place in
      let u = unused m r valid (linkable c) first others blocks_are b (inr h) in
      (b, pair_joined m r valid (linkable c) first others blocks_are j e.0 b b i x.4 on (by e.0 none (made_on (length m.nodes) r.made (edge e.0 b)) refl), block u.1, made)
    where
      by : (a : ℕ) → on_edge r.made (edge a b) ≡ [] → (o : Option ℕ) → made_on (length m.nodes) r.made (edge a b) ≡ o → To_ a b ≡ b
      by a none None q = at_end m r valid (linkable c) first others blocks_are a b None q
      by a none (Some d) q = let s = made_some (length m.nodes) r.made (edge a b) d q in absurd (c.made_some s.item (index_in r.made s.index s.item s.has) (sym s.ops ∙ none))

  begin_outside : (b : ℕ) → (IsIn b (first ∷ others) → ⊥) → IsStart m b → made_at_split (slice_get m.origins b) ≡ false → Begins b
  begin_outside b n (block {k = k} at) made = (b, pair_stays m r valid (linkable c) first others blocks_are b (ap is_entrance at) (λ h. n (inr h)), block at, made)
  begin_outside b n (region {r = q} at) made = (b, pair_stays m r valid (linkable c) first others blocks_are b (ap is_entrance at) (λ h. n (inr h)), region at, made)

  -- a node that was there
  begin_old : (b : ℕ) (o : Node) → slice_get m.nodes b ≡ Some o → made_at_split (slice_get m.origins b) ≡ false → IsStart NewM b → Begins b
  begin_old b o at made start =
      ⊎_elim
      (λ h. ⊎_elim (λ e. begin_first b e made) (λ i. inner i start) h)
      (λ n. begin_outside b n (outer n o at start) made)
      (in_or b (first ∷ others))
    where
      now : slice_get NewM.nodes b ≡ Some (trace_node m r r.trace.blocks b o)
      now = node_old m r b o at

      inner_node : IsIn b others → trace_node m r r.trace.blocks b o ≡ entered_at (length m.regions) (rejoin_at r.trace.joins r.rejoins b)
      inner_node i =
          ap (λ z. trace_node m r z b o) blocks_are
          ∙ ap (λ t. if t then Enters (length m.regions) 0 else if list_any (λ x. x == b) others then entered_at (length m.regions) (rejoin_at r.trace.joins r.rejoins b) else renamed_node To_ b o) (ne_eqb first b (λ e. (can m r valid (linkable c) first others blocks_are).once.0 (subst (λ z. IsIn z others) (sym e) i)))
          ∙ ap (λ t. if t then entered_at (length m.regions) (rejoin_at r.trace.joins r.rejoins b) else renamed_node To_ b o) (any_of (λ x. x == b) others b i (eq-eqb b b refl))

      entered : (w : Option ℕ) → IsIn b others → rejoin_at r.trace.joins r.rejoins b ≡ w → IsStart NewM b → Begins b
      entered None i e (block {k = k} s) = absurd (let q : Some Inner ≡ Some (Unused k) = sym (now ∙ ap Some (inner_node i ∙ ap (entered_at (length m.regions)) e)) ∙ s in cc)
      entered None i e (region {r = q} s) = absurd (let z : Some Inner ≡ Some (Enters q 0) = sym (now ∙ ap Some (inner_node i ∙ ap (entered_at (length m.regions)) e)) ∙ s in cc)
      entered (Some w) i e (block {k = k} s) = absurd (let q : Some (Enters (length m.regions) w) ≡ Some (Unused k) = sym (now ∙ ap Some (inner_node i ∙ ap (entered_at (length m.regions)) e)) ∙ s in cc)
      entered (Some w) i e (region {r = q} s) =
          let z : Some (Enters (length m.regions) w) ≡ Some (Enters q 0) = sym (now ∙ ap Some (inner_node i ∙ ap (entered_at (length m.regions)) e)) ∙ s in
          let zero_word : w ≡ 0 = cc in
          begin_join b i (e ∙ ap Some zero_word) made

      inner : IsIn b others → IsStart NewM b → Begins b
      inner i s = entered (rejoin_at r.trace.joins r.rejoins b) i refl s

      outer : (IsIn b (first ∷ others) → ⊥) → (x : Node) → slice_get m.nodes b ≡ Some x → IsStart NewM b → IsStart m b
      outer n (Unused k) at s = block at
      outer n Inner at (block {k = k} s) = absurd (let q : Some Inner ≡ Some (Unused k) = sym (node_old m r b Inner at ∙ ap Some (other_node b Inner n)) ∙ s in cc)
      outer n Inner at (region {r = q} s) = absurd (let z : Some Inner ≡ Some (Enters q 0) = sym (node_old m r b Inner at ∙ ap Some (other_node b Inner n)) ∙ s in cc)
      outer n (Enters p w) at (block {k = k} s) = absurd (let q : Some (Enters p w) ≡ Some (Unused k) = sym (node_old m r b (Enters p w) at ∙ ap Some (other_node b (Enters p w) n)) ∙ s in cc)
      outer n (Enters p w) at (region {r = q} s) =
          let z : Some (Enters p w) ≡ Some (Enters q 0) = sym (node_old m r b (Enters p w) at ∙ ap Some (other_node b (Enters p w) n)) ∙ s in
          let zero_word : w ≡ 0 = cc in
          region (at ∙ ap (λ y. Some (Enters p y)) zero_word)

  -- a block that was made where an edge joins
  begin_made : (i : ℕ) (x : Made) → slice_get r.made i ≡ Some x → is_split_edge r.trace.ops x.edge ≡ false → Begins (length m.nodes + i)
  begin_made i x has no_split =
      ⊎_elim
      (λ t. absurd (let z : true ≡ false = sym t ∙ no_split in cc))
      (λ h.
      let j = h.0 in
      let J = joins m r valid (linkable c) first others blocks_are j x.edge.from x.edge.to h.1 h.2 in
      let d = made_here (length m.nodes) r.made i x has in
      let s = made_some (length m.nodes) r.made x.edge d.0 d.1 in
      let same : s.index ≡ i = c.made_once s.index i s.item x s.has has s.where_ in
      let number : d.0 ≡ length m.nodes + i = let z = s.number in omega arith in
      let u = unused m r valid (linkable c) first others blocks_are x.edge.to (inr J.behind) in
      (x.edge.to, pair_joined m r valid (linkable c) first others blocks_are j x.edge.from x.edge.to (length m.nodes + i) h.1 (sym J.block) h.2 (at_end m r valid (linkable c) first others blocks_are x.edge.from x.edge.to (Some d.0) d.1 ∙ number), block u.1, not_split J))
      (c.made_where x (index_in r.made i x has))
    where
      not_split : {j : Join} → Joins m r valid (linkable c) first others blocks_are j x.edge.from x.edge.to → made_at_split (slice_get m.origins x.edge.to) ≡ false
      not_split J =
          ⊎_elim
          (λ t. let o = split_origin (slice_get m.origins x.edge.to) t in
          let f = in_edge first x.edge.to others J.behind in
          let q : edge f.0 x.edge.to ≡ x.edge = valid.one_way x.edge (edge f.0 x.edge.to) J.is_edge ((can m r valid (linkable c) first others blocks_are).follow (edge f.0 x.edge.to) f.1) o refl in
          absurd (J.outer (subst (λ z. IsIn z (inner_edges (first ∷ others))) q f.1)))
          (λ n. n)
          (cases_Bool (made_at_split (slice_get m.origins x.edge.to)))

  starts : (b' : ℕ) → IsStart NewM b' → made_at_split (slice_get NewM.origins b') ≡ false → Begins b'
  starts b' s made = by s (node_there s)
    where
      node_there : IsStart NewM b' → (k : Node) × (slice_get NewM.nodes b' ≡ Some k)
      node_there (block {k = k} at) = (Unused k, at)
      node_there (region {r = q} at) = (Enters q 0, at)

      by : IsStart NewM b' → (k : Node) × (slice_get NewM.nodes b' ≡ Some k) → Begins b'
      by s k =
          ⊎_elim
          (λ o. let lt = get_below m.nodes b' o.0 o.1 in let e = valid.origins in begin_old b' o.0 o.1 (ap made_at_split (sym (origin_old m r b' (omega arith))) ∙ made) s)
          (λ o. let e : slice_get NewM.origins b' ≡ Some (made_origin r.trace.ops o.1) = ap (slice_get NewM.origins) o.2 ∙ origin_made m r o.0 o.1 valid.origins o.3 in
          subst Begins (sym o.2) (begin_made o.0 o.1 o.3 (sym (ap made_at_split e) ∙ made)))
          (node_new m r b' k.0 k.1)

  begins : Pair 0 0 ≡ true
  begins =
      let u = unused m r valid (linkable c) first others blocks_are first (inl refl) in
      let lt = get_below m.nodes first (Unused u.0) u.1 in
      pair_stays m r valid (linkable c) first others blocks_are 0 (entered (slice_get m.nodes 0) refl (some_node m.nodes (omega arith)))
      (λ h. let f = in_edge first 0 others h in valid.entry (edge f.0 0) ((can m r valid (linkable c) first others blocks_are).follow (edge f.0 0) f.1) refl)
    where
      some_node : (ns : List Node) → 0 < length ns → (k : Node) × (slice_get ns 0 ≡ Some k)
      some_node [] lt = absurd (omega arith)
      some_node (k ∷ ns) lt = (k, refl)

      entered : (o : Option Node) → slice_get m.nodes 0 ≡ o → (k : Node) × (slice_get m.nodes 0 ≡ Some k) → is_entrance (slice_get m.nodes 0) ≡ true
      entered None e k = absurd (let q : None ≡ Some k.0 = sym e ∙ k.1 in cc)
      entered (Some (Unused b)) e k = ap is_entrance e
      entered (Some (Enters q w)) e k = ap is_entrance e
      entered (Some Inner) e k = absurd (valid.begins e)

  pub scheduled : Scheduled latency m NewM Old Now Pair
  scheduled = record {
    begins = begins;
    start = first;
    items = I;
    end = last_of r.trace.blocks;
    exit = exit_of m r;
    plain = plain_items c.plain.ops;
    path = path;
    clustered = c.clustered;
    joins = is_join_place r.trace.joins;
    never = c.never;
    apart = c.apart;
    word = W;
    mark = M;
    n = length m.regions;
    reg = Reg;
    is_region = last_one m.regions;
    is_last = refl;
    words = words_are_rows latency m r c;
    placed = is_placed latency m r c;
    meets = is_met latency m r c valid first others blocks_are;
    drained = c.drained;
    loads = c.loads;
    leaves = leaves;
    last_exit = last_exit.0;
    last_meets = last_exit.1;
    entrances = entrances;
    starts = starts;
  }
    where
      last_one : (gs : List Region) → slice_get (map (renamed_region To_) gs ++ Reg ∷ []) (length gs) ≡ Some Reg
      last_one [] = refl
      last_one (g ∷ gs) = last_one gs

pub compensation_law : CompensationLaw
compensation_law latency m r valid in_time stay c =
    let b = some_blocks r.trace.blocks c.can.some in
    motion latency m r valid stay (scheduled latency m r valid in_time c b.0 b.1 b.2)
