-- What the calls of planning give is what the law of replacement asks.
use Rattle.std.proofs.Common.{◌≡◌, ◌≢◌, ◌⊎◌, inl, inr, ℕ, zero, suc, ◌+◌, ◌-◌, ◌<◌, ◌≤◌, Bool, true, false, Some, List, [], ◌∷◌, ◌++◌, length, map, drop, slice_get, slice_index_or, refl, sym, ap, ◌∙◌, subst, arith}
use Rattle.std.specs.Prelude.{nat_lt}
use Rattle.std.specs.List.{list_any}
use Rattle.std.proofs.lemmas.Bool.{cases_lt, true≢false}
use Rattle.std.proofs.lemmas.List.{length-map}
use Rattle.std.proofs.lemmas.Option.{slice_get_within}
use Rattle.vx_flow.specs.declared.graph.Block.{Block}
use Rattle.vx_flow.specs.declared.graph.Edge.{Edge}
use Rattle.vx_flow.specs.declared.trace.TraceOp.{TraceOp}
use Rattle.vx_flow.specs.declared.trace.TraceOp.TheVariants.{Plain as TracePlain, Split as TraceSplit}
use Rattle.vx_flow.specs.declared.trace.Join.{Join}
use Rattle.vx_flow.specs.declared.trace.Clustered.{Clustered as ClusteredTrace}
use Rattle.vx_flow.specs.declared.trace.Trace.{Trace}
use Rattle.vx_flow.specs.declared.trace.Placed.{Placed}
use Rattle.vx_flow.specs.declared.trace.Homes.{Homes}
use Rattle.vx_flow.specs.Apart.{StandApart}
use Rattle.vx_flow.specs.Effects.{Setting, IsIn}
use Rattle.vx_flow.specs.Sound.{targets_of}
use Rattle.vx_flow.specs.Walk.{edge, numbers}
use Rattle.vx_flow.proofs.Members.{in_left, in_right, in_either}
use Rattle.vx_isa.specs.Numbers.{Numbers, is_machine}
use Rattle.vx_room.specs.Items.{latency_of_op}
use Rattle.vx_mixed.specs.declared.region.Item.TheVariants.{Split}
use Rattle.vx_mixed.specs.declared.region.Made.{Made}
use Rattle.vx_mixed.specs.declared.mixed.MixedGraph.{MixedGraph}
use Rattle.vx_motion.specs.Trace.{nth}
use Rattle.vx_motion.specs.Facts.{ops_of, copies}
use Rattle.vx_mixed.specs.Way.{item_latency, Clustered}
use Rattle.vx_motion.specs.Rows.{Meets, NeverApart}
use Rattle.vx_mixed.specs.Settled.{NoTwice}
use Rattle.vx_mixed.specs.TraceOf.{CanTrace, IsTraceOf, block_at, block_or_none, block_ops, trace_ops, trace_joins, inner_edges}
use Rattle.vx_mixed.specs.declared.replacement.Replacement.{Replacement}
use Rattle.vx_mixed.specs.Next.{in_word, placed, new_end, new_region, last_of, exit_in, is_split_edge, on_edge}
use Rattle.vx_mixed.specs.Valid.{Valid, PartsWays}
use Rattle.vx_motion.specs.Compensation.{items, word, mark, live_of, is_join_place, blocks_from, IsRejoin, exit_of, Compensated}
use Rattle.vx_mixed.specs.TraceItems.{plain_item, plain_items, splits_of}
use Rattle.vx_mixed.proofs.PathOf.{from_inside}
use Rattle.vx_motion.proofs.PlacedWords.{numbers_many, split_at}
use Rattle.vx_mixed.proofs.NewNodes.{map_get}
use Rattle.vx_mixed.proofs.TraceFacts.{is_split, joins_once}
use Rattle.vx_mixed.proofs.Linked.{Linkable, some_same, same_image, index_in, in_index, edge_block, joins}
use Rattle.vx_dep.specs.declared.mode.Mode.{Mode}
use Rattle.vx_dep.specs.declared.copies.Rejoin.{Rejoin}
use Rattle.vx_dep.specs.Delays.{AreHeights, latency_of}
use Rattle.vx_dep.specs.Compensation.{word_at, greatest, splits_from, copies_at_split, rejoin_word, rejoin_of, at_splits_of, at_joins_of, is_freed, all_left_at, drain_at}
use Rattle.vx_sched.specs.Placement.{PlacedBy, length_of}
use Rattle.vx_region.specs.Meets.{MeetsTable}
use Rattle.vx_region.specs.Ways.{ClusteredFits}
use Rattle.vx_region.specs.Planned.{placed_in, op_of, ops_at, clusters_at, dismissed_if, made_at_joins, replacement_of}
use Rattle.vx_region.proofs.Bare.{bare, bare_items, bare_nth, bare_many, bare_latency, bare_ops, bare_meets, bare_apart}
use Rattle.vx_region.proofs.PlainItems.{plain_many, nth_at, some_at}
use Rattle.vx_region.proofs.TableMet.{the_table_is_met}
use Rattle.vx_region.proofs.BelowJoins.{Below, below_join}
use Rattle.vx_room.proofs.Latencies.{takes_time}
use Rattle.vx_region.proofs.Greatest.{all_below, first_below, reached, drained}
use Rattle.vx_region.proofs.MadeCopies.{Copy, made_all, Distinct, made_append, distinct_append, on_edge_is, OfCopy, of_copy, made_once}
use Rattle.vx_region.proofs.CopiedPlaces.{copies_are, op_at, freed_by, marked_op}
use Rattle.vx_region.proofs.SplitCopies.{Once, split_copies, made_splits, has_split, of_split, distinct_splits, once_blocks}
use Rattle.vx_region.proofs.JoinCopies.{EdgesOnce, ascending_once, join_ops_at, join_clusters_at, join_copies, made_joins, has_join, of_join, distinct_joins, trace_joins_once}
use Rattle.vx_region.proofs.ExitWaits.{drain_there, takes_at_most}

index_within : (xs : List ℕ) (k d e : ℕ) → k < length xs → slice_index_or xs k d ≡ slice_index_or xs k e
index_within [] k d e lt = absurd (omega arith)
index_within (x ∷ xs) zero d e lt = refl
index_within (x ∷ xs) (suc k) d e lt = index_within xs k d e (omega (arith, lt))

index_past : (xs : List ℕ) (k d : ℕ) → length xs ≤ k → slice_index_or xs k d ≡ d
index_past [] k d le = refl
index_past (x ∷ xs) zero d le = absurd (omega (arith, le))
index_past (x ∷ xs) (suc k) d le = index_past xs k d (omega (arith, le))

index_some : (xs : List ℕ) (k w : ℕ) → slice_get xs k ≡ Some w → slice_index_or xs k 0 ≡ w
index_some [] k w e = absurd (cc)
index_some (x ∷ xs) zero w e = cc
index_some (x ∷ xs) (suc k) w e = index_some xs k w e

-- splits and joins of the clustered trace are those of the trace

once_splits : (ops : List TraceOp) → Once ops → Once (splits_of ops)
once_splits [] h = tt
once_splits (TracePlain op ∷ ops) h = once_splits ops h
once_splits (TraceSplit p y e live ∷ ops) h = ((λ q z f l i. h.0 q z f l (of_splits q z f l ops i)), once_splits ops h.1)
  where
    of_splits : (q : ℕ) (z : Bool) (f : Edge) (l : List ℕ) (xs : List TraceOp) → IsIn (TraceSplit q z f l) (splits_of xs) → IsIn (TraceSplit q z f l) xs
    of_splits q z f l [] i = i
    of_splits q z f l (TracePlain op ∷ xs) i = inr (of_splits q z f l xs i)
    of_splits q z f l (TraceSplit p2 y2 e2 l2 ∷ xs) (inl r) = inl r
    of_splits q z f l (TraceSplit p2 y2 e2 l2 ∷ xs) (inr i) = inr (of_splits q z f l xs i)

splits_once : (ops : List TraceOp) → Once (splits_of ops) → Once ops
splits_once [] h = tt
splits_once (TracePlain op ∷ ops) h = splits_once ops h
splits_once (TraceSplit p y e live ∷ ops) h = ((λ q z f l i. h.0 q z f l (to_splits q z f l ops i)), splits_once ops h.1)
  where
    to_splits : (q : ℕ) (z : Bool) (f : Edge) (l : List ℕ) (xs : List TraceOp) → IsIn (TraceSplit q z f l) xs → IsIn (TraceSplit q z f l) (splits_of xs)
    to_splits q z f l [] i = i
    to_splits q z f l (TracePlain op ∷ xs) (inl r) = absurd (let w : TraceSplit q z f l ≡ TracePlain op = r in cc)
    to_splits q z f l (TracePlain op ∷ xs) (inr i) = to_splits q z f l xs i
    to_splits q z f l (TraceSplit p2 y2 e2 l2 ∷ xs) (inl r) = inl r
    to_splits q z f l (TraceSplit p2 y2 e2 l2 ∷ xs) (inr i) = inr (to_splits q z f l xs i)

-- a trace of these blocks, with clusters, placed

module _ (m : MixedGraph) (machine : Numbers) (mode : Mode) (homes : Homes) (t : Trace) (c : ClusteredTrace) (words : List ℕ) (height : ℕ → ℕ) (one : is_machine machine ≡ true) (is : IsTraceOf m c.trace.blocks t) (heights : AreHeights machine mode c.trace height)
    (placed_by : PlacedBy c machine homes mode height words) (valid : Valid m) (can : CanTrace m c.trace.blocks) (first : ℕ) (others : List ℕ) (are : c.trace.blocks ≡ first ∷ others) (fits : ClusteredFits m (last_of c.trace.blocks) (exit_in (slice_get m.nodes (last_of c.trace.blocks))) t c) (same_arrays : c.trace.arrays ≡ m.arrays) where
  abbrev P : Placed
  P = placed_in c words

  abbrev R : Replacement
  R = replacement_of machine homes P (at_splits_of P) (at_joins_of P)

  items_are : map bare (items R) ≡ plain_items c.trace.ops
  items_are = bare_items c.trace.ops c.clusters

  nth_item : (k : ℕ) (op : TraceOp) → slice_get c.trace.ops k ≡ Some op → bare (nth (items R) k) ≡ plain_item op
  nth_item k op at = sym (bare_nth (items R) k) ∙ ap (λ z. nth z k) items_are ∙ nth_at c.trace.ops k op at

  many : length words ≡ length c.trace.ops
  many = placed_by.each

  size : length (items R) ≡ length c.trace.ops
  size = sym (bare_many (items R)) ∙ ap length items_are ∙ plain_many c.trace.ops

  word_in : (k : ℕ) → k < length c.trace.ops → word R k ≡ word_at words k
  word_in k lt = let n = many in index_within words k (length_of words + 1) 0 (omega (arith, n, lt))

  word_out : (k : ℕ) → length c.trace.ops ≤ k → word R k ≡ length_of words + 1
  word_out k le = let n = many in index_past words k (length_of words + 1) (omega (arith, n, le))

  word_below : (k : ℕ) → k < length c.trace.ops → word_at words k < length_of words
  word_below k lt =
      let n = many in
      let w = some_at words k (omega (arith, n, lt)) in
      let a = all_below words k w.0 w.1 in
      let e = index_some words k w.0 w.1 in
      omega (arith, a, e)

  -- the table, and the joins

  table : MeetsTable machine c.trace words
  table = the_table_is_met c machine homes mode height words heights placed_by

  join_place : (j : Join) → IsIn j c.trace.joins → j.place ≤ length c.trace.ops
  join_place = fits.join_places

  -- what stands below a join of the trace is the trace of the blocks from its block on
  below_is : (j : Join) → IsIn j t.joins → drop j.place t.ops ≡ trace_ops m is.live (blocks_from j.block c.trace.blocks)
  below_is j h =
      let b : Below m is.live is.edges 0 c.trace.blocks j = below_join m is.live is.edges c.trace.blocks j can.once (subst (IsIn j) is.joins h) in
      let p : j.place ≡ b.above = (let q = b.place_is in omega (arith, q)) in
      ap (λ n. drop n t.ops) p ∙ ap (drop b.above) is.ops ∙ b.rest

  clustered_below : (setting : Setting) (j : Join) → IsIn j c.trace.joins → Clustered setting m (plain_items (trace_ops m is.live (blocks_from j.block c.trace.blocks))) (drop j.place (items R)) (last_of c.trace.blocks) (exit_of m R)
  clustered_below setting j h =
      let a = fits.clustered_below setting j h in
      subst (λ z. Clustered setting m (plain_items z) (drop j.place (items R)) (last_of c.trace.blocks) (exit_of m R))
      (below_is a.from a.is_there ∙ ap (λ b. trace_ops m is.live (blocks_from b c.trace.blocks)) (sym a.block)) a.clustered

  -- rejoins

  rejoin_there : (i : ℕ) (j : Join) → slice_get c.trace.joins i ≡ Some j → slice_get R.rejoins i ≡ Some (rejoin_word words j.place)
  rejoin_there i j h = map_get (λ (x : Rejoin). x.word) (map (rejoin_of words) c.trace.joins) i (rejoin_of words j) (map_get (rejoin_of words) c.trace.joins i j h)

  is_rejoin : (j : Join) → IsIn j c.trace.joins → IsRejoin (word R) j.place (rejoin_word words j.place)
  is_rejoin j h = (above, by (reached words j.place (let n = many in let l = join_place j h in omega (arith, n, l))))
    where
      above : (k : ℕ) → k < j.place → word R k < rejoin_word words j.place
      above k lt =
          let n = many in
          let l = join_place j h in
          let e = word_in k (omega (arith, lt, l)) in
          let b = first_below words j.place k lt (omega (arith, lt, l, n)) in
          omega (arith, e, b)

      by : (rejoin_word words j.place ≡ 0) ⊎ ((i : ℕ) × (i < j.place) × (rejoin_word words j.place ≡ word_at words i + 1)) → (rejoin_word words j.place ≡ 0) ⊎ ((i : ℕ) × (i < j.place) × (rejoin_word words j.place ≡ word R i + 1))
      by (inl e) = inl e
      by (inr (i, lt, e)) = let l = join_place j h in let w = word_in i (omega (arith, lt, l)) in inr (i, lt, omega (arith, e, w))

  -- exits

  finished : (end k : ℕ) → k < length c.trace.ops → word R k < end → word R k + item_latency (latency_of_op machine) (nth (items R) k) ≤ end + drain_at machine P end
  finished end k lt less =
      let o = some_at c.trace.ops k lt in
      let e = word_in k lt in
      let takes : item_latency (latency_of_op machine) (nth (items R) k) ≡ item_latency (latency_of_op machine) (plain_item o.0) = sym (bare_latency (latency_of_op machine) (nth (items R) k)) ∙ ap (item_latency (latency_of_op machine)) (nth_item k o.0 o.1) in
      let done = drained machine end words c.trace.ops k o.0 many o.1 (omega (arith, e, less)) in
      by o.0 takes done e (takes_at_most machine o.0)
    where
      by : (op : TraceOp) → item_latency (latency_of_op machine) (nth (items R) k) ≡ item_latency (latency_of_op machine) (plain_item op) → word_at words k + latency_of machine op ≤ end + greatest (all_left_at machine end words c.trace.ops) → word R k ≡ word_at words k →
          (item_latency (latency_of_op machine) (plain_item op) ≡ latency_of machine op) ⊎ (item_latency (latency_of_op machine) (plain_item op) ≡ 1) → word R k + item_latency (latency_of_op machine) (nth (items R) k) ≤ end + drain_at machine P end
      by op takes done e (inl q) = omega (arith, takes, done, e, q)
      by op takes done e (inr q) = omega (arith, takes, less, q)

  abbrev Drain : ℕ → ℕ
  Drain s = drain_at machine P (word_at words s + 1)

  split_drained : (k e p d : ℕ) (off : Edge) (y : Bool) → mark m R e ≡ Split p y off d → word R k ≤ word R e → word R k + item_latency (latency_of_op machine) (nth (items R) k) ≤ word R e + 1 + d
  split_drained k e p d off y q le = by (cases_lt k (length c.trace.ops))
    where
      there : (e < length c.trace.ops) × (d ≡ Drain (0 + e))
      there = drain_there words Drain (new_end m R.made) c.trace.ops c.clusters words [] 0 e p d y off fits.clusters_fit many q

      by : (k < length c.trace.ops) ⊎ (length c.trace.ops ≤ k) → word R k + item_latency (latency_of_op machine) (nth (items R) k) ≤ word R e + 1 + d
      by (inl lt) =
          let u = word_in e there.0 in
          let n : 0 + e ≡ e = omega arith in
          let v : d ≡ Drain e = there.1 ∙ ap Drain n in
          let f = finished (word_at words e + 1) k lt (omega (arith, le, u)) in
          omega (arith, u, v, f)
      by (inr past) =
          let u = word_in e there.0 in
          let v = word_below e there.0 in
          let w = word_out k past in
          absurd (omega (arith, le, u, v, w))

  words_many : length (new_region m R).words ≡ length_of words
  words_many = length-map (numbers 0 (length_of words)) (in_word (placed (new_end m R.made) c.trace.ops c.clusters words R.drains [])) ∙ numbers_many (length_of words) 0

  last_drained : (k : ℕ) → k < length (items R) → word R k + item_latency (latency_of_op machine) (nth (items R) k) ≤ length (new_region m R).words + (new_region m R).drain
  last_drained k lt =
      let s = size in
      let inside : k < length c.trace.ops = omega (arith, s, lt) in
      let u = word_in k inside in
      let v = word_below k inside in
      let w = words_many in
      let f = finished (length_of words) k inside (omega (arith, u, v)) in
      omega (arith, w, f)

  -- edges

  link : Linkable m (record R { made = [] })
  link = record { can = can; plain = t; is_trace = is; splits = fits.splits; join_blocks = fits.join_blocks; join_edges = fits.join_edges; made_where = λ x h. absurd h }

  parts : (b : ℕ) → IsIn b c.trace.blocks → PartsWays (block_at m b).exit
  parts b h = let u = can.unused b h in subst (λ (z : Block). PartsWays z.exit) (sym (ap block_or_none u.1)) (valid.block_parts b u.0 u.1).0

  goes : (a b : ℕ) → IsIn (edge a b) (inner_edges c.trace.blocks) → IsIn b (targets_of (block_at m a).exit)
  goes a b h =
      let u = can.unused a (from_inside c.trace.blocks (edge a b) h) in
      subst (λ (z : Block). IsIn b (targets_of z.exit)) (sym (ap block_or_none u.1)) (edge_block m (record R { made = [] }) valid link first others are a b u.0 (can.follow (edge a b) h) u.1)

  once : Once c.trace.ops
  once = splits_once c.trace.ops (subst Once (sym fits.splits) (once_splits t.ops (subst Once (sym is.ops) (once_blocks m is.live c.trace.blocks can.once parts goes))))

  abbrev S : List Copy
  S = split_copies words c 0 c.trace.ops

  abbrev J : List Copy
  J = join_copies P c.trace.joins

  blocks_once : NoTwice (map (λ (j : Join). j.block) c.trace.joins)
  blocks_once =
      let place = length (block_ops m is.live first others) in
      subst NoTwice (sym (fits.join_blocks ∙ ap (map (λ (j : Join). j.block)) (is.joins ∙ ap (trace_joins m is.live is.edges) are)))
      (joins_once m is.live is.edges first place others (subst NoTwice are can.once).1)

  to_block : (j : Join) (e : Edge) → IsIn j c.trace.joins → IsIn e j.edges → e.to ≡ j.block
  to_block j e h i = (joins m (record R { made = [] }) valid link first others are j e.from e.to h i).block

  no_split : (j : Join) (e : Edge) → IsIn j c.trace.joins → IsIn e j.edges → is_split_edge c.trace.ops e ≡ false
  no_split j e h i = (joins m (record R { made = [] }) valid link first others are j e.from e.to h i).no_split

  edges_once : (j : Join) → IsIn j c.trace.joins → EdgesOnce j.edges
  edges_once j h =
      let i = in_index c.trace.joins j h in
      let x = same_image (λ (j : Join). j.edges) c.trace.joins t.joins i.0 j fits.join_edges i.1 in
      subst EdgesOnce x.2 (trace_joins_once m is.live is.edges c.trace.blocks x.0 (ascending_once is.edges is.all_edges.ascending) (subst (IsIn x.0) is.joins (index_in t.joins i.0 x.0 x.1)))

  distinct : Distinct (S ++ J)
  distinct =
      distinct_append S J (distinct_splits words c 0 c.trace.ops once)
      (distinct_joins P c.trace.joins blocks_once edges_once to_block) apart
    where
      apart : (x y : Copy) → IsIn x S → IsIn y J → y.edge ≢ x.edge
      apart x y a b q =
          let s = of_split words c 0 c.trace.ops x a in
          let k = of_join P c.trace.joins y b in
          let yes = is_split c.trace.ops s.0 s.1 x.edge s.2 s.3 in
          let no = no_split k.0 y.edge k.1 k.2 in
          true≢false (sym yes ∙ ap (is_split_edge c.trace.ops) (sym q) ∙ no)

  made_is : R.made ≡ made_all (S ++ J)
  made_is = ap (λ z. z ++ made_at_joins P c.trace.joins (at_joins_of P)) (made_splits words c 0 c.trace.ops) ∙ ap (λ z. made_all S ++ z) (made_joins P c.trace.joins) ∙ sym (made_append S J)

  -- copies

  at_split : (e p d : ℕ) (y : Bool) (off : Edge) → nth (items R) e ≡ Split p y off d → on_edge R.made off ≡ copies (λ k. nat_lt (word R e) (word R k)) (nth (items R)) 0 e
  at_split e p d y off q =
      let s = split_at c.trace.ops c.clusters e p d y off q in
      let n : 0 + e ≡ e = omega arith in
      let has = has_split words c 0 e c.trace.ops p y off s.0 s.1 in
      let on = on_edge_is (S ++ J) (record { edge = off; ops = ops_at c.trace.ops (copies_at_split words (0 + e)); clusters = clusters_at c (copies_at_split words (0 + e)) }) distinct (in_left (record { edge = off; ops = ops_at c.trace.ops (copies_at_split words (0 + e)); clusters = clusters_at c (copies_at_split words (0 + e)) }) S J has) in
      ap (λ z. on_edge z off) made_is ∙ on ∙ ap (λ z. ops_at c.trace.ops (copies_at_split words z)) n
      ∙ copies_are (λ i. op_of (slice_get c.trace.ops i)) (λ i. nat_lt (word_at words e) (word_at words i)) (λ k. nat_lt (word R e) (word R k)) (nth (items R)) 0 e (same s.1) (what s.1)
    where
      inside : {live : List ℕ} → slice_get c.trace.ops e ≡ Some (TraceSplit p y off live) → e < length c.trace.ops
      inside {live} h = slice_get_within c.trace.ops e (TraceSplit p y off live) h

      same : {live : List ℕ} → slice_get c.trace.ops e ≡ Some (TraceSplit p y off live) → (i : ℕ) → 0 ≤ i → i < 0 + e → nat_lt (word_at words e) (word_at words i) ≡ nat_lt (word R e) (word R i)
      same h i l u =
          let at_e = inside h in
          ap (λ z. nat_lt z (word_at words i)) (sym (word_in e at_e)) ∙ ap (nat_lt (word R e)) (sym (word_in i (omega (arith, u, at_e))))

      what : {live : List ℕ} → slice_get c.trace.ops e ≡ Some (TraceSplit p y off live) → (i : ℕ) → 0 ≤ i → i < 0 + e → op_of (slice_get c.trace.ops i) ≡ ops_of (nth (items R) i)
      what h i l u = let at_e = inside h in op_at c.trace.ops i (omega (arith, u, at_e)) ∙ ap (λ z. ops_of (nth z i)) (sym items_are) ∙ ap ops_of (bare_nth (items R) i) ∙ bare_ops (nth (items R) i)

  marked : (i : ℕ) → i < length c.trace.ops → map (dismissed_if (is_freed P i)) (op_of (slice_get c.trace.ops i)) ≡ ops_of (mark m R i)
  marked i lt =
      let n : 0 + i ≡ i = omega arith in
      sym (subst (λ z. ops_of (mark m R i) ≡ map (dismissed_if (list_any (freed_by words z (word_at words z)) (splits_from words 0 c.trace.ops))) (op_of (slice_get c.trace.ops i))) n
      (marked_op words (new_end m R.made) c.trace.ops c.clusters words R.drains [] 0 i fits.clusters_fit many (λ k l. let z : k ≡ 0 + k = omega arith in ap (word_at words) z) lt))

  at_join : (i rejoin : ℕ) (j : Join) (on : Edge) → slice_get c.trace.joins i ≡ Some j → slice_get R.rejoins i ≡ Some rejoin → IsIn on j.edges → on_edge R.made on ≡ copies (λ k. nat_lt (word R k) rejoin) (mark m R) j.place (length (items R) - j.place)
  at_join i rejoin j on at_j at_w h =
      let found = on_edge_is (S ++ J) (record { edge = on; ops = join_ops_at P j; clusters = join_clusters_at P j }) distinct (in_right (record { edge = on; ops = join_ops_at P j; clusters = join_clusters_at P j }) S J (has_join P c.trace.joins j on in_joins h)) in
      ap (λ z. on_edge z on) made_is ∙ found
      ∙ copies_are (λ i. map (dismissed_if (is_freed P i)) (op_of (slice_get c.trace.ops i))) (λ i. nat_lt (word_at words i) (rejoin_word words j.place)) (λ k. nat_lt (word R k) rejoin) (mark m R) j.place (length words - j.place) same (λ i l u. marked i (inside i l u))
      ∙ ap (λ z. copies (λ k. nat_lt (word R k) rejoin) (mark m R) j.place (z - j.place)) (many ∙ sym size)
    where
      in_joins : IsIn j c.trace.joins
      in_joins = index_in c.trace.joins i j at_j

      inside : (i : ℕ) → j.place ≤ i → i < j.place + (length words - j.place) → i < length c.trace.ops
      inside i l u =
          let n = many in
          let p = join_place j in_joins in
          omega (arith, l, u, n, p)

      same_rejoin : rejoin_word words j.place ≡ rejoin
      same_rejoin = some_same (slice_get R.rejoins i) (rejoin_word words j.place) rejoin (rejoin_there i j at_j) at_w

      same : (i : ℕ) → j.place ≤ i → i < j.place + (length words - j.place) → nat_lt (word_at words i) (rejoin_word words j.place) ≡ nat_lt (word R i) rejoin
      same i l u = ap (λ z. nat_lt z (rejoin_word words j.place)) (sym (word_in i (inside i l u))) ∙ ap (nat_lt (word R i)) same_rejoin

  made_of_copy : (x : Made) → IsIn x R.made → OfCopy (S ++ J) x
  made_of_copy x h = of_copy (S ++ J) x (subst (IsIn x) made_is h)

  made_there : (x : Made) → IsIn x R.made → (is_split_edge c.trace.ops x.edge ≡ true) ⊎ ((j : Join) × IsIn j c.trace.joins × IsIn x.edge j.edges)
  made_there x h = by (made_of_copy x h)
    where
      by : OfCopy (S ++ J) x → (is_split_edge c.trace.ops x.edge ≡ true) ⊎ ((j : Join) × IsIn j c.trace.joins × IsIn x.edge j.edges)
      by o = elim (in_either o.copy S J o.has) [
        | inl a ↦ (let s = of_split words c 0 c.trace.ops o.copy a in inl (ap (is_split_edge c.trace.ops) o.edge ∙ is_split c.trace.ops s.0 s.1 o.copy.edge s.2 s.3))
        | inr b ↦ (let k = of_join P c.trace.joins o.copy b in inr (k.0, k.1, subst (λ z. IsIn z k.0.edges) (sym o.edge) k.2))
      ]

  pub compensated : Compensated (latency_of_op machine) m R
  compensated = record {
    can = can;
    plain = t;
    is_trace = is;
    splits = fits.splits;
    join_blocks = fits.join_blocks;
    join_edges = fits.join_edges;
    join_places = join_place;
    clustered = λ setting far. fits.clustered setting;
    clustered_below = λ setting far j h. clustered_below setting j h;
    clusters_fit = fits.clusters_fit;
    words_fit = many;
    within = all_below words;
    never = table.never;
    apart = λ setting far q enters. bare_apart setting (items R) table.never q (subst (λ z. NeverApart setting z table.never q) (sym items_are) (table.apart setting (subst (λ xs. StandApart xs setting.spot) (sym same_arrays) far) q enters));
    meets = bare_meets (latency_of_op machine) (λ e v. IsIn v (live_of (slice_get c.trace.ops e))) table.never (is_join_place c.trace.joins) (items R) (word R)
        (subst (λ z. Meets z (item_latency (latency_of_op machine)) (λ e v. IsIn v (live_of (slice_get c.trace.ops e))) table.never (is_join_place c.trace.joins) (word R)) (sym items_are) (table.meets (word R) word_in));
    takes_time = takes_time machine one;
    loads = λ v a p d. refl;
    rejoins = λ i j h. (rejoin_word words j.place, rejoin_there i j h, is_rejoin j (index_in c.trace.joins i j h));
    drained = record { splits = split_drained; last = last_drained };
    at_splits = at_split;
    at_joins = at_join;
    made_where = made_there;
    made_once = λ i k x y a b e. made_once (S ++ J) distinct i k x y (subst (λ z. slice_get z i ≡ Some x) made_is a) (subst (λ z. slice_get z k ≡ Some y) made_is b) e;
    made_some = λ x h. (made_of_copy x h).some;
  }

-- the blocks of a trace are those of which it is one

pub own_blocks : (m : MixedGraph) (blocks more : List ℕ) (t : Trace) → IsTraceOf m blocks t → more ≡ blocks → IsTraceOf m more t
own_blocks m blocks more t is e = subst (λ z. IsTraceOf m z t) (sym e) is
