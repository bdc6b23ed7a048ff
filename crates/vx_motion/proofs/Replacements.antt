-- A compensated replacement is placed in its words, and meets the delays of its trace.
use Rattle.std.proofs.Common.{◌≡◌, ℕ, zero, suc, ◌+◌, ◌<◌, ◌≤◌, Bool, true, Some, List, [], ◌∷◌, length, map, slice_get, slice_index_or, refl, sym, ap, ◌∙◌, subst, ⊎_elim, inr, arith}
use Rattle.std.proofs.lemmas.Bool.{cases_lt}
use Rattle.std.proofs.lemmas.List.{length-map}
use Rattle.vx_flow.specs.declared.graph.Op.{Op}
use Rattle.vx_flow.specs.declared.graph.Op.TheVariants.{Load}
use Rattle.vx_flow.specs.declared.graph.Operand.{Operand}
use Rattle.vx_flow.specs.declared.trace.TraceOp.TheVariants.{Split as TraceSplit}
use Rattle.vx_flow.specs.Effects.{IsIn}
use Rattle.vx_flow.specs.Walk.{numbers}
use Rattle.vx_mixed.specs.declared.region.Item.{Item}
use Rattle.vx_mixed.specs.declared.region.Item.TheVariants.{Plain, Split}
use Rattle.vx_mixed.specs.declared.mixed.MixedGraph.{MixedGraph}
use Rattle.vx_mixed.specs.Alive.{AfterItem}
use Rattle.vx_motion.specs.Trace.{AfterOf, nth}
use Rattle.vx_motion.specs.Facts.{IsSplit, places, row, words_from}
use Rattle.vx_mixed.specs.Live.{item_writes}
use Rattle.vx_motion.specs.Rows.{Row, reads_last, writes_too, writes_read, store_access, load_store, observables, two_splits, split_held, below_join, split_live, Meets, Placed}
use Rattle.vx_mixed.specs.Way.{item_latency}
use Rattle.vx_mixed.specs.declared.replacement.Replacement.{Replacement}
use Rattle.vx_mixed.specs.Next.{in_word, placed, new_region, new_end}
use Rattle.vx_mixed.specs.Valid.{Valid}
use Rattle.vx_motion.specs.Compensation.{items, word, mark, live_of, is_join_place, Compensated}
use Rattle.vx_motion.proofs.Delays.{split_in_trace}
use Rattle.vx_motion.proofs.PlacedWords.{length_items, row_is, words_are, numbers_many, marked_at, freed_at, split_at}
use Rattle.vx_mixed.proofs.Linked.{Linkable, index_in, in_plain}

there : (xs : List ℕ) (k d : ℕ) → k < length xs → (w : ℕ) × (slice_get xs k ≡ Some w) × (slice_index_or xs k d ≡ w)
there [] k d lt = absurd (omega arith)
there (x ∷ xs) zero d lt = (x, refl, refl)
there (x ∷ xs) (suc k) d lt = there xs k d (omega arith)

not_there : (xs : List ℕ) (k d : ℕ) → length xs ≤ k → slice_index_or xs k d ≡ d
not_there [] k d le = refl
not_there (x ∷ xs) zero d le = absurd (omega arith)
not_there (x ∷ xs) (suc k) d le = not_there xs k d (omega arith)

-- a row of the table where other values count as live
row_moved : (is : List Item) (latency : Item → ℕ) (live live' : ℕ → ℕ → Type 0) (never : ℕ → ℕ → Bool) (joins : ℕ → Bool) (i j d : ℕ) → ((v : ℕ) → live i v → live' i v) → Row is latency live never joins i j d → Row is latency live' never joins i j d
row_moved is latency live live' never joins i j d f (reads_last v a b n) = reads_last v a b n
row_moved is latency live live' never joins i j d f (writes_too v a b) = writes_too v a b
row_moved is latency live live' never joins i j d f (writes_read v a b) = writes_read v a b
row_moved is latency live live' never joins i j d f (store_access a b n) = store_access a b n
row_moved is latency live live' never joins i j d f (load_store a b n) = load_store a b n
row_moved is latency live live' never joins i j d f (observables a b) = observables a b
row_moved is latency live live' never joins i j d f (two_splits a b) = two_splits a b
row_moved is latency live live' never joins i j d f (split_held a b) = split_held a b
row_moved is latency live live' never joins i j d f (below_join q a lt le b) = below_join q a lt le b
row_moved is latency live live' never joins i j d f (split_live v a l b) = split_live v a (f v l) b

abbrev pub linkable : {latency : Op → ℕ} {m : MixedGraph} {r : Replacement} → Compensated latency m r → Linkable m r
linkable c = record {
  can = c.can;
  plain = c.plain;
  is_trace = c.is_trace;
  splits = c.splits;
  join_blocks = c.join_blocks;
  join_edges = c.join_edges;
  made_where = c.made_where;
}

module _ (latency : Op → ℕ) (m : MixedGraph) (r : Replacement) (c : Compensated latency m r) where
  words_many : length (new_region m r).words ≡ r.length
  words_many = length-map (numbers 0 r.length) (in_word (placed (new_end m r.made) r.trace.ops r.clusters r.words r.drains [])) ∙ numbers_many r.length 0

  pub words_are_rows : (new_region m r).words ≡ words_from (row (word r) (mark m r) 0 (length (items r))) 0 (length (new_region m r).words)
  words_are_rows =
      words_are (in_word (placed (new_end m r.made) r.trace.ops r.clusters r.words r.drains [])) (row (word r) (mark m r) 0 (length (items r)))
      (λ w. row_is (word r) (mark m r) w (new_end m r.made) r.trace.ops r.clusters r.words r.drains [] (r.length + 1) 0 c.clusters_fit c.words_fit (λ j lt. let z : 0 + j ≡ j = omega arith in ap (word r) z) (λ j lt. let z : 0 + j ≡ j = omega arith in ap (mark m r) z) ∙ ap (λ n. map (mark m r) (places (word r) w 0 n)) (sym (length_items r.trace.ops r.clusters)))
      r.length 0
      ∙ ap (words_from (row (word r) (mark m r) 0 (length (items r))) 0) (sym words_many)

  inside : (k : ℕ) → k < length (items r) → word r k < length (new_region m r).words
  inside k lt =
      let s = length_items r.trace.ops r.clusters in
      let f = c.words_fit in
      let t = there r.words k (r.length + 1) (omega arith) in
      let h = c.within k t.0 t.1 in
      let e = t.2 in
      let n = words_many in
      omega arith

  beyond : (k : ℕ) → length (items r) ≤ k → length (new_region m r).words < word r k
  beyond k le = let s = length_items r.trace.ops r.clusters in let f = c.words_fit in let e = not_there r.words k (r.length + 1) (omega arith) in let n = words_many in omega arith

  takes_time : (i v : ℕ) → IsIn v (item_writes (nth (items r) i)) → 1 ≤ item_latency latency (nth (items r) i)
  takes_time i v h = by (nth (items r) i) h
    where
      by : (x : Item) → IsIn v (item_writes x) → 1 ≤ item_latency latency x
      by (Plain op cluster) h = c.takes_time op v h
      by (Split p y e d) h = absurd h

  freed : (e k v a cluster : ℕ) (p : Operand) (d : Bool) → e < k → IsSplit (nth (items r) e) → word r k ≤ word r e → mark m r k ≡ Plain (Load v a p d) cluster → d ≡ true
  freed e k v a cluster p d lt s le h =
      let lo = inside e (split_in_trace (items r) e s) in
      let in_trace : k < length (items r) = ⊎_elim (λ a. a) (λ a. let hi = beyond k a in absurd (omega arith)) (cases_lt k (length (items r))) in
      let z = length_items r.trace.ops r.clusters in
      freed_at (new_end m r.made) r.trace.ops r.clusters r.words r.drains [] (r.length + 1) (word r e) k v a cluster p d c.clusters_fit c.words_fit (inr (e, lt, s, refl)) (omega arith) le h

  pub is_placed : Placed (items r) (item_latency latency) (word r) (mark m r) (length (new_region m r).words)
  is_placed = record { inside = inside; beyond = beyond; marked = marked_at (new_end m r.made) r.trace.ops r.clusters r.words r.drains [] c.clusters_fit c.words_fit; takes_time = takes_time; freed = freed }

  module _ (valid : Valid m) (first : ℕ) (others : List ℕ) (blocks_are : r.trace.blocks ≡ first ∷ others) where
    -- what is live behind a split is listed at it
    listed : (e v : ℕ) → AfterOf m (items r) e v → IsIn v (live_of (slice_get r.trace.ops e))
    listed e v h = by (nth (items r) e) refl h
      where
        by : (x : Item) → nth (items r) e ≡ x → AfterItem m x v → IsIn v (live_of (slice_get r.trace.ops e))
        by (Plain op cluster) q a = absurd a
        by (Split p y off d) q a =
            let s = split_at r.trace.ops r.clusters e p d y off q in
            let i = in_plain m r valid (linkable c) first others blocks_are p y off s.0 (index_in r.trace.ops e (TraceSplit p y off s.0) s.1) in
            subst (λ z. IsIn v (live_of z)) (sym s.1) ((c.is_trace.lives p v y off s.0 i).1 a)

    pub is_met : Meets (items r) (item_latency latency) (AfterOf m (items r)) c.never (is_join_place r.trace.joins) (word r)
    is_met i j d lt hi row = c.meets i j d lt hi (row_moved (items r) (item_latency latency) (AfterOf m (items r)) (λ e v. IsIn v (live_of (slice_get r.trace.ops e))) c.never (is_join_place r.trace.joins) i j d (λ v. listed i v) row)
