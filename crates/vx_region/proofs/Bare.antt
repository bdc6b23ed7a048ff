-- Clusters change nothing of what items do in trace order, nor of the delays between them.
use Rattle.std.proofs.Common.{◌≡◌, ◌⊎◌, inl, inr, ℕ, zero, suc, ◌<◌, Bool, List, [], ◌∷◌, length, map, drop, refl, sym, ap, ◌∙◌, subst}
use Rattle.vx_flow.specs.declared.graph.Op.{Op}
use Rattle.vx_flow.specs.declared.graph.Op.TheVariants.{Compute}
use Rattle.vx_flow.specs.declared.trace.TraceOp.{TraceOp}
use Rattle.vx_flow.specs.declared.trace.TraceOp.TheVariants.{Plain as TracePlain, Split as TraceSplit}
use Rattle.vx_flow.specs.Effects.{State, Setting, Cell, IsIn}
use Rattle.vx_mixed.specs.declared.region.Item.{Item}
use Rattle.vx_mixed.specs.declared.region.Item.TheVariants.{Plain, Split}
use Rattle.vx_mixed.specs.Live.{item_reads, item_writes}
use Rattle.vx_motion.specs.Items.{calm, item_takes, item_gives}
use Rattle.vx_motion.specs.Trace.{nth, order}
use Rattle.vx_motion.specs.Facts.{IsSplit, ops_of}
use Rattle.vx_motion.specs.Rows.{IsObservable, IsLoad, IsStore, Row, reads_last, writes_too, writes_read, store_access, load_store, observables, two_splits, split_held, below_join, split_live, Meets, NeverApart}
use Rattle.vx_mixed.specs.Way.{item_latency}
use Rattle.vx_mixed.specs.TraceItems.{plain_items, items_of}

-- on cluster 0
abbrev pub bare : Item → Item
bare (Plain op cluster) = Plain op 0
bare (Split p y edge d) = Split p y edge d

pub bare_items : (ops : List TraceOp) (clusters : List ℕ) → map bare (items_of ops clusters) ≡ plain_items ops
bare_items [] clusters = refl
bare_items (TracePlain op ∷ ops) [] = ap (λ z. Plain op 0 ∷ z) (bare_items ops [])
bare_items (TraceSplit p y e live ∷ ops) [] = ap (λ z. Split p y e 0 ∷ z) (bare_items ops [])
bare_items (TracePlain op ∷ ops) (c ∷ clusters) = ap (λ z. Plain op 0 ∷ z) (bare_items ops clusters)
bare_items (TraceSplit p y e live ∷ ops) (c ∷ clusters) = ap (λ z. Split p y e 0 ∷ z) (bare_items ops clusters)

pub bare_nth : (is : List Item) (k : ℕ) → nth (map bare is) k ≡ bare (nth is k)
bare_nth [] k = refl
bare_nth (i ∷ is) zero = refl
bare_nth (i ∷ is) (suc k) = bare_nth is k

bare_drop : (q : ℕ) (is : List Item) → drop q (map bare is) ≡ map bare (drop q is)
bare_drop zero is = refl
bare_drop (suc q) [] = refl
bare_drop (suc q) (i ∷ is) = bare_drop q is

pub bare_many : (is : List Item) → length (map bare is) ≡ length is
bare_many [] = refl
bare_many (i ∷ is) = ap suc (bare_many is)

-- what an item reads, writes, takes

bare_writes : (i : Item) → item_writes (bare i) ≡ item_writes i
bare_writes (Plain op cluster) = refl
bare_writes (Split p y edge d) = refl

bare_reads : (i : Item) → item_reads (bare i) ≡ item_reads i
bare_reads (Plain op cluster) = refl
bare_reads (Split p y edge d) = refl

pub bare_latency : (latency : Op → ℕ) (i : Item) → item_latency latency (bare i) ≡ item_latency latency i
bare_latency latency (Plain op cluster) = refl
bare_latency latency (Split p y edge d) = refl

pub bare_ops : (i : Item) → ops_of (bare i) ≡ ops_of i
bare_ops (Plain op cluster) = refl
bare_ops (Split p y edge d) = refl

bare_calm : (setting : Setting) (s : State) (i : Item) → calm setting s (bare i) ≡ calm setting s i
bare_calm setting s (Plain op cluster) = refl
bare_calm setting s (Split p y edge d) = refl

bare_order : (setting : Setting) (is : List Item) (s : State) (k : ℕ) → order setting (map bare is) s k ≡ order setting is s k
bare_order setting is s zero = refl
bare_order setting [] s (suc k) = refl
bare_order setting (i ∷ is) s (suc k) = ap (λ z. order setting (map bare is) z k) (bare_calm setting s i) ∙ bare_order setting is (calm setting s i) k

-- its kind

bare_split : (i : Item) → IsSplit i → IsSplit (bare i)
bare_split (Plain op cluster) h = h
bare_split (Split p y edge d) h = h

bare_load : (i : Item) → IsLoad i → IsLoad (bare i)
bare_load (Plain (Compute c v a b) cluster) h = h
bare_load (Plain op cluster) h = h
bare_load (Split p y edge d) h = h

bare_store : (i : Item) → IsStore i → IsStore (bare i)
bare_store (Plain (Compute c v a b) cluster) h = h
bare_store (Plain op cluster) h = h
bare_store (Split p y edge d) h = h

bare_observable : (i : Item) → IsObservable i → IsObservable (bare i)
bare_observable (Plain op cluster) h = h
bare_observable (Split p y edge d) h = h

-- the rows

module _ (latency : Op → ℕ) (live : ℕ → ℕ → Type 0) (never : ℕ → ℕ → Bool) (joins : ℕ → Bool) (is : List Item) where
  kind : (f : Item → Type 0) → ((i : Item) → f i → f (bare i)) → (k : ℕ) → f (nth is k) → f (nth (map bare is) k)
  kind f h k x = subst f (sym (bare_nth is k)) (h (nth is k) x)

  either : (f g : Item → Type 0) → ((i : Item) → f i → f (bare i)) → ((i : Item) → g i → g (bare i)) → (k : ℕ) → f (nth is k) ⊎ g (nth is k) → f (nth (map bare is) k) ⊎ g (nth (map bare is) k)
  either f g h j k (inl x) = inl (kind f h k x)
  either f g h j k (inr x) = inr (kind g j k x)

  writes_at : (k v : ℕ) → IsIn v (item_writes (nth is k)) → IsIn v (item_writes (nth (map bare is) k))
  writes_at k v x = subst (λ z. IsIn v (item_writes z)) (sym (bare_nth is k)) (subst (IsIn v) (sym (bare_writes (nth is k))) x)

  writes_back : (k v : ℕ) → IsIn v (item_writes (nth (map bare is) k)) → IsIn v (item_writes (nth is k))
  writes_back k v x = subst (IsIn v) (bare_writes (nth is k)) (subst (λ z. IsIn v (item_writes z)) (bare_nth is k) x)

  reads_at : (k v : ℕ) → IsIn v (item_reads (nth is k)) → IsIn v (item_reads (nth (map bare is) k))
  reads_at k v x = subst (λ z. IsIn v (item_reads z)) (sym (bare_nth is k)) (subst (IsIn v) (sym (bare_reads (nth is k))) x)

  takes : (k : ℕ) → item_latency latency (nth (map bare is) k) ≡ item_latency latency (nth is k)
  takes k = ap (item_latency latency) (bare_nth is k) ∙ bare_latency latency (nth is k)

  abbrev RowOf : List Item → ℕ → ℕ → ℕ → Type 0
  RowOf js i j d = Row js (item_latency latency) live never joins i j d

  bare_row : (i j d : ℕ) → RowOf is i j d → RowOf (map bare is) i j d
  bare_row i j d (reads_last v w r none) = subst (RowOf (map bare is) i j) (takes i) (reads_last v (writes_at i v w) (reads_at j v r) (λ k a b x. none k a b (writes_back k v x)))
  bare_row i j d (writes_too v w r) = subst (RowOf (map bare is) i j) (takes i) (writes_too v (writes_at i v w) (writes_at j v r))
  bare_row i j d (writes_read v w r) = writes_read v (reads_at i v w) (writes_at j v r)
  bare_row i j d (store_access a b n) = store_access (kind IsStore bare_store i a) (either IsLoad IsStore bare_load bare_store j b) n
  bare_row i j d (load_store a b n) = load_store (kind IsLoad bare_load i a) (kind IsStore bare_store j b) n
  bare_row i j d (observables a b) = observables (kind IsObservable bare_observable i a) (kind IsObservable bare_observable j b)
  bare_row i j d (two_splits a b) = two_splits (kind IsSplit bare_split i a) (kind IsSplit bare_split j b)
  bare_row i j d (split_held a b) = split_held (kind IsSplit bare_split i a) (either IsStore IsObservable bare_store bare_observable j b)
  bare_row i j d (below_join q at l u b) = below_join q at l u (either IsSplit IsObservable bare_split bare_observable j b)
  bare_row i j d (split_live v a l w) = split_live v (kind IsSplit bare_split i a) l (writes_at j v w)

  pub bare_meets : (word : ℕ → ℕ) → Meets (map bare is) (item_latency latency) live never joins word → Meets is (item_latency latency) live never joins word
  bare_meets word meets i j d lt inside row = meets i j d lt (subst (λ n. j < n) (sym (bare_many is)) inside) (bare_row i j d row)

-- accesses that are never to one word

module _ (setting : Setting) (is : List Item) (never : ℕ → ℕ → Bool) where
  bare_takes : (s : State) (i : Item) (a c : ℕ) → item_takes setting s i (Cell a c) ⊎ item_gives setting s i (Cell a c) → item_takes setting s (bare i) (Cell a c) ⊎ item_gives setting s (bare i) (Cell a c)
  bare_takes s (Plain op cluster) a c h = h
  bare_takes s (Split p y edge d) a c h = h

  pub bare_apart : (q : ℕ) → NeverApart setting (map bare is) never q → NeverApart setting is never q
  bare_apart q apart s i j a c lt n x y = apart s i j a c lt n (at i x) (at j y)
    where
      part : List Item
      part = drop q is

      at : (k : ℕ) → item_takes setting (order setting part s k) (nth part k) (Cell a c) ⊎ item_gives setting (order setting part s k) (nth part k) (Cell a c) →
          item_takes setting (order setting (drop q (map bare is)) s k) (nth (drop q (map bare is)) k) (Cell a c) ⊎ item_gives setting (order setting (drop q (map bare is)) s k) (nth (drop q (map bare is)) k) (Cell a c)
      at k h = subst (λ (js : List Item). item_takes setting (order setting js s k) (nth js k) (Cell a c) ⊎ item_gives setting (order setting js s k) (nth js k) (Cell a c)) (sym (bare_drop q is))
          (subst (λ t. item_takes setting t (nth (map bare part) k) (Cell a c) ⊎ item_gives setting t (nth (map bare part) k) (Cell a c)) (sym (bare_order setting part s k))
          (subst (λ z. item_takes setting (order setting part s k) z (Cell a c) ⊎ item_gives setting (order setting part s k) z (Cell a c)) (sym (bare_nth part k)) (bare_takes (order setting part s k) (nth part k) a c h)))
