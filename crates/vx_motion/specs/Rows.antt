-- The rows of the delay table that let every operation move, and placements that meet them.
use Rattle.std.specs.Prelude.{◌≡◌, ◌<◌, ◌≤◌, ◌⊎◌, ◌+◌, ℕ, Bool, true, false, List, length, drop}
use Rattle.vx_flow.specs.declared.graph.Op.TheVariants.{Load, Store}
use Rattle.vx_flow.specs.declared.graph.Operand.{Operand}
use Rattle.vx_flow.specs.Effects.{State, Setting, IsIn, Cell}
use Rattle.vx_flow.specs.Operands.{is_observable}
use Rattle.vx_mixed.specs.declared.region.Item.{Item}
use Rattle.vx_mixed.specs.declared.region.Item.TheVariants.{Plain, Split}
use Rattle.vx_mixed.specs.Live.{item_reads, item_writes}
use Rattle.vx_motion.specs.Items.{Marked, item_takes, item_gives}
use Rattle.vx_motion.specs.Trace.{nth, order}
use Rattle.vx_motion.specs.Facts.{IsSplit}

abbrev pub IsObservable : Item → Type 0
IsObservable (Plain op cluster) = is_observable op ≡ true
IsObservable (Split p y edge d) = ⊥

abbrev pub IsLoad : Item → Type 0
IsLoad (Plain (Load v a p d) cluster) = Unit {0}
IsLoad item = ⊥

abbrev pub IsStore : Item → Type 0
IsStore (Plain (Store a p x) cluster) = Unit {0}
IsStore item = ⊥

-- a row of the table that applies to places i and j of the trace, with its delay. `live e v`: v is live on the off-trace
-- edge of the split at e; `never i j`: the accesses at i and j never touch one word; `joins q`: a join stands at place q
pub data Row (is : List Item) (latency : Item → ℕ) (live : ℕ → ℕ → Type 0) (never : ℕ → ℕ → Bool) (joins : ℕ → Bool) (i j : ℕ) : ℕ → Type 0 where
  reads_last : (v : ℕ) → IsIn v (item_writes (nth is i)) → IsIn v (item_reads (nth is j)) → ((k : ℕ) → i < k → k < j → IsIn v (item_writes (nth is k)) → ⊥) → Row is latency live never joins i j (latency (nth is i))
  writes_too : (v : ℕ) → IsIn v (item_writes (nth is i)) → IsIn v (item_writes (nth is j)) → Row is latency live never joins i j (latency (nth is i))
  writes_read : (v : ℕ) → IsIn v (item_reads (nth is i)) → IsIn v (item_writes (nth is j)) → Row is latency live never joins i j 0
  store_access : IsStore (nth is i) → (IsLoad (nth is j) ⊎ IsStore (nth is j)) → never i j ≡ false → Row is latency live never joins i j 1
  load_store : IsLoad (nth is i) → IsStore (nth is j) → never i j ≡ false → Row is latency live never joins i j 0
  observables : IsObservable (nth is i) → IsObservable (nth is j) → Row is latency live never joins i j 1
  two_splits : IsSplit (nth is i) → IsSplit (nth is j) → Row is latency live never joins i j 0
  split_held : IsSplit (nth is i) → (IsStore (nth is j) ⊎ IsObservable (nth is j)) → Row is latency live never joins i j 1
  below_join : (q : ℕ) → joins q ≡ true → i < q → q ≤ j → (IsSplit (nth is j) ⊎ IsObservable (nth is j)) → Row is latency live never joins i j 1
  split_live : (v : ℕ) → IsSplit (nth is i) → live i v → IsIn v (item_writes (nth is j)) → Row is latency live never joins i j 1

abbrev pub Meets : List Item → (Item → ℕ) → (ℕ → ℕ → Type 0) → (ℕ → ℕ → Bool) → (ℕ → Bool) → (ℕ → ℕ) → Type 0
Meets is latency live never joins word = (i j d : ℕ) → i < j → j < length is → Row is latency live never joins i j d → word i + d ≤ word j

-- what the law of the index forms gives, for runs in trace order from place q on
abbrev pub NeverApart : Setting → List Item → (ℕ → ℕ → Bool) → ℕ → Type 0
NeverApart setting is never q =
    (s : State) (i j a c : ℕ) → i < j → never (q + i) (q + j) ≡ true →
    let part = drop q is in
    let touches = λ (k : ℕ). item_takes setting (order setting part s k) (nth part k) (Cell a c) ⊎ item_gives setting (order setting part s k) (nth part k) (Cell a c) in
    touches i → touches j → ⊥

-- the words of a placement: inside for the trace, and beyond for what is none of it; marks as compensation sets them
pub record Placed (is : List Item) (latency : Item → ℕ) (word : ℕ → ℕ) (mark : ℕ → Item) (last : ℕ) : Type 0 where
  pub inside : (k : ℕ) → k < length is → word k < last
  pub beyond : (k : ℕ) → length is ≤ k → last < word k
  pub marked : (k : ℕ) → Marked (nth is k) (mark k)
  pub takes_time : (i v : ℕ) → IsIn v (item_writes (nth is i)) → 1 ≤ latency (nth is i)
  pub freed : (e k v a cluster : ℕ) (p : Operand) (d : Bool) → e < k → IsSplit (nth is e) → word k ≤ word e → mark k ≡ Plain (Load v a p d) cluster → d ≡ true
