-- A trace placed in words, what met delays give, and the copies on its edges.
use Rattle.std.specs.Prelude.{◌≡◌, ◌<◌, ◌≤◌, ◌+◌, ℕ, zero, suc, Bool, true, List, [], ◌∷◌, ◌++◌, map, length, cond, nat_eq}
use Rattle.vx_flow.specs.declared.graph.Op.{Op}
use Rattle.vx_flow.specs.declared.graph.Op.TheVariants.{Load, Store, Input, Text, Decimal}
use Rattle.vx_flow.specs.Effects.{State, Setting, IsIn, Location}
use Rattle.vx_mixed.specs.declared.region.Item.{Item}
use Rattle.vx_mixed.specs.declared.region.Item.TheVariants.{Plain, Split}
use Rattle.vx_mixed.specs.Live.{item_reads, item_writes}
use Rattle.vx_motion.specs.Items.{item_takes, item_gives, Marked}
use Rattle.vx_motion.specs.Trace.{nth, order}

abbrev pub IsSplit : Item → Type 0
IsSplit (Plain op cluster) = ⊥
IsSplit (Split p y edge d) = Unit {0}

-- stores, and what reads the input away or prints
abbrev pub IsFirm : Item → Type 0
IsFirm (Plain (Store a p x) cluster) = Unit {0}
IsFirm (Plain (Input v) cluster) = Unit {0}
IsFirm (Plain (Text n) cluster) = Unit {0}
IsFirm (Plain (Decimal x) cluster) = Unit {0}
IsFirm item = ⊥

-- never wrong, whatever it reads
abbrev pub Harmless : Item → Type 0
Harmless (Plain (Load v a p d) cluster) = d ≡ true
Harmless (Plain (Store a p x) cluster) = ⊥
Harmless (Plain (Input v) cluster) = ⊥
Harmless (Plain (Decimal x) cluster) = ⊥
Harmless item = Unit {0}

-- What the delay table gives for the items of a trace (or of its part below a join), placed in the words 0 to last - 1.
-- After e v: v is live on the off-trace edge of the split at place e. What is said of cells and of the input and output
-- is said of every run in trace order, from whatever state: there the law of the index forms comes in.
pub record RowFacts (setting : Setting) (is : List Item) (word : ℕ → ℕ) (mark : ℕ → Item) (latency : Item → ℕ) (last : ℕ) (After : ℕ → ℕ → Type 0) : Type 0 where
  pub inside : (k : ℕ) → k < length is → word k < last
  pub beyond : (k : ℕ) → length is ≤ k → last < word k
  pub marked : (k : ℕ) → Marked (nth is k) (mark k)
  pub takes_time : (i v : ℕ) → IsIn v (item_writes (nth is i)) → 1 ≤ latency (nth is i)
  pub flow : (i o v : ℕ) → i < o → IsIn v (item_writes (nth is i)) → IsIn v (item_reads (nth is o)) → word i + latency (nth is i) ≤ word o
  pub anti : (o k v : ℕ) → o < k → IsIn v (item_reads (nth is o)) → IsIn v (item_writes (nth is k)) → word o ≤ word k
  pub output : (i k v : ℕ) → i < k → IsIn v (item_writes (nth is i)) → IsIn v (item_writes (nth is k)) → word i + latency (nth is i) ≤ word k
  pub cell_flow : (s : State) (i o : ℕ) (l : Location) → i < o → item_gives setting (order setting is s i) (nth is i) l → item_takes setting (order setting is s o) (nth is o) l → word i < word o
  pub cell_anti : (s : State) (o k : ℕ) (l : Location) → o < k → item_takes setting (order setting is s o) (nth is o) l → item_gives setting (order setting is s k) (nth is k) l → word o ≤ word k
  pub cell_output : (s : State) (i k : ℕ) (l : Location) → i < k → item_gives setting (order setting is s i) (nth is i) l → item_gives setting (order setting is s k) (nth is k) l → word i < word k
  pub splits : (i k : ℕ) → i < k → IsSplit (nth is i) → IsSplit (nth is k) → word i ≤ word k
  pub held : (e k : ℕ) → e < k → IsSplit (nth is e) → IsFirm (nth is k) → word e < word k
  pub kept : (e k v : ℕ) → e < k → IsSplit (nth is e) → After e v → IsIn v (item_writes (nth is k)) → word e < word k
  pub early : (e k : ℕ) → e < k → IsSplit (nth is e) → word k ≤ word e → Harmless (mark k)

-- of m places from k on, those in word w
abbrev pub places : (ℕ → ℕ) → ℕ → ℕ → ℕ → List ℕ
places word w k zero = []
places word w k (suc m) = cond (nat_eq (word k) w) (k ∷ places word w (suc k) m) (places word w (suc k) m)

abbrev pub row : (ℕ → ℕ) → (ℕ → Item) → ℕ → ℕ → ℕ → List Item
row word mark k m w = map mark (places word w k m)

abbrev pub words_from : (ℕ → List Item) → ℕ → ℕ → List (List Item)
words_from f w zero = []
words_from f w (suc m) = f w ∷ words_from f (suc w) m

abbrev pub ops_of : Item → List Op
ops_of (Plain op cluster) = op ∷ []
ops_of (Split p y edge d) = []

-- of m places from k on, the operations of those that are chosen
abbrev pub copies : (ℕ → Bool) → (ℕ → Item) → ℕ → ℕ → List Op
copies chosen put k zero = []
copies chosen put k (suc m) = cond (chosen k) (ops_of (put k)) [] ++ copies chosen put (suc k) m
