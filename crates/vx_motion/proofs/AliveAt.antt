-- What is alive on a path, by the places of its items.
use Rattle.std.proofs.Common.{ℕ, zero, suc, ◌<◌, List, [], ◌∷◌, length, inl, inr, arith}
use Rattle.vx_flow.specs.Effects.{IsIn}
use Rattle.vx_mixed.specs.declared.region.Item.{Item}
use Rattle.vx_mixed.specs.declared.mixed.MixedGraph.{MixedGraph}
use Rattle.vx_mixed.specs.Live.{item_reads, item_writes}
use Rattle.vx_motion.specs.Trace.{nth}
use Rattle.vx_mixed.specs.Alive.{AfterItem, Alive}

pub alive_read : (m : MixedGraph) (is : List Item) (v : ℕ) (E : Type 0) (o : ℕ) → IsIn v (item_reads (nth is o)) → ((k : ℕ) → k < o → IsIn v (item_writes (nth is k)) → ⊥) → Alive m is v E
alive_read m [] v E o h none = absurd h
alive_read m (i ∷ is) v E zero h none = inl h
alive_read m (i ∷ is) v E (suc o) h none = inr (inr ((λ w. none 0 (omega arith) w), alive_read m is v E o h (λ k lt w. none (suc k) (omega arith) w)))

pub alive_edge : (m : MixedGraph) (is : List Item) (v : ℕ) (E : Type 0) (e : ℕ) → AfterItem m (nth is e) v → ((k : ℕ) → k < e → IsIn v (item_writes (nth is k)) → ⊥) → Alive m is v E
alive_edge m [] v E e h none = absurd h
alive_edge m (i ∷ is) v E zero h none = inr (inl h)
alive_edge m (i ∷ is) v E (suc e) h none = inr (inr ((λ w. none 0 (omega arith) w), alive_edge m is v E e h (λ k lt w. none (suc k) (omega arith) w)))

pub alive_end : (m : MixedGraph) (is : List Item) (v : ℕ) (E : Type 0) → E → ((k : ℕ) → k < length is → IsIn v (item_writes (nth is k)) → ⊥) → Alive m is v E
alive_end m [] v E h none = h
alive_end m (i ∷ is) v E h none = inr (inr ((λ w. none 0 (omega arith) w), alive_end m is v E h (λ k lt w. none (suc k) (omega arith) w)))
