-- The operations of one word, side by side, against trace order.
use Rattle.std.specs.Prelude.{◌≡◌, ℕ, ◌+◌, List, Some, map}
use Rattle.vx_flow.specs.Effects.{State, Setting, Location, at, IsIn}
use Rattle.vx_mixed.specs.declared.region.Item.{Item}
use Rattle.vx_mixed.specs.Meaning.{word_effect}
use Rattle.vx_motion.specs.Items.{Fine, Reads, Writes, Marked, Safe}
use Rattle.vx_mixed.specs.Agree.{SameShape}
use Rattle.vx_motion.specs.Trace.{nth, order}

-- An item at place k of a trace, as it is placed in a word that is issued in state s: it has a meaning where it stands in
-- trace order, and it reads there what refines what it reads in trace order.
pub record ReadyIn (setting : Setting) (items : List Item) (start s : State) (put : ℕ → Item) (k : ℕ) : Type 0 where
  pub marked : Marked (nth items k) (put k)
  pub safe : Safe setting (order setting items start k) (put k)
  pub reads : (l : Location) → Reads setting (order setting items start k) (nth items k) l → Fine l (at (order setting items start k) l) (at s l)

-- What the word of these places leaves: nothing else changes, and what one item alone writes refines what it writes in
-- trace order.
pub record LeavesInOrder (setting : Setting) (items : List Item) (start s t : State) (places : List ℕ) : Type 0 where
  pub still : (l : Location) → ((k : ℕ) → IsIn k places → Writes setting (order setting items start k) (nth items k) l → ⊥) → at t l ≡ at s l
  pub made : (k : ℕ) (l : Location) → IsIn k places → Writes setting (order setting items start k) (nth items k) l →
      ((j : ℕ) → IsIn j places → Writes setting (order setting items start j) (nth items j) l → j ≡ k) → Fine l (at (order setting items start (k + 1)) l) (at t l)

-- One word against trace order: where each of its items is ready the word has a meaning, and leaves what they leave in order.
abbrev pub ParallelWords : Type 0
ParallelWords =
    (setting : Setting) (items : List Item) (start s : State) (put : ℕ → Item) (places : List ℕ) → SameShape start s →
    ((k : ℕ) → IsIn k places → ReadyIn setting items start s put k) →
    (t : State) × (word_effect setting s (map put places) s ≡ Some t) × LeavesInOrder setting items start s t places
