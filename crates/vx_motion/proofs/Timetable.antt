-- Items done at times.
use Rattle.std.specs.Prelude.{◌≡◌, ◌<◌, ℕ, zero, suc, List, map}
use Rattle.vx_base.specs.Schedule.{Ordered}
use Rattle.vx_flow.specs.Effects.{State, Setting, IsIn, state_or}
use Rattle.vx_motion.specs.Items.{Marked, Safe, Reads, Writes}
use Rattle.vx_mixed.specs.Meaning.{word_effect}
use Rattle.vx_mixed.specs.declared.region.Item.{Item}
use Rattle.vx_motion.specs.Trace.{nth, order}

-- the state before word w, each word made of the items at the places that it has
abbrev pub in_words : Setting → (ℕ → List Item) → State → ℕ → State
in_words setting words t zero = t
in_words setting words t (suc w) = let σ = in_words setting words t w in state_or σ (word_effect setting σ (words w) σ)

abbrev pub laid : (ℕ → ℕ → Item) → (ℕ → List ℕ) → ℕ → List Item
laid put members w = map (put w) (members w)

-- Items done at times: which of them at a time, in which form, and that the delays are met.
pub record Timetable (setting : Setting) (is : List Item) (old : State) (put : ℕ → ℕ → Item) (members : ℕ → List ℕ) (when : ℕ → ℕ) (end : ℕ) : Type 0 where
  pub all : (k w : ℕ) → w < end → when k ≡ w → IsIn k (members w)
  pub only : (k w : ℕ) → w < end → IsIn k (members w) → when k ≡ w
  pub marked : (k : ℕ) → when k < end → Marked (nth is k) (put (when k) k)
  pub safe : (k : ℕ) → when k < end → Safe setting (order setting is old k) (put (when k) k)
  pub ordered : Ordered (λ k l. Reads setting (order setting is old k) (nth is k) l) (λ k l. Writes setting (order setting is old k) (nth is k) l) when end
