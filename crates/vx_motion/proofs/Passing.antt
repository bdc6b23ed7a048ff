-- How trace order passes its places, and where it leaves.
use Rattle.std.specs.Prelude.{◌≡◌, ◌<◌, ℕ, true, false, Some, List, length}
use Rattle.vx_flow.specs.Effects.{State, Setting, effect}
use Rattle.vx_flow.specs.Meaning.{Hop, Arrives, leave}
use Rattle.vx_flow.specs.Walk.{edge}
use Rattle.vx_flow.specs.declared.graph.Exit.{Exit}
use Rattle.vx_mixed.specs.Meaning.{leaves_on}
use Rattle.vx_motion.specs.Trace.{nth, order}
use Rattle.vx_mixed.specs.declared.region.Item.TheVariants.{Plain, Split}
use Rattle.vx_mixed.specs.declared.region.Item.{Item}

-- in trace order place k is passed: nothing wrong, no way out
abbrev pub Passes : Setting → State → Item → Type 0
Passes setting s (Plain op cluster) = (t : State) × (effect setting s op s ≡ Some t)
Passes setting s (Split p y edge d) = leaves_on (s.values p) y ≡ Some false

abbrev pub LeavesBy : State → Item → Hop → Type 0
LeavesBy s (Plain op cluster) h = ⊥
LeavesBy s (Split p y edge d) h = (leaves_on (s.values p) y ≡ Some true) × (h ≡ Arrives edge.from edge.to s)

-- the first split that leaves stands at place e
pub record LeavesAt (setting : Setting) (is : List Item) (s : State) (h : Hop) (e : ℕ) : Type 0 where
  pub inside : e < length is
  pub passes : (k : ℕ) → k < e → Passes setting (order setting is s k) (nth is k)
  pub leaves : LeavesBy (order setting is s e) (nth is e) h

pub record RunsOut (setting : Setting) (is : List Item) (s : State) (h : Hop) (l : ℕ) (x : Exit) : Type 0 where
  pub passes : (k : ℕ) → k < length is → Passes setting (order setting is s k) (nth is k)
  pub leaves : h ≡ leave l x (order setting is s (length is))
