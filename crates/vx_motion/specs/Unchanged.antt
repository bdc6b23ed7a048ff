-- Nodes that a replacement leaves as they are, but for the names of blocks that their edges go to.
use Rattle.std.specs.Prelude.{◌≡◌, ℕ, Bool, true, Some, List, map, slice_get}
use Rattle.vx_flow.specs.declared.graph.Edge.{Edge}
use Rattle.vx_flow.specs.declared.graph.Exit.{Exit}
use Rattle.vx_flow.specs.declared.graph.Op.{Op}
use Rattle.vx_flow.specs.Effects.{IsIn}
use Rattle.vx_flow.specs.Sound.{targets_of}
use Rattle.vx_mixed.specs.declared.region.Item.{Item}
use Rattle.vx_mixed.specs.declared.region.Item.TheVariants.{Split}
use Rattle.vx_mixed.specs.declared.region.Region.{Region}
use Rattle.vx_mixed.specs.declared.region.Node.TheVariants.{Unused, Enters}
use Rattle.vx_mixed.specs.declared.mixed.MixedGraph.{MixedGraph}
use Rattle.vx_mixed.specs.Live.{Live}
use Rattle.vx_mixed.specs.Settled.{InTime}
use Rattle.vx_mixed.specs.Way.{Renamed}
use Rattle.vx_mixed.specs.Next.{rename}

pub record SameRegion (latency : Op → ℕ) (old new : MixedGraph) (meet_old meet_new pairs : ℕ → ℕ → Bool) (g g' : Region) : Type 0 where
  pub to : ℕ → ℕ → ℕ
  pub words : g'.words ≡ map (map (rename to)) g.words
  pub last : Renamed pairs g.last g'.last
  pub edges : (j p d : ℕ) (edge : Edge) (y : Bool) (word : List Item) → slice_get g.words j ≡ Some word → IsIn (Split p y edge d) word →
      (pairs edge.to (to edge.from edge.to) ≡ true) × (meet_old edge.from edge.to ≡ true) × (meet_new edge.from (to edge.from edge.to) ≡ true)
  pub last_old : (c : ℕ) → IsIn c (targets_of g.last) → meet_old g.from c ≡ true
  pub last_new : (c : ℕ) → IsIn c (targets_of g'.last) → meet_new g'.from c ≡ true
  pub settled_old : InTime latency g
  pub drain : g'.drain ≡ g.drain

pub data Outside (latency : Op → ℕ) (old new : MixedGraph) (meet_old meet_new pairs : ℕ → ℕ → Bool) (b b' : ℕ) : Type 0 where
  block : (ops : List Op) (x x' : Exit) → slice_get old.nodes b ≡ Some (Unused (record { ops = ops; exit = x })) → slice_get new.nodes b' ≡ Some (Unused (record { ops = ops; exit = x' })) → Renamed pairs x x' →
      ((c : ℕ) → IsIn c (targets_of x) → meet_old b c ≡ true) → ((c : ℕ) → IsIn c (targets_of x') → meet_new b' c ≡ true) → Outside latency old new meet_old meet_new pairs b b'
  region : (r r' w : ℕ) (g g' : Region) → slice_get old.nodes b ≡ Some (Enters r w) → slice_get old.regions r ≡ Some g → slice_get new.nodes b' ≡ Some (Enters r' w) → slice_get new.regions r' ≡ Some g' →
      SameRegion latency old new meet_old meet_new pairs g g' → Outside latency old new meet_old meet_new pairs b b'

-- What is live at an entrance of the new graph is live at the same entrance of the old one.
abbrev pub LiveWithin : MixedGraph → MixedGraph → (ℕ → ℕ → Bool) → Type 0
LiveWithin old new pairs = (b b' v : ℕ) → pairs b b' ≡ true → Live new b' v → Live old b v

-- no copy of a value is live at this block
abbrev pub TidyAt : MixedGraph → (ℕ → Bool) → ℕ → Type 0
TidyAt m is_copy b = (v : ℕ) → is_copy v ≡ true → Live m b v → ⊥

abbrev pub KeepsTidy : MixedGraph → MixedGraph → (ℕ → ℕ → Bool) → Type 0
KeepsTidy old new pairs = (is_copy : ℕ → Bool) (b b' : ℕ) → pairs b b' ≡ true → TidyAt old is_copy b → TidyAt new is_copy b'
