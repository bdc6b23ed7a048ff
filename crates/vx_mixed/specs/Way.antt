-- One way into a region: from its start, or by a joining edge.
use Rattle.std.specs.Prelude.{◌≡◌, ℕ, Bool, true, false, Option, Some, List, [], slice_get}
use Rattle.vx_flow.specs.declared.graph.Op.{Op}
use Rattle.vx_flow.specs.declared.graph.Operand.{Operand}
use Rattle.vx_flow.specs.Effects.{State, Setting}
use Rattle.vx_flow.specs.declared.graph.Exit.{Exit}
use Rattle.vx_flow.specs.declared.graph.Exit.TheVariants.{Goto, Split as Branch, Call, Return, Ends}
use Rattle.vx_mixed.specs.declared.region.Item.{Item}
use Rattle.vx_mixed.specs.declared.region.Item.TheVariants.{Plain, Split}
use Rattle.vx_mixed.specs.declared.region.Node.TheVariants.{Unused, Enters}
use Rattle.vx_mixed.specs.declared.mixed.MixedGraph.{MixedGraph}
use Rattle.vx_base.specs.declared.outcome.Trap.{Trap}
use Rattle.vx_mixed.specs.Meaning.{is_same}
use Rattle.vx_mixed.specs.Agree.{Alike}
use Rattle.vx_flow.specs.Meaning.{Hop, Wrong}
use Rattle.vx_mixed.specs.Path.{trace_hop}
use Rattle.vx_mixed.specs.Alive.{Alive, AtEnd}

abbrev pub item_latency : (Op → ℕ) → Item → ℕ
item_latency latency (Plain op cluster) = latency op
item_latency latency (Split p y edge d) = 1

-- the same exit, to blocks that correspond
pub data Renamed (pairs : ℕ → ℕ → Bool) : Exit → Exit → Type 0 where
  goto : {c c' : ℕ} → (pairs c c' ≡ true) → Renamed pairs (Goto c) (Goto c')
  branch : {p c c' d d' : ℕ} → (pairs c c' ≡ true) → (pairs d d' ≡ true) → Renamed pairs (Branch p c d) (Branch p c' d')
  call : {g next next' : ℕ} {args : List Operand} {result : Option ℕ} → (pairs next next' ≡ true) → Renamed pairs (Call g args result next) (Call g args result next')
  return : {x : Operand} → Renamed pairs (Return x) (Return x)
  stop : {k : Trap} → Renamed pairs (Ends k) (Ends k)

-- b' leads to word r of region n of the new graph: at once where there is nothing to copy, or by a made block with the copies
pub data LeadsIn (new : MixedGraph) (meet : ℕ → ℕ → Bool) (n r : ℕ) (ops : List Op) (b' : ℕ) : Type 0 where
  at_once : ops ≡ [] → slice_get new.nodes b' ≡ Some (Enters n r) → LeadsIn new meet n r ops b'
  by_made : (c : ℕ) → slice_get new.nodes b' ≡ Some (Unused (record { ops = ops; exit = Goto c })) → meet b' c ≡ false → slice_get new.nodes c ≡ Some (Enters n r) → LeadsIn new meet n r ops b'

-- the edge from b to c of the new graph leads to what corresponds to block `to` of the old one: at once, or by a made block
pub data LeadsOut (new : MixedGraph) (meet : ℕ → ℕ → Bool) (pairs : ℕ → ℕ → Bool) (ops : List Op) (b c to : ℕ) : Type 0 where
  at_once : ops ≡ [] → meet b c ≡ true → (pairs to c ≡ true) → LeadsOut new meet pairs ops b c to
  by_made : (c' : ℕ) → meet b c ≡ false → slice_get new.nodes c ≡ Some (Unused (record { ops = ops; exit = Goto c' })) → meet c c' ≡ true → (pairs to c' ≡ true) → LeadsOut new meet pairs ops b c to

-- The items of a trace in which copies between clusters were inserted, beside the items of its blocks: executed in order
-- they leave alike, with what is live; and nothing new is live at the start.
pub record Clustered (setting : Setting) (old : MixedGraph) (plain items : List Item) (end : ℕ) (exit : Exit) : Type 0 where
  pub leaves_alike : (s : State) (h : Hop) → trace_hop setting plain end exit s ≡ h → (h ≡ Wrong → ⊥) → (h' : Hop) × (trace_hop setting items end exit s ≡ h') × Alike old is_same h h'
  pub alive : (v : ℕ) → Alive old items v (AtEnd old exit v) → Alive old plain v (AtEnd old exit v)
