-- A trace cut from a path of blocks, and what it does in trace order.
use Rattle.std.specs.Prelude.{◌≡◌, ℕ, Bool, true, false, Some, List, [], ◌∷◌, ◌++◌, map, slice_get}
use Rattle.vx_flow.specs.Effects.{State, Setting, effect, IsIn}
use Rattle.vx_flow.specs.declared.graph.Op.{Op}
use Rattle.vx_flow.specs.declared.graph.Exit.{Exit}
use Rattle.vx_flow.specs.declared.graph.Exit.TheVariants.{Goto, Split as Branch}
use Rattle.vx_mixed.specs.declared.region.Item.{Item}
use Rattle.vx_mixed.specs.declared.region.Item.TheVariants.{Plain, Split}
use Rattle.vx_mixed.specs.declared.region.Node.TheVariants.{Unused}
use Rattle.vx_mixed.specs.declared.mixed.MixedGraph.{MixedGraph}
use Rattle.vx_flow.specs.Meaning.{Hop, Arrives, Wrong, leave, and_then}
use Rattle.vx_flow.specs.Sound.{targets_of}
use Rattle.vx_flow.specs.Walk.{edge}
use Rattle.vx_mixed.specs.Live.{plain}
use Rattle.vx_mixed.specs.Meaning.{leaves_on, picked}

-- the trace in trace order, up to the first split that leaves
abbrev pub trace_hop : Setting → List Item → ℕ → Exit → State → Hop
trace_hop setting [] b exit s = leave b exit s
trace_hop setting (Plain op cluster ∷ is) b exit s = and_then (effect setting s op s) (trace_hop setting is b exit)
trace_hop setting (Split p y edge d ∷ is) b exit s = picked (leaves_on (s.values p) y) Wrong (Arrives edge.from edge.to s) (trace_hop setting is b exit s)

-- the items of the blocks on a path from b to l, with the exit of l; the edges of the path are inner ones
pub data Path (m : MixedGraph) (meet : ℕ → ℕ → Bool) : ℕ → List Item → ℕ → Exit → Type 0 where
  ends : {b l : ℕ} {is : List Item} {x : Exit} (ops : List Op) → slice_get m.nodes b ≡ Some (Unused (record { ops = ops; exit = x })) → is ≡ map plain ops → l ≡ b → ((c : ℕ) → IsIn c (targets_of x) → meet b c ≡ true) → Path m meet b is l x
  jumps : {b l : ℕ} {is : List Item} {x : Exit} (c : ℕ) (ops : List Op) (rest : List Item) → slice_get m.nodes b ≡ Some (Unused (record { ops = ops; exit = Goto c })) → meet b c ≡ false → is ≡ map plain ops ++ rest → Path m meet c rest l x → Path m meet b is l x
  on_yes : {b l : ℕ} {is : List Item} {x : Exit} (p c d : ℕ) (ops : List Op) (rest : List Item) → slice_get m.nodes b ≡ Some (Unused (record { ops = ops; exit = Branch p c d })) → meet b c ≡ false → meet b d ≡ true → is ≡ map plain ops ++ (Split p false (edge b d) 0 ∷ rest) → Path m meet c rest l x → Path m meet b is l x
  on_no : {b l : ℕ} {is : List Item} {x : Exit} (p c d : ℕ) (ops : List Op) (rest : List Item) → slice_get m.nodes b ≡ Some (Unused (record { ops = ops; exit = Branch p c d })) → meet b d ≡ false → meet b c ≡ true → is ≡ map plain ops ++ (Split p true (edge b c) 0 ∷ rest) → Path m meet d rest l x → Path m meet b is l x
