-- Laws of layouts, each the clause of a public function.
use Rattle.std.specs.Prelude.{◌≡◌, ◌≢◌, ◌<◌, ℕ, ℤ, Bool, Option, Some, None, List, [], ◌∷◌, length, slice_get}
use Rattle.vx_base.specs.Outcome.{Same, NeverFails}
use Rattle.vx_flow.specs.declared.graph.Op.{Op}
use Rattle.vx_flow.specs.declared.graph.Graph.{Graph}
use Rattle.vx_flow.specs.declared.graph.Flow.{Flow}
use Rattle.vx_mixed.specs.declared.region.Item.{Item}
use Rattle.vx_mixed.specs.declared.region.Item.TheVariants.{Plain as PlainItem, Split as SplitItem}
use Rattle.vx_mixed.specs.declared.mixed.MixedGraph.{MixedGraph}
use Rattle.vx_mixed.specs.declared.layout.Laid.{Laid}
use Rattle.vx_mixed.specs.declared.layout.Laid.TheVariants.{Plain, Split}
use Rattle.vx_mixed.specs.declared.layout.VWords.{VWords}
use Rattle.vx_mixed.specs.Valid.{Valid}
use Rattle.vx_mixed.specs.Settled.{Settled}
use Rattle.vx_mixed.specs.Program.{mixed_run}
use Rattle.vx_mixed.specs.Layout.{layout_of, IsDone}
use Rattle.vx_layout.specs.Laid.{laid_run}
use Rattle.vx_mixed.specs.LaidSettled.{SettledLayout}
use Rattle.vx_layout.specs.Origins.{ComesFromGraph, LaidFromGraph}

-- room for the items of regions as for laid-out ones: neither the edge nor the place of a split comes into it
abbrev pub as_item : Laid → Item → Type 0
as_item (Plain op cluster) (PlainItem op' cluster') = (op ≡ op') × (cluster ≡ cluster')
as_item (Split p y q) (SplitItem p' y' e d) = (p ≡ p') × (y ≡ y')
as_item (Plain op cluster) (SplitItem p' y' e d) = ⊥
as_item (Split p y q) (PlainItem op' cluster') = ⊥

abbrev pub AreItems : List Laid → List Item → Type 0
AreItems [] [] = Unit {0}
AreItems (x ∷ xs) (y ∷ ys) = as_item x y × AreItems xs ys
AreItems [] (y ∷ ys) = ⊥
AreItems (x ∷ xs) [] = ⊥

abbrev pub SameRoom : (List (Option ℕ) → List Item → Bool) → (List (Option ℕ) → List Laid → Bool) → Type 0
SameRoom room laid_room = (homes : List (Option ℕ)) (word : List Item) (items : List Laid) → AreItems items word → laid_room homes items ≡ room homes word

-- each layout is that of the function's graph of regions, of which no block is left
pub record LaidOut (m : MixedGraph) (l : VWords) : Type 0 where
  pub valid : Valid m
  pub done : IsDone m
  pub is : l ≡ layout_of m

abbrev pub BothLaidOut : Option MixedGraph → Option VWords → Type 0
BothLaidOut None None = Unit {0}
BothLaidOut (Some m) (Some l) = LaidOut m l
BothLaidOut None (Some l) = ⊥
BothLaidOut (Some m) None = ⊥

-- the graph of the flow has the parameters and the arrays of the graph of regions
abbrev pub SameFrame : Option Graph → Option MixedGraph → Type 0
SameFrame (Some graph) (Some m) = (m.parameters ≡ graph.parameters) × (m.arrays ≡ graph.arrays)
SameFrame None None = Unit {0}
SameFrame (Some graph) None = ⊥
SameFrame None (Some m) = ⊥

-- Where no run of a program of settled graphs of regions fails, its layouts run the same, and never fail.
abbrev pub LayoutRuns : Type 0
LayoutRuns =
    (flow : Flow) (times : List ℕ) (latency : Op → ℕ) (room : List (Option ℕ) → List Item → Bool) (ms : List MixedGraph) (ls : List VWords) (input : List ℤ) → times ≢ [] →
    ((f : ℕ) → SameFrame (slice_get flow.functions f) (slice_get ms f)) → ((f : ℕ) → BothLaidOut (slice_get ms f) (slice_get ls f)) →
    ((f : ℕ) (m : MixedGraph) → slice_get ms f ≡ Some m → Settled room latency m) →
    NeverFails (mixed_run flow times latency ms input) →
    Same (mixed_run flow times latency ms input) (laid_run flow ls input) × NeverFails (laid_run flow ls input)

-- The layout of a settled graph that has a block is settled.
abbrev pub LayoutSettles : Type 0
LayoutSettles =
    (m : MixedGraph) (l : VWords) (latency : Op → ℕ) (room : List (Option ℕ) → List Item → Bool) (laid_room : List (Option ℕ) → List Laid → Bool) →
    0 < length m.nodes → LaidOut m l → SameRoom room laid_room → Settled room latency m → SettledLayout laid_room latency l

-- It has the code of the graph.
abbrev pub LayoutComesFromGraph : Type 0
LayoutComesFromGraph = (graph : Graph) (m : MixedGraph) (l : VWords) → LaidOut m l → ComesFromGraph graph m → LaidFromGraph graph l
