-- A settled graph does the same whenever writes land.
use Rattle.std.specs.Prelude.{◌≡◌, ℕ, Bool, Option, List, drop}
use Rattle.vx_flow.specs.declared.graph.Op.{Op}
use Rattle.vx_flow.specs.Effects.{State, Setting}
use Rattle.vx_mixed.specs.declared.region.Item.{Item}
use Rattle.vx_mixed.specs.declared.region.Region.{Region}
use Rattle.vx_mixed.specs.declared.mixed.MixedGraph.{MixedGraph}
use Rattle.vx_mixed.specs.Meaning.{hop, early_hop, early_words, timed_from_start}
use Rattle.vx_mixed.specs.Settled.{InTime, Settled}

-- a settled graph does from each entrance what it does where each write lands at the next word, whenever writes land
abbrev pub AnyTiming : Type 0
AnyTiming =
    (room : List (Option ℕ) → List Item → Bool) (latency : Op → ℕ) (m : MixedGraph) → Settled room latency m →
    (setting : Setting) (times : List ℕ) (b : ℕ) (s : State) → hop setting times latency m b s ≡ early_hop setting m b s

-- the same of one region, from each of its words
abbrev pub RegionAnyTiming : Type 0
RegionAnyTiming =
    (latency : Op → ℕ) (g : Region) → InTime latency g →
    (setting : Setting) (times : List ℕ) (word : ℕ) (s : State) → timed_from_start setting times latency g (drop word g.words) s ≡ early_words setting g (drop word g.words) s
