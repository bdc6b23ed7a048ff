-- What a graph of blocks begins as, before anything is replaced.
use Rattle.std.specs.Prelude.{◌≡◌, ℕ, Bool, true, Option, List}
use Rattle.vx_flow.specs.declared.graph.Op.{Op}
use Rattle.vx_flow.specs.declared.graph.Graph.{Graph}
use Rattle.vx_flow.specs.Sound.{is_sound}
use Rattle.vx_mixed.specs.declared.region.Item.{Item}
use Rattle.vx_mixed.specs.declared.mixed.MixedGraph.{MixedGraph}
use Rattle.vx_mixed.specs.Settled.{Settled, Tidy}
use Rattle.vx_mixed.specs.FromGraph.{OfGraph}

-- the blocks of a sound graph name no copies, so none is live
abbrev pub BeginsTidy : Type 0
BeginsTidy = (graph : Graph) (m : MixedGraph) → is_sound graph ≡ true → OfGraph graph m → Tidy m

-- without regions there is nothing to settle
abbrev pub BeginsSettled : Type 0
BeginsSettled = (graph : Graph) (m : MixedGraph) → OfGraph graph m → (room : List (Option ℕ) → List Item → Bool) (latency : Op → ℕ) → Settled room latency m
