-- The graph of blocks and regions that a graph begins as: its blocks, and no regions.
use Rattle.std.specs.Prelude.{◌≡◌, ◌==◌, ◌<◌, ◌&&◌, ℕ, Bool, false, if◌then◌else◌, Option, Some, None, List, [], ◌∷◌, length, replicate, slice_set, map}
use Rattle.std.specs.List.{list_any}
use Rattle.vx_flow.specs.declared.graph.Block.{Block}
use Rattle.vx_flow.specs.declared.graph.Edge.{Edge}
use Rattle.vx_flow.specs.declared.graph.Op.{Op}
use Rattle.vx_flow.specs.declared.graph.Graph.{Graph}
use Rattle.vx_flow.specs.Operands.{binds}
use Rattle.vx_flow.specs.Walk.{BackEdges, Headers}
use Rattle.vx_mixed.specs.declared.region.Node.{Node}
use Rattle.vx_mixed.specs.declared.region.Node.TheVariants.{Unused}
use Rattle.vx_mixed.specs.declared.region.Origin.{Origin}
use Rattle.vx_mixed.specs.declared.mixed.MixedGraph.{MixedGraph}
use Rattle.vx_mixed.specs.Settled.{has_home}

-- The mixed graph of a function's graph: its blocks, and no regions.

pub record OfGraph (graph : Graph) (m : MixedGraph) : Type 0 where
  pub nodes : m.nodes ≡ map Unused graph.blocks
  pub regions : m.regions ≡ []
  pub banks : m.banks ≡ graph.banks
  pub parameters : m.parameters ≡ graph.parameters
  pub arrays : m.arrays ≡ graph.arrays

-- The values that stand on cluster 0 from the start: what a choice by a branch value writes, and what comes from the input.

abbrev pub is_some_of : Option ℕ → ℕ → Bool
is_some_of None v = false
is_some_of (Some u) v = u == v

abbrev pub is_bound : Graph → ℕ → Bool
is_bound graph v = list_any (λ (block : Block). list_any (λ op. is_some_of (binds op) v) block.ops) graph.blocks

-- each value of the graph has a home: 0 where it stands there from the start, else none yet
pub record StartHomes (graph : Graph) (clusters : List (Option ℕ)) : Type 0 where
  pub size : length clusters ≡ length graph.banks
  pub homes : (v : ℕ) → v < length graph.banks → has_home clusters v ≡ (if is_bound graph v then Some 0 else None)

pub record FromGraph (graph : Graph) (m : MixedGraph) : Type 0 where
  pub blocks : OfGraph graph m
  pub function : m.function ≡ 0
  pub origins : m.origins ≡ replicate (length graph.blocks) None
  pub headers : Headers graph m.headers
  pub back : BackEdges graph m.back
  pub homes : StartHomes graph m.homes.clusters

-- what the calls tell

abbrev pub unused_in : Option Node → Option Block
unused_in None = None
unused_in (Some (Unused block)) = Some block
unused_in (Some node) = None

abbrev pub origin_edge : Option (Option Origin) → Option Edge
origin_edge None = None
origin_edge (Some None) = None
origin_edge (Some (Some origin)) = Some origin.edge

abbrev pub same_edge : Edge → Edge → Bool
same_edge e f = (e.from == f.from) && (e.to == f.to)

-- how homes are bound, operation by operation

abbrev pub bound_to : Option ℕ → List (Option ℕ) → List (Option ℕ)
bound_to None homes = homes
bound_to (Some v) homes = slice_set homes v (Some 0)

abbrev pub bound_in : List Op → List (Option ℕ) → List (Option ℕ)
bound_in [] homes = homes
bound_in (op ∷ ops) homes = bound_in ops (bound_to (binds op) homes)

abbrev pub bound_by : List Block → List (Option ℕ) → List (Option ℕ)
bound_by [] homes = homes
bound_by (block ∷ blocks) homes = bound_by blocks (bound_in block.ops homes)
