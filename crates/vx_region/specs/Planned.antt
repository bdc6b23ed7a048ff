-- What the calls of planning give for some blocks of a graph: their trace on the clusters that are assigned to its operations,
-- placed in words, with the copies on the edges of its splits and joins, and what a replacement is made of by then.
use Rattle.std.specs.Prelude.{◌≡◌, ◌+◌, ℕ, Bool, true, if◌then◌else◌, Option, Some, None, List, [], ◌∷◌, ◌++◌, map, slice_get, slice_index_or}
use Rattle.std.specs.List.{flat_map}
use Rattle.vx_flow.specs.declared.graph.Edge.{Edge}
use Rattle.vx_flow.specs.declared.graph.Op.{Op}
use Rattle.vx_flow.specs.declared.trace.TraceOp.{TraceOp}
use Rattle.vx_flow.specs.declared.trace.TraceOp.TheVariants.{Plain, Split}
use Rattle.vx_flow.specs.declared.trace.Join.{Join}
use Rattle.vx_flow.specs.declared.trace.Trace.{Trace}
use Rattle.vx_flow.specs.declared.trace.Clustered.{Clustered}
use Rattle.vx_flow.specs.declared.trace.Placed.{Placed}
use Rattle.vx_flow.specs.declared.trace.Homes.{Homes}
use Rattle.vx_flow.specs.Effects.{dismissed}
use Rattle.vx_isa.specs.Numbers.{Numbers, is_machine}
use Rattle.vx_mixed.specs.declared.region.Made.{Made}
use Rattle.vx_mixed.specs.declared.mixed.MixedGraph.{MixedGraph}
use Rattle.vx_mixed.specs.declared.replacement.Replacement.{Replacement}
use Rattle.vx_mixed.specs.TraceOf.{IsTraceOf}
use Rattle.vx_dep.specs.declared.mode.Mode.{Mode}
use Rattle.vx_dep.specs.declared.copies.EdgeCopies.{EdgeCopies}
use Rattle.vx_dep.specs.declared.copies.Rejoin.{Rejoin}
use Rattle.vx_dep.specs.Delays.{AreHeights}
use Rattle.vx_dep.specs.Compensation.{word_at, at_splits_of, at_joins_of, is_freed, drain_at}
use Rattle.vx_bug.specs.declared.clusters.Clusters.{Clusters}
use Rattle.vx_bug.specs.Assigned.{Assigned}
use Rattle.vx_sched.specs.Placement.{PlacedBy, length_of}

-- a trace on its clusters, in these words
abbrev pub placed_in : Clustered → List ℕ → Placed
placed_in clustered words = record { clustered = clustered; words = words; length = length_of words }

-- copies

abbrev pub op_of : Option TraceOp → List Op
op_of None = []
op_of (Some (Plain op)) = op ∷ []
op_of (Some (Split test leaves_when edge live)) = []

-- the operations at these places
abbrev pub ops_at : List TraceOp → List ℕ → List Op
ops_at ops places = flat_map (λ i. op_of (slice_get ops i)) places

abbrev pub dismissed_if : Bool → Op → Op
dismissed_if freed op = if freed then dismissed op else op

-- the operations at these places as they stand in the region
abbrev pub placed_at : Placed → List ℕ → List Op
placed_at p places = flat_map (λ i. map (dismissed_if (is_freed p i)) (op_of (slice_get p.clustered.trace.ops i))) places

-- their clusters, which they keep
abbrev pub cluster_of : Option TraceOp → (cluster : ℕ) → List ℕ
cluster_of None cluster = []
cluster_of (Some (Plain op)) cluster = cluster ∷ []
cluster_of (Some (Split test leaves_when edge live)) cluster = []

abbrev pub clusters_at : Clustered → List ℕ → List ℕ
clusters_at c places = flat_map (λ i. cluster_of (slice_get c.trace.ops i) (slice_index_or c.clusters i 0)) places

-- a block on an edge; none where there is nothing to copy
abbrev pub made_of : Edge → List Op → List ℕ → List Made
made_of e [] clusters = []
made_of e (op ∷ ops) clusters = record { edge = e; ops = op ∷ ops; clusters = clusters } ∷ []

-- one for each split with copies
abbrev pub made_at_splits : Placed → List EdgeCopies → List Made
made_at_splits p splits = flat_map (λ (x : EdgeCopies). made_of x.edge (ops_at p.clustered.trace.ops x.copies) (clusters_at p.clustered x.copies)) splits

-- one for each edge of each join with copies
abbrev pub made_at_joins : Placed → List Join → List Rejoin → List Made
made_at_joins p [] rejoins = []
made_at_joins p (j ∷ joins) [] = []
made_at_joins p (j ∷ joins) (x ∷ rejoins) = flat_map (λ e. made_of e (placed_at p x.copies) (clusters_at p.clustered x.copies)) j.edges ++ made_at_joins p joins rejoins

-- what is planned

abbrev pub replacement_of : Numbers → Homes → Placed → List EdgeCopies → List Rejoin → Replacement
replacement_of machine homes p splits rejoins = record {
  trace = p.clustered.trace;
  clusters = p.clustered.clusters;
  words = p.words;
  length = p.length;
  drains = map (λ (x : EdgeCopies). drain_at machine p (word_at p.words x.split + 1)) splits;
  last_drain = drain_at machine p p.length;
  rejoins = map (λ (x : Rejoin). x.word) rejoins;
  made = made_at_splits p splits ++ made_at_joins p p.clustered.trace.joins rejoins;
  homes = homes;
}

pub record Planned (m : MixedGraph) (blocks : List ℕ) (machine : Numbers) (mode : Mode) (r : Replacement) : Type 0 where
  pub is_a_machine : is_machine machine ≡ true
  -- the trace, with the clusters that are assigned with the homes so far
  pub trace : Trace
  pub is_trace : IsTraceOf m blocks trace
  pub clusters : Clusters
  pub assigned : Assigned machine trace m.homes clusters
  -- the words
  pub words : List ℕ
  pub height : ℕ → ℕ
  pub heights : AreHeights machine mode clusters.clustered.trace height
  pub placed : PlacedBy clusters.clustered machine clusters.homes mode height words
  -- what is owed
  pub splits : List EdgeCopies
  pub at_splits : splits ≡ at_splits_of (placed_in clusters.clustered words)
  pub rejoins : List Rejoin
  pub at_joins : rejoins ≡ at_joins_of (placed_in clusters.clustered words)
  pub replacement : r ≡ replacement_of machine clusters.homes (placed_in clusters.clustered words) splits rejoins
