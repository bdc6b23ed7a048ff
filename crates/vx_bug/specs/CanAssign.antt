-- What a trace, a machine and homes keep where clusters are to be chosen.
use Rattle.std.specs.Prelude.{◌≡◌, ◌<◌, ◌≤◌, ◌*◌, ◌^◌, ℕ, true, false, Some, None, List, [], ◌∷◌, length, slice_get, slice_index_or}
use Rattle.vx_flow.specs.declared.trace.TraceOp.{TraceOp}
use Rattle.vx_flow.specs.declared.trace.TraceOp.TheVariants.{Plain, Split}
use Rattle.vx_flow.specs.declared.trace.Join.{Join}
use Rattle.vx_flow.specs.declared.trace.Trace.{Trace}
use Rattle.vx_flow.specs.declared.trace.Homes.{Homes}
use Rattle.vx_flow.specs.Effects.{IsIn}
use Rattle.vx_flow.specs.Operands.{binds, value_list}
use Rattle.vx_isa.specs.Numbers.{Numbers}
use Rattle.vx_room.specs.Room.{home_of}
use Rattle.vx_dep.specs.Delays.{Stands, reads_of, writes_of}
use Rattle.vx_bug.specs.Clusters.{general_reads, general_writes, is_bound, is_across}

-- the operation at a place was copied as compensation, and had this cluster
abbrev pub IsFixed : Trace → (place cluster : ℕ) → Type 0
IsFixed t i cluster = slice_index_or t.fixed i None ≡ Some cluster

abbrev pub IsFree : Trace → (place : ℕ) → Type 0
IsFree t i = slice_index_or t.fixed i None ≡ None

-- the general value that a selection, or an operation that meets the input, writes on cluster 0 alone
abbrev pub bound_writes : TraceOp → List ℕ
bound_writes (Plain op) = value_list (binds op)
bound_writes (Split test leaves_when edge live) = []

-- it has the home 0 from the start
abbrev pub BoundAtHome : Trace → Homes → Type 0
BoundAtHome t homes = (i : ℕ) (op : TraceOp) (v : ℕ) → Stands t i op → IsIn v (bound_writes op) → home_of homes v ≡ Some 0

-- an operation that has its cluster has it where its result has its home, and on cluster 0 where it can stand there alone
pub record FixedAtHome (t : Trace) (homes : Homes) : Type 0 where
  pub result : (i cluster : ℕ) (op : TraceOp) (v : ℕ) → Stands t i op → IsFixed t i cluster → IsIn v (general_writes op) → home_of homes v ≡ Some cluster
  pub bound : (i cluster : ℕ) (op : TraceOp) → Stands t i op → IsFixed t i cluster → is_bound op ≡ true → cluster ≡ 0

-- it reads general values of its own cluster alone, a copy across aside
abbrev pub FixedReadsHere : Trace → Homes → Type 0
FixedReadsHere t homes = (i cluster : ℕ) (op : TraceOp) (v : ℕ) → Stands t i op → IsFixed t i cluster → is_across op ≡ false → IsIn v (general_reads op) → home_of homes v ≡ Some cluster

-- the machine has the clusters that are named
pub record ClustersAreThere (m : Numbers) (t : Trace) (homes : Homes) : Type 0 where
  pub fixed : (i cluster : ℕ) → IsFixed t i cluster → cluster < m.clusters
  pub homes_there : (v cluster : ℕ) → home_of homes v ≡ Some cluster → cluster < m.clusters

-- an operation that has no cluster yet names values of the function's graph
pub record ValuesAreThere (t : Trace) : Type 0 where
  pub reads : (i : ℕ) (op : TraceOp) (v : ℕ) → Stands t i op → IsFree t i → IsIn v (reads_of op) → v < t.values
  pub writes : (i : ℕ) (op : TraceOp) (v : ℕ) → Stands t i op → IsFree t i → IsIn v (writes_of op) → v < t.values

-- each copy of a value to a cluster has a number
abbrev pub CopiesHaveNumbers : Trace → Type 0
CopiesHaveNumbers t = 5 * t.values < 2 ^ 32

-- each operation has its entry, and joins stand in the trace, one below the other
pub record IsWellFormed (t : Trace) : Type 0 where
  pub each_fixed : length t.fixed ≡ length t.ops
  pub joins_ascend : (j k : ℕ) (above below : Join) → j < k → slice_get t.joins j ≡ Some above → slice_get t.joins k ≡ Some below → above.place ≤ below.place
  pub joins_within : (join : Join) → IsIn join t.joins → join.place ≤ length t.ops
