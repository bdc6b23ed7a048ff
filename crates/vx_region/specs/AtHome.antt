-- Operations of a clustered trace stand where the values do that they name.
use Rattle.std.specs.Prelude.{◌≡◌, ◌≢◌, ◌<◌, ◌≤◌, ℕ, true, false, Option, Some, slice_get, slice_index_or}
use Rattle.vx_flow.specs.declared.graph.Op.TheVariants.{Across}
use Rattle.vx_flow.specs.declared.trace.TraceOp.{TraceOp}
use Rattle.vx_flow.specs.declared.trace.TraceOp.TheVariants.{Plain}
use Rattle.vx_flow.specs.declared.trace.Trace.{Trace}
use Rattle.vx_flow.specs.declared.trace.Homes.{Homes}
use Rattle.vx_flow.specs.Effects.{IsIn}
use Rattle.vx_isa.specs.Numbers.{Numbers, IsMachine}
use Rattle.vx_room.specs.Room.{home_of}
use Rattle.vx_dep.specs.Delays.{Stands}
use Rattle.vx_bug.specs.declared.clusters.Clusters.{Clusters}
use Rattle.vx_bug.specs.Assigned.{last_books, Assigned}
use Rattle.vx_bug.specs.CanAssign.{IsFixed, IsFree, BoundAtHome, FixedAtHome, FixedReadsHere, ClustersAreThere, ValuesAreThere, IsWellFormed}
use Rattle.vx_bug.specs.Clusters.{general_reads, general_writes, is_bound, is_across}
use Rattle.vx_bug.specs.Copies.{copy_of, renamed_op, here}
use Rattle.vx_bug.specs.Further.{HomesAreThere, RoomForEach}

-- an operation on a cluster names general values of that cluster alone, the operand of a copy across aside, and is on cluster 0
-- where it can stand there alone
pub record IsAtHome (home : ℕ → Option ℕ) (op : TraceOp) (cluster : ℕ) : Type 0 where
  pub reads : (v : ℕ) → is_across op ≡ false → IsIn v (general_reads op) → home v ≡ Some cluster
  pub writes : (v : ℕ) → IsIn v (general_writes op) → home v ≡ Some cluster
  pub bound : is_bound op ≡ true → cluster ≡ 0

-- what has a home and is no value of the function's graph, which has so many, is the copy of one to this cluster
abbrev pub CopiesAtHome : (values : ℕ) → (ℕ → Option ℕ) → Type 0
CopiesAtHome values home = (u k : ℕ) → home u ≡ Some k → values ≤ u → (v : ℕ) × (v < values) × (u ≡ copy_of values v k)

-- what stands in a clustered trace: the copy of a value for an operation that reads it and had no cluster, where the value's home
-- is another one; an operation of the trace that had its cluster; or one that had none, with the copies that it reads
pub data StandsFor (t : Trace) (home : ℕ → Option ℕ) (op : TraceOp) (cluster : ℕ) : Type 0 where
  copies : (i v k : ℕ) (reader : TraceOp) → Stands t i reader → IsFree t i → is_across reader ≡ false → IsIn v (general_reads reader) → home v ≡ Some k → k ≢ cluster →
      op ≡ Plain (Across (copy_of t.values v cluster) v) → StandsFor t home op cluster
  stays : (i : ℕ) → Stands t i op → IsFixed t i cluster → StandsFor t home op cluster
  renames : (i : ℕ) (origin : TraceOp) → Stands t i origin → IsFree t i → op ≡ renamed_op (here t.values home cluster) origin → StandsFor t home op cluster

module _ (m : Numbers) (t : Trace) (homes : Homes) (r : Clusters) where
  pub record StandsWell (op : TraceOp) (cluster : ℕ) : Type 0 where
    pub at_home : IsAtHome (home_of r.homes) op cluster
    pub there : cluster < m.clusters
    pub for : StandsFor t (last_books m t homes r).homes op cluster

  -- the homes so far stay; those that are new are clusters of the machine; and each operation has room by itself
  pub record AllStand : Type 0 where
    pub each : (i : ℕ) (op : TraceOp) → slice_get r.clustered.trace.ops i ≡ Some op → StandsWell op (slice_index_or r.clustered.clusters i 0)
    pub homes_stay : (v k : ℕ) → home_of homes v ≡ Some k → home_of r.homes v ≡ Some k
    pub copies : CopiesAtHome t.values (home_of r.homes)
    pub homes_there : HomesAreThere m r
    pub room : RoomForEach m r

-- the operand of a copy across is a value of the function's graph
abbrev pub AcrossOfValues : Trace → Type 0
AcrossOfValues t = (i v u : ℕ) → Stands t i (Plain (Across v u)) → u < t.values

-- What is assigned stands well.
abbrev pub AssignedStands : Type 0
AssignedStands =
    (m : Numbers) (t : Trace) (homes : Homes) (r : Clusters) → IsMachine m → BoundAtHome t homes → FixedAtHome t homes → FixedReadsHere t homes → ClustersAreThere m t homes → ValuesAreThere t → AcrossOfValues t → IsWellFormed t →
    CopiesAtHome t.values (home_of homes) → Assigned m t homes r → AllStand m t homes r
