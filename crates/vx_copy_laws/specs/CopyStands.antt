-- Where copies of values to other clusters stand: in front of the first operation that reads a value away there, and again in
-- front of the first one below a join or a writer of the value (Ellis, 1985; docs/COMPILING.md, Clusters).
use Rattle.std.specs.Prelude.{◌≡◌, ◌<◌, ◌≤◌, ◌+◌, ℕ, false, if◌then◌else◌, Option, Some, None, List, length, map, slice_get, slice_index_or}
use Rattle.vx_flow.specs.declared.trace.TraceOp.{TraceOp}
use Rattle.vx_flow.specs.declared.trace.Join.{Join}
use Rattle.vx_flow.specs.declared.trace.Trace.{Trace}
use Rattle.vx_flow.specs.declared.trace.Clustered.{Clustered}
use Rattle.vx_flow.specs.Effects.{IsIn}
use Rattle.vx_dep.specs.Delays.{Stands, writes_of, JoinBetween}
use Rattle.vx_bug.specs.Clusters.{general_reads, is_across}
use Rattle.vx_bug.specs.Copies.{reads_copies, renamed_op, here, Standing, across}
use Rattle.vx_bug.specs.CanAssign.{IsFree}

-- operation i takes cluster k, and a general value v that it reads has its home on another. One that was copied as compensation
-- names its copies already, and one across reads where its operand stands
pub record ReadsAway (t : Trace) (homes : ℕ → Option ℕ) (chosen : List ℕ) (i v k : ℕ) : Type 0 where
  pub op : TraceOp
  pub stands : Stands t i op
  pub takes : slice_get chosen i ≡ Some k
  pub no_compensation : IsFree t i
  pub no_copy : is_across op ≡ false
  pub reads : IsIn v (general_reads op)
  pub home : ℕ
  pub lives : homes v ≡ Some home
  pub elsewhere : home ≡ k → ⊥

-- an operation from the first of the two places on, above the second, writes the value
pub record WriterBetween (t : Trace) (v j i : ℕ) : Type 0 where
  pub place : ℕ
  pub op : TraceOp
  pub stands : Stands t place op
  pub from : j ≤ place
  pub above : place < i
  pub writes : IsIn v (writes_of op)

-- an operation above i reads v away on k, and from there to i there is no join, and no writer of v, which it may be itself: its copy
-- serves i
pub record IsServed (t : Trace) (homes : ℕ → Option ℕ) (chosen : List ℕ) (i v k : ℕ) : Type 0 where
  pub reader : ℕ
  pub above : reader < i
  pub reads : ReadsAway t homes chosen reader v k
  pub no_join : JoinBetween t reader i → ⊥
  pub no_writer : WriterBetween t v reader i → ⊥

-- a copy of v to k is needed in front of operation i
pub record CopyStands (t : Trace) (homes : ℕ → Option ℕ) (chosen : List ℕ) (i v k : ℕ) : Type 0 where
  pub reads : ReadsAway t homes chosen i v k
  pub first : IsServed t homes chosen i v k → ⊥

-- v is in front of w among the operands
pub record ReadBefore (v w : ℕ) (values : List ℕ) : Type 0 where
  pub one : ℕ
  pub two : ℕ
  pub in_order : one < two
  pub is_one : slice_get values one ≡ Some v
  pub is_two : slice_get values two ≡ Some w

-- the clustered trace

-- this stands at a place of it
pub record StandsAt (c : Clustered) (p : ℕ) (s : Standing) : Type 0 where
  pub op : slice_get c.trace.ops p ≡ Some s.op
  pub cluster : slice_get c.clusters p ≡ Some s.cluster
  pub fixed : slice_get c.trace.fixed p ≡ Some s.fixed

-- a copy of v to k stands at one of the places from the first of two on, above the second
pub record HasCopy (values : ℕ) (c : Clustered) (from to v k : ℕ) : Type 0 where
  pub place : ℕ
  pub behind : from ≤ place
  pub above : place < to
  pub is : StandsAt c place (across values k v)

-- an operation on a cluster: in place of each value that stands elsewhere it reads the copy
abbrev pub with_copies_read : (values : ℕ) → (homes : ℕ → Option ℕ) → (cluster : ℕ) → (fixed : Option ℕ) → TraceOp → TraceOp
with_copies_read values homes cluster fixed op = if reads_copies fixed op then renamed_op (here values homes cluster) op else op

-- the clustered trace is the trace, each operation on its cluster and behind exactly the copies that are needed in front of it, each once
pub record CopiesStand (t : Trace) (homes : ℕ → Option ℕ) (chosen : List ℕ) (c : Clustered) : Type 0 where
  -- where the operations stand in it, and the places from which on their copies stand: directly behind the operation above
  pub place : ℕ → ℕ
  pub front : ℕ → ℕ
  pub begins : front 0 ≡ 0
  pub ascends : (i : ℕ) → front i ≤ place i
  pub follows : (i : ℕ) → i < length t.ops → front (i + 1) ≡ place i + 1
  pub ends : length c.trace.ops ≡ front (length t.ops)
  pub clusters_end : length c.clusters ≡ front (length t.ops)
  pub fixed_end : length c.trace.fixed ≡ front (length t.ops)
  pub operation : (i k : ℕ) (op : TraceOp) → Stands t i op → slice_get chosen i ≡ Some k
      → StandsAt c (place i) (record { op = with_copies_read t.values homes k (slice_index_or t.fixed i None) op; cluster = k; fixed = slice_index_or t.fixed i None })
  -- a copy stands in front of an operation exactly where it is needed there
  pub needed : (i v k : ℕ) → CopyStands t homes chosen i v k → HasCopy t.values c (front i) (place i) v k
  pub no_other : (i v k : ℕ) → HasCopy t.values c (front i) (place i) v k → CopyStands t homes chosen i v k
  -- nothing but copies stands there, each once, in the order of the operands
  pub copies_alone : (i p : ℕ) → front i ≤ p → p < place i → (v : ℕ) × (k : ℕ) × StandsAt c p (across t.values k v)
  pub once : (i p q v k : ℕ) → front i ≤ p → p < place i → front i ≤ q → q < place i → StandsAt c p (across t.values k v) → StandsAt c q (across t.values k v) → p ≡ q
  pub in_order : (i p q v w k : ℕ) (op : TraceOp) → Stands t i op → front i ≤ p → p < q → q < place i
      → StandsAt c p (across t.values k v) → StandsAt c q (across t.values k w) → ReadBefore v w (general_reads op)
  -- a join stands above the copies of the operation that it stands above; all else is as it was
  pub joins : c.trace.joins ≡ map (λ (join : Join). record join { place = front join.place }) t.joins
  pub unchanged : c.trace ≡ record t { ops = c.trace.ops; fixed = c.trace.fixed; joins = c.trace.joins }
