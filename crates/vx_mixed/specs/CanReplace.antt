-- What is asked of the arguments of a replacement.
use Rattle.std.specs.Prelude.{◌≡◌, ◌≢◌, ◌<◌, ◌≤◌, ◌⊎◌, ◌+◌, ◌*◌, ℕ, true, Option, Some, List, length, map, slice_get}
use Rattle.vx_flow.specs.declared.graph.Op.{Op}
use Rattle.vx_flow.specs.declared.graph.Op.TheVariants.{Across}
use Rattle.vx_flow.specs.declared.trace.TraceOp.TheVariants.{Plain}
use Rattle.vx_flow.specs.declared.trace.Join.{Join}
use Rattle.vx_flow.specs.declared.trace.Trace.{Trace}
use Rattle.vx_flow.specs.Effects.{IsIn, writes}
use Rattle.vx_flow.specs.Operands.{binds, is_observable}
use Rattle.vx_flow.specs.Sound.{arrays_of}
use Rattle.vx_mixed.specs.declared.region.Made.{Made}
use Rattle.vx_mixed.specs.declared.mixed.MixedGraph.{MixedGraph}
use Rattle.vx_mixed.specs.TraceItems.{splits_of}
use Rattle.vx_mixed.specs.Next.{Replacement, is_split_edge, next_mixed}
use Rattle.vx_mixed.specs.Settled.{HomesStay, StandsOn, has_home, home_of, read_there}
use Rattle.vx_mixed.specs.TraceOf.{CanTrace, IsTraceOf}
use Rattle.vx_mixed.specs.Valid.{Valid, names_of}

-- its blocks can be traced, and it is their trace, but for copies of values between clusters
pub record TraceFits (m : MixedGraph) (r : Replacement) : Type 0 where
  pub can : CanTrace m r.trace.blocks
  pub plain : Trace
  pub is_trace : IsTraceOf m r.trace.blocks plain
  pub function : r.trace.function ≡ plain.function
  pub values : r.trace.values ≡ plain.values
  pub arrays : r.trace.arrays ≡ plain.arrays
  pub splits : splits_of r.trace.ops ≡ splits_of plain.ops
  pub join_blocks : map (λ (j : Join). j.block) r.trace.joins ≡ map (λ (j : Join). j.block) plain.joins
  pub join_edges : map (λ (j : Join). j.edges) r.trace.joins ≡ map (λ (j : Join). j.edges) plain.joins

-- the trace is well formed
pub record IsFormed (trace : Trace) : Type 0 where
  pub fixed : length trace.fixed ≡ length trace.ops
  pub ascend : (i : ℕ) (j k : Join) → slice_get trace.joins i ≡ Some j → slice_get trace.joins (i + 1) ≡ Some k → j.place ≤ k.place
  pub places : (j : Join) → IsIn j trace.joins → j.place ≤ length trace.ops
  pub arrays : (op : Op) (a : ℕ) → IsIn (Plain op) trace.ops → IsIn a (arrays_of op) → a < length trace.arrays

-- values and their copies alone are named, and arrays of the graph
pub record NamesFit (m : MixedGraph) (r : Replacement) : Type 0 where
  pub traced : (op : Op) (v : ℕ) → IsIn (Plain op) r.trace.ops → IsIn v (names_of op) → v < 5 * length m.banks
  pub made : (x : Made) (op : Op) (v : ℕ) → IsIn x r.made → IsIn op x.ops → IsIn v (names_of op) → v < 5 * length m.banks
  pub arrays : (x : Made) (op : Op) (a : ℕ) → IsIn x r.made → IsIn op x.ops → IsIn a (arrays_of op) → a < length m.arrays

-- a cluster and a word for each operation, empty cycles for each split, a rejoin for each join
pub record ListsFit (r : Replacement) : Type 0 where
  pub clusters : length r.clusters ≡ length r.trace.ops
  pub words : length r.words ≡ length r.trace.ops
  pub drains : length r.drains ≡ length (splits_of r.trace.ops)
  pub rejoins : length r.rejoins ≡ length r.trace.joins
  pub made : (x : Made) → IsIn x r.made → length x.clusters ≡ length x.ops

-- words are inside the region, rejoins are or stand behind it
pub record WordsFit (r : Replacement) : Type 0 where
  pub words : (w : ℕ) → IsIn w r.words → w < r.length
  pub rejoins : (w : ℕ) → IsIn w r.rejoins → w ≤ r.length

-- blocks are made on edges out of splits and on edges into joins, on each edge one
pub record MadeFits (r : Replacement) : Type 0 where
  pub made_where : (x : Made) → IsIn x r.made → (is_split_edge r.trace.ops x.edge ≡ true) ⊎ ((j : Join) × IsIn j r.trace.joins × IsIn x.edge j.edges)
  pub made_once : (i k : ℕ) (x y : Made) → slice_get r.made i ≡ Some x → slice_get r.made k ≡ Some y → x.edge ≡ y.edge → i ≡ k

-- what can be observed is done on cluster 0
abbrev pub OnFirst : Op → ℕ → Type 0
OnFirst op cluster = is_observable op ≡ true → cluster ≡ 0

-- the operation may be done on the cluster, with the homes of the graph
pub record Stands (m : MixedGraph) (op : Op) (cluster : ℕ) : Type 0 where
  pub reads : (v : ℕ) → IsIn v (read_there op) → StandsOn m v cluster
  pub writes : (v : ℕ) → IsIn v (writes op) → StandsOn m v cluster
  pub bound : (v : ℕ) → binds op ≡ Some v → has_home m.homes.clusters v ≡ Some 0
  pub first : OnFirst op cluster

-- each operation of a made block stands on its cluster
abbrev pub MadeStands : MixedGraph → Replacement → Type 0
MadeStands m r =
    (x : Made) (i cluster : ℕ) (op : Op) → IsIn x r.made → slice_get x.ops i ≡ Some op → slice_get x.clusters i ≡ Some cluster → Stands (record m { homes = r.homes }) op cluster

-- every home so far is kept
abbrev pub HomesFit : MixedGraph → Replacement → Type 0
HomesFit m r = HomesStay m.homes.clusters r.homes.clusters

-- an operation of the trace or of a made block
pub data IsNamed (r : Replacement) (op : Op) : Type 0 where
  in_trace : IsIn (Plain op) r.trace.ops → IsNamed r op
  in_made : (x : Made) → IsIn x r.made → IsIn op x.ops → IsNamed r op

-- a value of the graph is copied to a copy, on another cluster than its home
pub record AwayFrom (m : MixedGraph) (homes : List (Option ℕ)) (v u : ℕ) : Type 0 where
  pub is_copy : length m.banks ≤ v
  pub value : u < length m.banks
  pub home : ℕ
  pub has : has_home homes u ≡ Some home
  pub other : home_of m v ≢ Some home

abbrev pub AwayFits : MixedGraph → Replacement → Type 0
AwayFits m r = (v u : ℕ) → IsNamed r (Across v u) → AwayFrom m r.homes.clusters v u

pub record CanReplace (m : MixedGraph) (r : Replacement) : Type 0 where
  pub trace : TraceFits m r
  pub formed : IsFormed r.trace
  pub names : NamesFit m r
  pub lists : ListsFit r
  pub words : WordsFit r
  pub made : MadeFits r
  pub stand : MadeStands m r
  pub homes : HomesFit m r
  pub away : AwayFits m r

-- A graph after such a replacement is valid.
abbrev pub StaysValid : Type 0
StaysValid = (m : MixedGraph) (r : Replacement) → Valid m → CanReplace m r → Valid (next_mixed m r)
