-- The copies law as a replacement needs it, from the start of a trace and from each of its joins.
use Rattle.std.specs.Prelude.{◌≡◌, ◌⊎◌, ◌<◌, ◌≤◌, ℕ, Option, List, [], ◌∷◌, length, map, take, drop, slice_get}
use Rattle.vx_flow.specs.declared.graph.Edge.{Edge}
use Rattle.vx_flow.specs.declared.graph.Exit.{Exit}
use Rattle.vx_flow.specs.declared.trace.TraceOp.{TraceOp}
use Rattle.vx_flow.specs.declared.trace.Join.{Join}
use Rattle.vx_flow.specs.declared.trace.Trace.{Trace}
use Rattle.vx_flow.specs.declared.trace.Clustered.{Clustered as ClusteredTrace}
use Rattle.vx_flow.specs.declared.trace.Homes.{Homes}
use Rattle.vx_flow.specs.Effects.{Setting, IsIn, writes}
use Rattle.vx_isa.specs.Numbers.{Numbers}
use Rattle.vx_linear.specs.InOrder.{IsEntrance}
use Rattle.vx_dep.specs.Delays.{Stands, writes_of}
use Rattle.vx_bug.specs.CanAssign.{IsFree, ValuesAreThere, IsWellFormed}
use Rattle.vx_mixed.specs.declared.mixed.MixedGraph.{MixedGraph}
use Rattle.vx_flow.specs.declared.graph.Op.{Op}
use Rattle.vx_flow.specs.declared.trace.TraceOp.TheVariants.{Plain}
use Rattle.vx_mixed.specs.Next.{last_of, exit_in}
use Rattle.vx_mixed.specs.Settled.{Tidy}
use Rattle.vx_mixed.specs.TraceOf.{CanTrace, IsTraceOf}
use Rattle.vx_mixed.specs.Valid.{IsOp, Valid}
use Rattle.vx_mixed.specs.Live.{Live}
use Rattle.vx_mixed.specs.Alive.{AtEnd}
use Rattle.vx_mixed.specs.Way.{Clustered}
use Rattle.vx_mixed.specs.TraceItems.{plain_items, items_of, splits_of}
use Rattle.vx_bug.specs.declared.clusters.Clusters.{Clusters}
use Rattle.vx_bug.specs.Assigned.{Assigned}
use Rattle.vx_bug.specs.Clusters.{general_reads}
use Rattle.vx_bug.specs.Copies.{pieces_of, joined, with_copies}
use Rattle.vx_region.specs.Beside.{Wanted, IsCopyOf, copied_from, CopiesFit}

-- what is live on an edge in a graph of blocks and regions
abbrev pub live_in : MixedGraph → Edge → List ℕ → ℕ → Type 0
live_in old edge live v = Live old edge.to v

abbrev pub ClusteredLaw : Type 0
ClusteredLaw = (t : Trace) (homes : ℕ → Option ℕ) (chosen : List ℕ) (setting : Setting) (q : ℕ) (old : MixedGraph) (end : ℕ) (exit : Exit) →
    CopiesFit t.values t.ops chosen t.fixed (copied_from t homes 0 [] t.ops chosen t.fixed) (live_in old) (AtEnd old exit) → IsEntrance t q →
    Clustered setting old (plain_items (drop q t.ops)) (drop (length (joined (take q (pieces_of t homes chosen)))) (items_of (with_copies t homes chosen).trace.ops (with_copies t homes chosen).clusters)) end exit

-- Premises that speak of places alone, and neither of homes nor of the copies that serve: an operation that writes the number of
-- a copy copies that value, and where an operation that reads a general value has no cluster
-- yet no copy of a value is wanted.
pub record TracesTidily (t : Trace) (lives : Edge → List ℕ → ℕ → Type 0) (end : ℕ → Type 0) : Type 0 where
  pub well_formed : IsWellFormed t
  pub values_there : ValuesAreThere t
  pub writes : (i : ℕ) (op : TraceOp) (u : ℕ) → Stands t i op → IsIn u (writes_of op) → (u < t.values) ⊎ IsCopyOf t.values op u
  pub none_wanted : (i : ℕ) (op : TraceOp) (v u : ℕ) → Stands t i op → IsFree t i → IsIn v (general_reads op) → t.values ≤ u → Wanted lives end (drop i t.ops) u → ⊥

abbrev pub FitsLaw : Type 0
FitsLaw = (t : Trace) (homes : ℕ → Option ℕ) (chosen : List ℕ) (old : MixedGraph) (exit : Exit) → TracesTidily t (live_in old) (AtEnd old exit) → length chosen ≡ length t.ops →
    CopiesFit t.values t.ops chosen t.fixed (copied_from t homes 0 [] t.ops chosen t.fixed) (live_in old) (AtEnd old exit)

-- A join of the clustered trace, beside the join of the plain one from which it is moved
pub record JoinsAlike (setting : Setting) (old : MixedGraph) (end : ℕ) (exit : Exit) (t : Trace) (c : ClusteredTrace) (j : Join) : Type 0 where
  pub from : Join
  pub is_there : IsIn from t.joins
  pub block : j.block ≡ from.block
  pub clustered : Clustered setting old (plain_items (drop from.place t.ops)) (drop j.place (items_of c.trace.ops c.clusters)) end exit

-- what a replacement asks of the clustered trace against the plain one
pub record ClusteredFits (old : MixedGraph) (end : ℕ) (exit : Exit) (t : Trace) (c : ClusteredTrace) : Type 0 where
  pub splits : splits_of c.trace.ops ≡ splits_of t.ops
  pub join_blocks : map (λ (j : Join). j.block) c.trace.joins ≡ map (λ (j : Join). j.block) t.joins
  pub join_edges : map (λ (j : Join). j.edges) c.trace.joins ≡ map (λ (j : Join). j.edges) t.joins
  pub join_places : (j : Join) → IsIn j c.trace.joins → j.place ≤ length c.trace.ops
  pub clusters_fit : length c.clusters ≡ length c.trace.ops
  pub clustered : (setting : Setting) → Clustered setting old (plain_items t.ops) (items_of c.trace.ops c.clusters) end exit
  pub clustered_below : (setting : Setting) (j : Join) → IsIn j c.trace.joins → JoinsAlike setting old end exit t c j
  -- and again the number of a copy is written by a copying of its value alone
  pub writes : (op : TraceOp) (u : ℕ) → IsIn op c.trace.ops → IsIn u (writes_of op) → (u < t.values) ⊎ IsCopyOf t.values op u

abbrev pub ClusteredFitsLaw : Type 0
ClusteredFitsLaw = (t : Trace) (homes : ℕ → Option ℕ) (chosen : List ℕ) (old : MixedGraph) (end : ℕ) (exit : Exit) →
    TracesTidily t (live_in old) (AtEnd old exit) → length chosen ≡ length t.ops → ClusteredFits old end exit t (with_copies t homes chosen)

-- and so what `assign` gives
abbrev pub AssignedFitsLaw : Type 0
AssignedFitsLaw = (machine : Numbers) (t : Trace) (homes : Homes) (r : Clusters) (old : MixedGraph) (end : ℕ) (exit : Exit) →
    TracesTidily t (live_in old) (AtEnd old exit) → Assigned machine t homes r → ClusteredFits old end exit t r.clustered

-- what a graph keeps besides being valid and tidy: the number of a copy is written by a copying of its value alone
abbrev pub CopiesAreCopies : MixedGraph → Type 0
CopiesAreCopies m = (op : Op) (u : ℕ) → IsOp m op → IsIn u (writes op) → (u < length m.banks) ⊎ IsCopyOf (length m.banks) (Plain op) u

-- The trace of blocks of such a graph, with the copies that `assign` gives it, is what a replacement asks for.
abbrev pub AssignedTraceFits : Type 0
AssignedTraceFits = (machine : Numbers) (m : MixedGraph) (b : ℕ) (bs : List ℕ) (t : Trace) (homes : Homes) (r : Clusters) →
    Valid m → Tidy m → CopiesAreCopies m → CanTrace m (b ∷ bs) → IsTraceOf m (b ∷ bs) t → IsWellFormed t → ValuesAreThere t → Assigned machine t homes r →
    ClusteredFits m (last_of (b ∷ bs)) (exit_in (slice_get m.nodes (last_of (b ∷ bs)))) t r.clustered
