-- The best of some clusters that follow each other; turns taken one after the other.
use Rattle.std.specs.Prelude.{◌≡◌, ◌<◌, ◌≤◌, ◌+◌, ℕ, nat_lt, if◌then◌else◌, Some, None, List, [], ◌∷◌, length, take, slice_get, slice_index_or}
use Rattle.vx_flow.specs.declared.trace.TraceOp.{TraceOp}
use Rattle.vx_flow.specs.declared.trace.Trace.{Trace}
use Rattle.vx_flow.specs.Effects.{IsIn}
use Rattle.vx_isa.specs.Numbers.{Numbers}
use Rattle.vx_dep.specs.Delays.{Stands}
use Rattle.vx_bug.specs.declared.cluster_choice.Choice.{Choice}
use Rattle.vx_bug.specs.Clusters.{Books, estimate_of, after_turn, books_after, IsBest}

-- among the clusters from the first one on it has the least number, and is the lowest of several
pub record IsLeast (number : ℕ → ℕ) (first count cluster : ℕ) : Type 0 where
  pub above : first ≤ cluster
  pub below : cluster < first + count
  pub least : (other : ℕ) → first ≤ other → other < first + count → number cluster ≤ number other
  pub lowest : (other : ℕ) → first ≤ other → other < first + count → number other ≡ number cluster → cluster ≤ other

-- the better of a choice and a cluster with its cycle, the choice where they are equal
abbrev pub compared : (cycle cluster : ℕ) → Choice → Choice
compared cycle cluster best = if nat_lt cycle best.cycle then record { cluster = cluster; cycle = cycle } else best

-- no place is listed twice
abbrev pub Apart : List ℕ → Type 0
Apart [] = Unit {0}
Apart (i ∷ is) = (IsIn i is → ⊥) × Apart is

-- the turn of the operation at a place
pub record TurnTaken (m : Numbers) (t : Trace) (before : Books) (i cluster estimate : ℕ) (behind : Books) : Type 0 where
  pub best : (op : TraceOp) → Stands t i op → IsBest m t before i (slice_index_or t.fixed i None) op cluster
  pub expected : (op : TraceOp) → Stands t i op → estimate ≡ estimate_of m t before i op cluster
  pub books : behind ≡ after_turn m t before i (slice_get t.ops i) cluster

-- the turns of places one after the other
pub record TurnsTaken (m : Numbers) (t : Trace) (before : Books) (order chosen estimates : List ℕ) (behind : Books) : Type 0 where
  pub each_chosen : length chosen ≡ length t.ops
  pub each_estimate : length estimates ≡ length t.ops
  pub best : (k i : ℕ) (op : TraceOp) → slice_get order k ≡ Some i → Stands t i op
      → IsBest m t (books_after m t chosen before (take k order)) i (slice_index_or t.fixed i None) op (slice_index_or chosen i 0)
  pub expected : (k i : ℕ) (op : TraceOp) → slice_get order k ≡ Some i → Stands t i op
      → slice_index_or estimates i 0 ≡ estimate_of m t (books_after m t chosen before (take k order)) i op (slice_index_or chosen i 0)
  pub books : behind ≡ books_after m t chosen before order
