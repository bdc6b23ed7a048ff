-- What the assignment of clusters gives: each operation in the listed order has the best of the clusters that it may take; the
-- homes are those after the last turn, and a copy has its cluster as home.
use Rattle.std.specs.Prelude.{◌≡◌, ◌<◌, ℕ, Some, None, length, take, slice_get, slice_index_or}
use Rattle.vx_flow.specs.declared.trace.TraceOp.{TraceOp}
use Rattle.vx_flow.specs.declared.trace.Trace.{Trace}
use Rattle.vx_flow.specs.declared.trace.Homes.{Homes}
use Rattle.vx_flow.specs.Effects.{IsIn}
use Rattle.vx_isa.specs.Numbers.{Numbers}
use Rattle.vx_room.specs.Room.{home_of}
use Rattle.vx_dep.specs.Delays.{Stands}
use Rattle.vx_bug.specs.Clusters.{Books, listed, at_first, books_after, estimate_of, IsBest}
use Rattle.vx_bug.specs.Copies.{copy_of, pieces_of, joined, across, with_copies}
use Rattle.vx_bug.specs.declared.clusters.Clusters.{Clusters}

module _ (m : Numbers) (t : Trace) (homes : Homes) (r : Clusters) where
  -- what stands before the turn at place k of the order, and after the last one
  abbrev pub books_at : ℕ → Books
  books_at k = books_after m t r.chosen (at_first homes) (take k r.order)

  abbrev pub last_books : Books
  last_books = books_after m t r.chosen (at_first homes) r.order

  -- a copy of v to a cluster is made in the trace
  pub record IsMade (v cluster : ℕ) : Type 0 where
    pub is : IsIn (across t.values cluster v) (joined (pieces_of t last_books.homes r.chosen))

pub record Assigned (m : Numbers) (t : Trace) (homes : Homes) (r : Clusters) : Type 0 where
  pub order : r.order ≡ listed t
  pub each_estimate : length r.estimates ≡ length t.ops
  pub each_chosen : length r.chosen ≡ length t.ops
  pub best : (k i : ℕ) (op : TraceOp) → slice_get r.order k ≡ Some i → Stands t i op
      → IsBest m t (books_at m t homes r k) i (slice_index_or t.fixed i None) op (slice_index_or r.chosen i 0)
  pub estimates : (k i : ℕ) (op : TraceOp) → slice_get r.order k ≡ Some i → Stands t i op
      → slice_index_or r.estimates i 0 ≡ estimate_of m t (books_at m t homes r k) i op (slice_index_or r.chosen i 0)
  pub clustered : r.clustered ≡ with_copies t (last_books m t homes r).homes r.chosen
  -- a value keeps the home that it has after the last turn; a copy that is made has its cluster as home
  pub homes_of_values : (v : ℕ) → v < t.values → home_of r.homes v ≡ (last_books m t homes r).homes v
  pub homes_of_copies : (v cluster : ℕ) → IsMade m t homes r v cluster → home_of r.homes (copy_of t.values v cluster) ≡ Some cluster
  pub homes_of_others : (u : ℕ) → ((v cluster : ℕ) → IsMade m t homes r v cluster → u ≡ copy_of t.values v cluster → ⊥) → home_of r.homes u ≡ (last_books m t homes r).homes u
