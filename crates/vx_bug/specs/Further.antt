-- What the layers above need of the assignment besides.
use Rattle.std.specs.Prelude.{◌≡◌, ◌<◌, ℕ, true, Some, ◌∷◌, [], slice_get, slice_index_or, is_some}
use Rattle.vx_flow.specs.declared.graph.Op.TheVariants.{Across}
use Rattle.vx_flow.specs.declared.trace.TraceOp.{TraceOp}
use Rattle.vx_flow.specs.declared.trace.TraceOp.TheVariants.{Plain}
use Rattle.vx_flow.specs.declared.trace.Trace.{Trace}
use Rattle.vx_flow.specs.declared.trace.Homes.{Homes}
use Rattle.vx_isa.specs.Numbers.{Numbers}
use Rattle.vx_room.specs.Items.{item_of}
use Rattle.vx_room.specs.Room.{home_of, has_room}
use Rattle.vx_bug.specs.declared.clusters.Clusters.{Clusters}
use Rattle.vx_bug.specs.Copies.{copy_of}
use Rattle.vx_bug.specs.Laying.{with_homes_of_copies}
use Rattle.vx_bug.specs.Assigned.{last_books, IsMade}

-- the homes are those after the last turn, with those of the copies that the clustered trace makes
pub record IsHoused (m : Numbers) (t : Trace) (homes : Homes) (r : Clusters) : Type 0 where
  pub housed : home_of r.homes ≡ with_homes_of_copies t.values (last_books m t homes r).homes r.clustered.trace.ops r.clustered.clusters r.clustered.trace.fixed

-- the machine has the clusters that are chosen
abbrev pub ChosenAreThere : Numbers → Clusters → Type 0
ChosenAreThere m r = (i : ℕ) → slice_index_or r.chosen i 0 < m.clusters

-- and those of the homes
abbrev pub HomesAreThere : Numbers → Clusters → Type 0
HomesAreThere m r = (v cluster : ℕ) → home_of r.homes v ≡ Some cluster → cluster < m.clusters

-- what has a home keeps it, where it is no copy that is made
pub record HomesStay (m : Numbers) (t : Trace) (homes : Homes) (r : Clusters) : Type 0 where
  pub of_values : (v cluster : ℕ) → v < t.values → home_of homes v ≡ Some cluster → home_of r.homes v ≡ Some cluster
  pub of_others : (v cluster : ℕ) → ((w k : ℕ) → IsMade m t homes r w k → v ≡ copy_of t.values w k → ⊥) → home_of homes v ≡ Some cluster → home_of r.homes v ≡ Some cluster

-- the operand of each copy across has a home
abbrev pub AcrossHasHome : Clusters → Type 0
AcrossHasHome r = (i v u : ℕ) → slice_get r.clustered.trace.ops i ≡ Some (Plain (Across v u)) → is_some (home_of r.homes u) ≡ true

-- each operation has room by itself
abbrev pub RoomForEach : Numbers → Clusters → Type 0
RoomForEach m r = (i : ℕ) (op : TraceOp) → slice_get r.clustered.trace.ops i ≡ Some op → has_room m r.homes (record { cluster = slice_index_or r.clustered.clusters i 0; item = item_of op } ∷ []) ≡ true
