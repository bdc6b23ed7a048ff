-- What stands when an operation's turn comes, as the code holds it: a table of homes, and the bookings, the latest last.
use Rattle.std.specs.Prelude.{◌==◌, ◌&&◌, ℕ, Bool, nat_lt, if◌then◌else◌, Option, Some, None, List, reverse, count_by, slice_index_or}
use Rattle.vx_isa.specs.declared.operation.UnitKind.{UnitKind}
use Rattle.vx_isa.specs.Numbers.{Numbers}
use Rattle.vx_isa.specs.Operations.{same_unit}
use Rattle.vx_machine.specs.Resources.{units_of}
use Rattle.vx_bug.specs.declared.bookings.Booking.{Booking}
use Rattle.vx_bug.specs.declared.bookings.Resource.{Resource}
use Rattle.vx_bug.specs.declared.bookings.Resource.TheVariants.{IssueSlot, UnitOf}
use Rattle.vx_bug.specs.declared.ledger.Ledger.{Ledger}
use Rattle.vx_bug.specs.Clusters.{Books, counts_at}

abbrev pub homes_in : List (Option ℕ) → ℕ → Option ℕ
homes_in homes v = slice_index_or homes v None

-- a value has this home, the others those that they had
abbrev pub placed : (cluster : ℕ) → (ℕ → Option ℕ) → (value : ℕ) → (ℕ → Option ℕ)
placed cluster homes v u = if u == v then Some cluster else homes u

abbrev pub books_of : Ledger → Books
books_of l = record { homes = homes_in l.homes.items; bookings = reverse l.booked.bookings.items }

-- a booking takes what is asked for on a cluster
abbrev pub takes : (cluster : ℕ) → Resource → Booking → Bool
takes cluster IssueSlot b = b.cluster == cluster
takes cluster (UnitOf unit) b = same_unit b.unit unit && counts_at unit cluster b.cluster

-- the bookings of a cycle leave a slot of the cluster and a unit of the kind
abbrev pub is_left : Numbers → (cluster : ℕ) → UnitKind → List Booking → Bool
is_left m cluster unit row = nat_lt (count_by (takes cluster IssueSlot) row) m.issue && nat_lt (count_by (takes cluster (UnitOf unit)) row) (units_of m unit)
