-- Bookings by cycles, and estimates by places.
use Rattle.std.specs.Prelude.{◌≡◌, ◌==◌, ◌&&◌, ℕ, Bool, List, [], count_by, slice_index_or}
use Rattle.vx_bug.specs.declared.bookings.Booking.{Booking}
use Rattle.vx_bug.specs.Clusters.{estimate_in}

-- the bookings of a cycle, where there is one row for each
abbrev pub row_at : List (List Booking) → ℕ → List Booking
row_at rows cycle = slice_index_or rows cycle []

-- of whatever kind, a row has as many as stand in its cycle
abbrev pub AreRows : List (List Booking) → List Booking → Type 0
AreRows rows bookings = (p : Booking → Bool) (cycle : ℕ) → count_by p (row_at rows cycle) ≡ count_by (λ (b : Booking). (b.cycle == cycle) && p b) bookings

-- the estimate at a place of a list by places, where none stands 0
abbrev pub estimate_at : List ℕ → ℕ → ℕ
estimate_at estimates place = slice_index_or estimates place 0

abbrev pub AreEstimates : List ℕ → List Booking → Type 0
AreEstimates estimates bookings = (place : ℕ) → estimate_at estimates place ≡ estimate_in bookings place
