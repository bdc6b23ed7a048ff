-- The cluster of each operation of a trace, chosen from the bottom up by estimates (Ellis, 1985): the order in which the
-- operations are listed, the clusters that each may take, and the estimate of each.
use Rattle.std.specs.Prelude.{◌≡◌, ◌≤◌, ◌+◌, ◌&&◌, ◌||◌, ◌==◌, not, ℕ, zero, suc, Bool, true, false, if◌then◌else◌, nat_lt, nat_eq, Option, Some, None, is_some, List, [], ◌∷◌, ◌++◌, length, map, reverse, slice_get, slice_index_or, count_by}
use Rattle.std.specs.List.{list_any, flat_map}
use Rattle.vx_base.specs.declared.arithmetic.Code.TheVariants.{ToBranch}
use Rattle.vx_flow.specs.declared.graph.Op.TheVariants.{Compute, Select, Across}
use Rattle.vx_flow.specs.declared.trace.TraceOp.{TraceOp}
use Rattle.vx_flow.specs.declared.trace.TraceOp.TheVariants.{Plain, Split}
use Rattle.vx_flow.specs.declared.trace.Trace.{Trace}
use Rattle.vx_flow.specs.declared.trace.Homes.{Homes}
use Rattle.vx_flow.specs.Effects.{IsIn, value_in}
use Rattle.vx_flow.specs.Operands.{value_list}
use Rattle.vx_flow.specs.Walk.{numbers}
use Rattle.vx_isa.specs.declared.operation.UnitKind.{UnitKind}
use Rattle.vx_isa.specs.declared.operation.UnitKind.TheVariants.{Alu, Multiply, Memory, Copies, Control}
use Rattle.vx_isa.specs.Numbers.{Numbers}
use Rattle.vx_isa.specs.Operations.{same_unit}
use Rattle.vx_machine.specs.Resources.{units_of}
use Rattle.vx_room.specs.Items.{item_of, unit_of_item, is_observable_item, writes_general_op}
use Rattle.vx_room.specs.Room.{home_of}
use Rattle.vx_linear.specs.Writers.{writer}
use Rattle.vx_dep.specs.Delays.{reads_of, writes_of, latency_of}
use Rattle.vx_dep.specs.Compensation.{greatest}
use Rattle.vx_bug.specs.declared.bookings.Booking.{Booking}

-- what an operation names

-- the general values that it reads, in the order of its operands; a test is a branch value
abbrev pub general_reads : TraceOp → List ℕ
general_reads (Plain (Select v test a b)) = value_in a ++ value_in b
general_reads (Plain op) = reads_of (Plain op)
general_reads (Split test leaves_when edge live) = []

abbrev pub general_writes : TraceOp → List ℕ
general_writes (Plain op) = if writes_general_op op then writes_of (Plain op) else []
general_writes (Split test leaves_when edge live) = []

-- it reads or writes a branch value
abbrev pub names_branch : TraceOp → Bool
names_branch (Plain (Select v test a b)) = true
names_branch (Plain (Compute (ToBranch compare) v a b)) = true
names_branch (Plain op) = false
names_branch (Split test leaves_when edge live) = true

-- it can stand on cluster 0 alone
abbrev pub is_bound : TraceOp → Bool
is_bound op = names_branch op || is_observable_item (item_of op)

abbrev pub is_across : TraceOp → Bool
is_across (Plain (Across v u)) = true
is_across op = false

-- the order

-- the operations above place i that wrote its operands last, in the order of the operands
abbrev pub some_of : Option ℕ → List ℕ
some_of held = value_list held

abbrev pub writers_of : Trace → ℕ → Option TraceOp → List ℕ
writers_of t i None = []
writers_of t i (Some op) = flat_map (λ v. some_of (writer t.ops i v)) (reads_of op)

-- one after the other
abbrev pub visit_each : (ℕ → List ℕ → List ℕ) → (places : List ℕ) → List ℕ → List ℕ
visit_each visit [] listed = listed
visit_each visit (i ∷ is) listed = visit_each visit is (visit i listed)

-- a visit lists the writers of the operands, and then the operation itself, unless it is listed; writers stand at smaller
-- places, so that visits of at most so many inside each other are enough
unfoldable pub visit : (depth : ℕ) → Trace → (place : ℕ) → List ℕ → List ℕ
visit zero t i listed = listed
visit (suc depth) t i listed = if list_any (nat_eq i) listed then listed else visit_each (visit depth t) (writers_of t i (slice_get t.ops i)) listed ++ i ∷ []

-- the trace is walked from the last operation to the first
abbrev pub listed : Trace → List ℕ
listed t = visit_each (visit (suc (length t.ops)) t) (reverse (numbers 0 (length t.ops))) []

-- what stands when an operation's turn comes

-- the homes so far, and the operations that have a cluster: of each the unit that it takes there in a cycle, and its estimate
pub record Books : Type 0 where
  pub homes : ℕ → Option ℕ
  pub bookings : List Booking

abbrev pub estimate_in : List Booking → ℕ → ℕ
estimate_in [] i = 0
estimate_in (b ∷ bs) i = if b.place == i then b.estimate else estimate_in bs i

-- the clusters that an operation may take

abbrev pub home_clusters : (ℕ → Option ℕ) → List ℕ → List ℕ
home_clusters homes values = flat_map (λ v. some_of (homes v)) values

-- those of its result, where that has a home, else all of the machine's
abbrev pub home_or_any : Numbers → List ℕ → List ℕ
home_or_any m [] = numbers 0 m.clusters
home_or_any m (home ∷ more) = home ∷ []

-- the cluster that a copied operation had, else others
abbrev pub unless_fixed : Option ℕ → List ℕ → List ℕ
unless_fixed (Some cluster) others = cluster ∷ []
unless_fixed None others = others

abbrev pub permitted : Numbers → (ℕ → Option ℕ) → (fixed : Option ℕ) → TraceOp → List ℕ
permitted m homes fixed op = unless_fixed fixed (if is_bound op then 0 ∷ [] else home_or_any m (home_clusters homes (general_writes op)))

-- the estimate

-- how many cycles later an operand that stands on another cluster is there; one without a home counts as standing here, and
-- a copy across reads where its operand stands
abbrev pub way_from : Numbers → Option ℕ → (cluster : ℕ) → ℕ
way_from m None cluster = 0
way_from m (Some home) cluster = if home == cluster then 0 else m.latency_copy

abbrev pub written_at : List Booking → Option ℕ → ℕ
written_at bookings None = 0
written_at bookings (Some i) = estimate_in bookings i

-- the cycle from which a value is there for the operation at place i on a cluster
abbrev pub available : Numbers → Trace → Books → (i : ℕ) → TraceOp → (cluster v : ℕ) → ℕ
available m t books i op cluster v = written_at books.bookings (writer t.ops i v) + (if is_across op then 0 else way_from m (books.homes v) cluster)

-- copy paths and control places are the machine's, whatever the cluster
abbrev pub counts_at : UnitKind → ℕ → ℕ → Bool
counts_at Copies cluster other = true
counts_at Control cluster other = true
counts_at unit cluster other = cluster == other

-- in this cycle an issue slot of the cluster and a unit of the kind are not booked
abbrev pub is_free : Numbers → List Booking → (cluster : ℕ) → UnitKind → (cycle : ℕ) → Bool
is_free m bookings cluster unit cycle =
    nat_lt (count_by (λ (b : Booking). (b.cycle == cycle) && (b.cluster == cluster)) bookings) m.issue
    && nat_lt (count_by (λ (b : Booking). (b.cycle == cycle) && (same_unit b.unit unit && counts_at unit cluster b.cluster)) bookings) (units_of m unit)

-- the least such cycle from a first one on; so many bookings leave one free among so many more cycles
abbrev pub first_free : (bookings : ℕ) → (free : ℕ → Bool) → (cycle : ℕ) → ℕ
first_free zero free cycle = cycle
first_free (suc bookings) free cycle = if free cycle then cycle else first_free bookings free (cycle + 1)

abbrev pub cycle_of : Numbers → Trace → Books → (i : ℕ) → TraceOp → (cluster : ℕ) → ℕ
cycle_of m t books i op cluster =
    first_free (length books.bookings) (is_free m books.bookings cluster (unit_of_item (item_of op)))
    (greatest (map (available m t books i op cluster) (reads_of op)))

abbrev pub estimate_of : Numbers → Trace → Books → (i : ℕ) → TraceOp → (cluster : ℕ) → ℕ
estimate_of m t books i op cluster = cycle_of m t books i op cluster + latency_of m op

-- what stands after it has taken a cluster

-- a value without a home gets this one
abbrev pub with_home : (cluster : ℕ) → (ℕ → Option ℕ) → (value : ℕ) → (ℕ → Option ℕ)
with_home cluster homes v u = if (u == v) && not (is_some (homes v)) then Some cluster else homes u

abbrev pub with_homes : (cluster : ℕ) → (ℕ → Option ℕ) → (values : List ℕ) → (ℕ → Option ℕ)
with_homes cluster homes [] = homes
with_homes cluster homes (v ∷ vs) = with_homes cluster (with_home cluster homes v) vs

abbrev pub booked : Numbers → Trace → Books → (i : ℕ) → TraceOp → (cluster : ℕ) → Booking
booked m t books i op cluster = record {
  place = i;
  cluster = cluster;
  unit = unit_of_item (item_of op);
  cycle = cycle_of m t books i op cluster;
  estimate = estimate_of m t books i op cluster;
}

abbrev pub after_turn : Numbers → Trace → Books → (i : ℕ) → Option TraceOp → (cluster : ℕ) → Books
after_turn m t books i None cluster = books
after_turn m t books i (Some op) cluster = record {
  homes = with_homes cluster books.homes (general_reads op ++ general_writes op);
  bookings = booked m t books i op cluster ∷ books.bookings;
}

-- after the turns of these places, each of which has taken its cluster
abbrev pub books_after : Numbers → Trace → (chosen : List ℕ) → Books → (places : List ℕ) → Books
books_after m t chosen books [] = books
books_after m t chosen books (i ∷ is) = books_after m t chosen (after_turn m t books i (slice_get t.ops i) (slice_index_or chosen i 0)) is

abbrev pub at_first : Homes → Books
at_first homes = record { homes = home_of homes; bookings = [] }

-- among the clusters that it may take it has the one of the least estimate, the lowest of several
pub record IsBest (m : Numbers) (t : Trace) (books : Books) (i : ℕ) (fixed : Option ℕ) (op : TraceOp) (cluster : ℕ) : Type 0 where
  pub allowed : IsIn cluster (permitted m books.homes fixed op)
  pub least : (other : ℕ) → IsIn other (permitted m books.homes fixed op) → estimate_of m t books i op cluster ≤ estimate_of m t books i op other
  pub lowest : (other : ℕ) → IsIn other (permitted m books.homes fixed op) → estimate_of m t books i op other ≡ estimate_of m t books i op cluster → cluster ≤ other
