-- An item that stands where it may has room by itself.
use Rattle.std.proofs.Common.{◌≡◌, ℕ, ◌≤◌, Bool, ◌&&◌, ◌==◌, true, false, nat_le, if◌then◌else◌, [], ◌∷◌, length, count_by, arith}
use Rattle.std.proofs.lemmas.Bool.{le-leb}
use Rattle.std.proofs.lemmas.List.Sums.{count_by-le-length}
use Rattle.vx_base.specs.declared.arithmetic.Code.TheVariants.{Mov}
use Rattle.vx_flow.specs.declared.graph.Op.{Op}
use Rattle.vx_flow.specs.declared.graph.Op.TheVariants.{Compute}
use Rattle.vx_flow.specs.declared.trace.Homes.{Homes}
use Rattle.vx_isa.specs.declared.operation.UnitKind.TheVariants.{Alu, Multiply, Memory, Copies}
use Rattle.vx_isa.specs.Numbers.{Numbers}
use Rattle.vx_isa.proofs.Ranges.{Ranges, ranges as all_ranges}
use Rattle.vx_isa.proofs.FitsLaw.{six_together, all_below-holds}
use Rattle.vx_room.specs.declared.items.Item.{Item}
use Rattle.vx_room.specs.declared.items.Item.TheVariants.{Plain, Split}
use Rattle.vx_room.specs.declared.items.ClusteredItem.{ClusteredItem}
use Rattle.vx_room.specs.Items.{takes_port, general_reads, general_reads_of_op, is_split, is_observable_item, writes_general}
use Rattle.vx_room.specs.Room.{is_at, source_of, count_at, count_in, needs, reads_at, has_room_at, RoomAlone}
use Rattle.vx_room.proofs.RoomSteps.{reads_at_one}

-- an item reads at most two general registers

few_reads_of_op : (op : Op) → length (general_reads_of_op op) ≤ 2
few_reads_of_op (Compute Mov v a b) = omega arith
few_reads_of_op op = omega arith

few_reads : (item : Item) → length (general_reads item) ≤ 2
few_reads (Plain op) = few_reads_of_op op
few_reads (Split p) = omega arith

few_if : (b : Bool) (n : ℕ) → n ≤ 2 → (if b then n else 0) ≤ 2
few_if true n h = h
few_if false n h = omega arith

few_at : (homes : Homes) (k : ℕ) (x : ClusteredItem) → reads_at homes k (x ∷ []) ≤ 2
few_at homes k x =
    let counted = count_by-le-length takes_port (general_reads x.item) in
    let few = few_reads x.item in
    rw (reads_at_one homes k x) (few_if (is_at k (source_of homes x)) (count_by takes_port (general_reads x.item)) (omega arith))

-- it is one

alone : {X : Type 0} (p : X → Bool) (x : X) (n : ℕ) → 1 ≤ n → nat_le (count_by p (x ∷ [])) n ≡ true
alone p x n h = let le = count_by-le-length p (x ∷ []) in le-leb (count_by p (x ∷ [])) n (omega arith)

alone_here : (p : Item → Bool) (k : ℕ) (x : ClusteredItem) (n : ℕ) → 1 ≤ n → nat_le (count_at k p (x ∷ [])) n ≡ true
alone_here p k x n h = alone (λ (y : ClusteredItem). (y.cluster == k) && p y.item) x n h

alone_in : (p : Item → Bool) (x : ClusteredItem) (n : ℕ) → 1 ≤ n → nat_le (count_in p (x ∷ [])) n ≡ true
alone_in p x n h = alone (λ (y : ClusteredItem). p y.item) x n h

alone_at : (m : Numbers) (homes : Homes) (x : ClusteredItem) (k : ℕ) → Ranges m → has_room_at m homes (x ∷ []) k ≡ true
alone_at m homes x k l =
    let few = few_at homes k x in
    let ports = l.read_ports.least in
    six_together _ _ _ _ _ _ (record {
      one = alone_here (λ item. true) k x m.issue l.issue.least;
      two = alone_here (needs Alu) k x m.alus l.alus.least;
      three = alone_here (needs Multiply) k x m.multipliers l.multipliers.least;
      four = alone_here (needs Memory) k x m.memory_units l.memory_units.least;
      five = le-leb (reads_at homes k (x ∷ [])) m.read_ports (omega arith);
      six = alone_here writes_general k x m.write_ports l.write_ports.least;
    })

pub room_alone : RoomAlone
room_alone m homes x ranges well =
    let l = all_ranges m ranges in
    six_together _ _ _ _ _ _ (record {
      one = ranges;
      two = well;
      three = all_below-holds (has_room_at m homes (x ∷ [])) m.clusters (λ k below. alone_at m homes x k l);
      four = alone_in (needs Copies) x m.copy_paths l.copy_paths.least;
      five = alone_in is_split x m.branches l.branches.least;
      six = alone_in is_observable_item x 1 (omega arith);
    })
