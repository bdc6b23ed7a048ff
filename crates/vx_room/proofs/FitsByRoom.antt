-- Operations that need no more than items with room fit.
use Rattle.std.proofs.Common.{◌≡◌, ℕ, ◌≤◌, All, Bool, ◌&&◌, ◌==◌, ◌⊎◌, ⊎_elim, inl, inr, true, false, if◌then◌else◌, cond, List, [], ◌∷◌, ◌++◌, ap, sym, ◌∙◌, refl, count_by, arith}
use Rattle.std.specs.List.{flat_map}
use Rattle.vx_base.specs.declared.arithmetic.Code.{Code}
use Rattle.vx_base.specs.declared.arithmetic.Code.TheVariants.{Add}
use Rattle.vx_flow.specs.declared.graph.Op.{Op}
use Rattle.vx_flow.specs.declared.graph.Op.TheVariants.{Compute}
use Rattle.vx_flow.specs.declared.trace.Homes.{Homes}
use Rattle.vx_isa.specs.declared.operation.UnitKind.{UnitKind}
use Rattle.vx_isa.specs.declared.operation.UnitKind.TheVariants.{Alu, Multiply, Memory, Copies, Control}
use Rattle.vx_isa.specs.declared.operation.Operation.{Operation}
use Rattle.vx_isa.specs.Numbers.{Numbers}
use Rattle.vx_isa.specs.Operations.{cluster_of, reads_of, list_of, destination_of, unit_of_code, same_unit, is_control, is_lone, is_observable}
use Rattle.vx_isa.specs.Fits.{operands, destinations, count_on, is_of, takes_read_port, takes_write_port, reads_on, writes_on, IsInFile, FitsMachine}
use Rattle.vx_isa.proofs.Lists.{count_by-cons, count_by-append}
use Rattle.vx_room.specs.declared.items.Item.{Item}
use Rattle.vx_room.specs.declared.items.Item.TheVariants.{Plain, Split}
use Rattle.vx_room.specs.declared.items.ClusteredItem.{ClusteredItem}
use Rattle.vx_room.specs.Items.{unit_of_op, unit_of_item, is_split, is_observable_item, writes_general}
use Rattle.vx_room.specs.Room.{read_clusters, is_at, count_at, needs, reads_at, writes_at, HasRoom}
use Rattle.vx_room.specs.Needs.{Needs, NeedsEach, FitsByRoom}
use Rattle.vx_room.proofs.RoomLaw.{room_in_words}

-- a split, and no operation, needs the control place

pub no_control : (code : Code) → same_unit (unit_of_code code) Control ≡ false
no_control Add = refl
no_control code = refl

pub no_control_op : (op : Op) → same_unit (unit_of_op op) Control ≡ false
no_control_op (Compute code v a b) = no_control code
no_control_op op = refl

pub split_is_control : (item : Item) → same_unit (unit_of_item item) Control ≡ is_split item
split_is_control (Plain op) = no_control_op op
split_is_control (Split p) = refl

-- what each of the pairs has, both lists have as often

count_same : (homes : Homes) (p : Operation → Bool) (q : ClusteredItem → Bool) (xs : List ClusteredItem) (ops : List Operation)
    → ((x : ClusteredItem) (op : Operation) → Needs homes x op → p op ≡ q x) → NeedsEach homes xs ops → count_by p ops ≡ count_by q xs
count_same homes p q [] [] each n = refl
count_same homes p q [] (op ∷ ops) each n = absurd n
count_same homes p q (x ∷ xs) [] each n = absurd n
count_same homes p q (x ∷ xs) (op ∷ ops) each n =
    count_by-cons p op ops ∙ rw (each x op n.0, count_same homes p q xs ops each n.1) (sym (count_by-cons q x xs))

reads_less : (homes : Homes) (k : ℕ) (xs : List ClusteredItem) (ops : List Operation) → NeedsEach homes xs ops → reads_on k ops ≤ reads_at homes k xs
reads_less homes k [] [] n = omega arith
reads_less homes k [] (op ∷ ops) n = absurd n
reads_less homes k (x ∷ xs) [] n = absurd n
reads_less homes k (x ∷ xs) (op ∷ ops) n =
    let here = n.0.reads k in
    let more = reads_less homes k xs ops n.1 in
    let left = count_by-append (takes_read_port k) (reads_of op) (operands ops) in
    let right = count_by-append (is_at k) (read_clusters homes x) (flat_map (read_clusters homes) xs) in
    omega arith

one_if : (b : Bool) (n : ℕ) → n ≤ (if b then 1 else 0) → n ≤ cond b 1 0
one_if true n h = h
one_if false n h = h

writes_less : (homes : Homes) (k : ℕ) (xs : List ClusteredItem) (ops : List Operation) → NeedsEach homes xs ops → writes_on k ops ≤ writes_at k xs
writes_less homes k [] [] n = omega arith
writes_less homes k [] (op ∷ ops) n = absurd n
writes_less homes k (x ∷ xs) [] n = absurd n
writes_less homes k (x ∷ xs) (op ∷ ops) n =
    let here = one_if ((x.cluster == k) && writes_general x.item) (count_by (takes_write_port k) (list_of (destination_of op))) (n.0.writes k) in
    let more = writes_less homes k xs ops n.1 in
    let left = count_by-append (takes_write_port k) (list_of (destination_of op)) (destinations ops) in
    let right = count_by-cons (λ (y : ClusteredItem). (y.cluster == k) && writes_general y.item) x xs in
    omega arith

on_same : (homes : Homes) (k : ℕ) (p : Operation → Bool) (q : Item → Bool) → ((x : ClusteredItem) (op : Operation) → Needs homes x op → p op ≡ q x.item)
    → (x : ClusteredItem) (op : Operation) → Needs homes x op → ((cluster_of op == k) && p op) ≡ ((x.cluster == k) && q x.item)
on_same homes k p q each x op n = rw (n.cluster, each x op n) refl

unit_same : (homes : Homes) (u : UnitKind) (x : ClusteredItem) (op : Operation) → Needs homes x op → is_of u op ≡ needs u x.item
unit_same homes u x op n = ap (λ v. same_unit v u) n.unit

count_on_same : (homes : Homes) (k : ℕ) (p : Operation → Bool) (q : Item → Bool) (xs : List ClusteredItem) (ops : List Operation)
    → ((x : ClusteredItem) (op : Operation) → Needs homes x op → p op ≡ q x.item) → NeedsEach homes xs ops → count_on k p ops ≡ count_at k q xs
count_on_same homes k p q xs ops each n =
    count_same homes (λ op. (cluster_of op == k) && p op) (λ (x : ClusteredItem). (x.cluster == k) && q x.item) xs ops (on_same homes k p q each) n

at_most : (a b n : ℕ) → a ≡ b → b ≤ n → a ≤ n
at_most a b n same le = omega arith

within : (a b n : ℕ) → a ≤ b → b ≤ n → a ≤ n
within a b n less le = omega arith

at_most_one : (a n : ℕ) → a ≤ n → n ≡ 1 → a ≤ 1
at_most_one a n le one = omega arith

by_words : (m : Numbers) (homes : Homes) (xs : List ClusteredItem) (ops : List Operation) → HasRoom m homes xs → NeedsEach homes xs ops
    → (m.branches ≡ 1) ⊎ All (λ op. is_lone op ≡ false) ops
    → All (IsInFile m) (operands ops ++ destinations ops) → FitsMachine m ops
by_words m homes xs ops r n none files = let control = at_most _ _ _ (count_same homes is_control (λ (x : ClusteredItem). is_split x.item) xs ops (λ x op h. unit_same homes Control x op h ∙ split_is_control x.item) n) r.splits in record {
  ranges = r.ranges;
  slots = λ k. at_most _ _ _ (count_on_same homes k (λ op. true) (λ item. true) xs ops (λ x op h. refl) n) (r.slots k);
  alus = λ k. at_most _ _ _ (count_on_same homes k (is_of Alu) (needs Alu) xs ops (unit_same homes Alu) n) (r.alus k);
  multipliers = λ k. at_most _ _ _ (count_on_same homes k (is_of Multiply) (needs Multiply) xs ops (unit_same homes Multiply) n) (r.multipliers k);
  memory_units = λ k. at_most _ _ _ (count_on_same homes k (is_of Memory) (needs Memory) xs ops (unit_same homes Memory) n) (r.memory_units k);
  read_ports = λ k. within (reads_on k ops) (reads_at homes k xs) _ (reads_less homes k xs ops n) (r.read_ports k);
  write_ports = λ k. within (writes_on k ops) (writes_at k xs) _ (writes_less homes k xs ops n) (r.write_ports k);
  registers = files;
  copies = at_most _ _ _ (count_same homes (is_of Copies) (λ (x : ClusteredItem). needs Copies x.item) xs ops (unit_same homes Copies) n) r.copies;
  control = control;
  lone = ⊎_elim (λ one. inl (at_most_one (count_by is_control ops) m.branches control one)) (λ few. inr few) none;
  observable = at_most _ _ _ (count_same homes is_observable (λ (x : ClusteredItem). is_observable_item x.item) xs ops (λ x op h. h.observable) n) r.observable;
}

pub fits_by_room : FitsByRoom
fits_by_room m homes xs ops room n none files = by_words m homes xs ops ((room_in_words m homes xs).0 room) n none files
