-- The test for room and the words for it, and that more items never make room.
use Rattle.std.proofs.Common.{◌≡◌, ℕ, ◌<◌, ◌≤◌, ◌⊎◌, Bool, ◌&&◌, ◌||◌, ◌==◌, not, true, false, nat_lt, nat_le, List, [], ◌∷◌, Option, Some, None, sym, ◌∙◌, refl, inl, inr, count_by, arith}
use Rattle.std.proofs.lemmas.Bool.{and_parts, leb-true, le-leb, lt-ltb}
use Rattle.std.proofs.lemmas.Bool.Decides.{nat_tests}
use Rattle.std.specs.Cmp.Derive.{both_true}
use Rattle.std.specs.List.{list_all, flat_map, filter}
use Rattle.std.proofs.lemmas.List.Sums.{AllPass-from_list_all, list_all-from_AllPass}
use Rattle.vx_flow.specs.declared.trace.Homes.{Homes}
use Rattle.vx_isa.specs.declared.operation.UnitKind.TheVariants.{Alu, Multiply, Memory, Copies}
use Rattle.vx_isa.specs.Numbers.{Numbers, is_machine}
use Rattle.vx_isa.specs.Fits.{all_below, has}
use Rattle.vx_isa.proofs.Lists.{list_all-flat_map, count_by-none, count_by-cons, count_by-append}
use Rattle.vx_isa.proofs.FitsLaw.{Six, six_parts, six_together, all_below-at, all_below-holds, limit, limit_at, is_there}
use Rattle.vx_room.specs.declared.items.Item.{Item}
use Rattle.vx_room.specs.declared.items.ClusteredItem.{ClusteredItem}
use Rattle.vx_room.specs.Items.{is_split, is_observable_item, writes_general}
use Rattle.vx_room.specs.Room.{read_clusters, is_at, count_at, count_in, needs, reads_at, writes_at, has_room_at, stands_well, is_cluster, stand_well, HasRoom, RoomInWords, RoomShrinks}

pub sources_pass : (m : Numbers) (homes : Homes) (xs : List ClusteredItem)
    → list_all (is_cluster m) (flat_map (read_clusters homes) xs) ≡ list_all (λ x. list_all (is_cluster m) (read_clusters homes x)) xs
sources_pass m homes xs = list_all-flat_map (is_cluster m) (read_clusters homes) xs

-- on a cluster that is not there

absent_item : (m : Numbers) (k : ℕ) (p : Item → Bool) (x : ClusteredItem) → m.clusters ≤ k → stands_well m x ≡ true → ((x.cluster == k) && p x.item) ≡ false
absent_item m k p x gone well =
    let (there, rest) = and_parts (nat_lt x.cluster m.clusters) ((x.cluster == 0) || not (is_split x.item || is_observable_item x.item)) well in
    let other : (x.cluster == k) ≡ false = grind (arith, nat_tests) in
    rw other refl

count_at-absent : (m : Numbers) (k : ℕ) (p : Item → Bool) (xs : List ClusteredItem) → m.clusters ≤ k → list_all (stands_well m) xs ≡ true → count_at k p xs ≡ 0
count_at-absent m k p xs gone all = count_by-none _ (stands_well m) xs (λ x well. absent_item m k p x gone well) all

absent_source : (m : Numbers) (k : ℕ) (c : Option ℕ) → m.clusters ≤ k → is_cluster m c ≡ true → is_at k c ≡ false
absent_source m k None gone there = refl
absent_source m k (Some c) gone there = grind (arith, nat_tests)

-- on cluster 0

abbrev OnZero : ClusteredItem → Type 0
OnZero x = (x.cluster ≡ 0) ⊎ ((is_split x.item ≡ false) × (is_observable_item x.item ≡ false))

on_zero_by : (a s o : Bool) (k : ℕ) → (k == 0) ≡ a → (a || not (s || o)) ≡ true → (k ≡ 0) ⊎ ((s ≡ false) × (o ≡ false))
on_zero_by true s o k e h = inl (grind (arith, nat_tests))
on_zero_by false false false k e h = inr (refl, refl)
on_zero_by false true o k e h = cc
on_zero_by false false true k e h = cc

on_zero : (m : Numbers) (x : ClusteredItem) → stands_well m x ≡ true → OnZero x
on_zero m x well =
    let (there, rest) = and_parts (nat_lt x.cluster m.clusters) ((x.cluster == 0) || not (is_split x.item || is_observable_item x.item)) well in
    on_zero_by _ (is_split x.item) (is_observable_item x.item) x.cluster refl rest

or_true : (b : Bool) → (b || true) ≡ true
or_true true = refl
or_true false = refl

on_zero_back : (m : Numbers) (x : ClusteredItem) → x.cluster < m.clusters → OnZero x → stands_well m x ≡ true
on_zero_back m x there (inl zero) = both_true (lt-ltb _ _ there) (rw zero refl)
on_zero_back m x there (inr (no_split, quiet)) = both_true (lt-ltb _ _ there) (rw (no_split, quiet) (or_true (x.cluster == 0)))

-- items stand on clusters that have slots
stand : (m : Numbers) (xs : List ClusteredItem) → ((k : ℕ) → count_at k (λ item. true) xs ≤ has m k m.issue) → list_all (λ x. nat_lt x.cluster m.clusters) xs ≡ true
stand m [] slots = refl
stand m (x ∷ xs) slots =
    let q = λ (k : ℕ) (y : ClusteredItem). (y.cluster == k) && true in
    let here = count_by-cons (q x.cluster) x xs in
    let some : 0 < has m x.cluster m.issue = let le = slots x.cluster in grind (arith, nat_tests) in
    both_true (lt-ltb _ _ (is_there m x.cluster m.issue some)) (stand m xs (λ k. let le = slots k in let cons = count_by-cons (q k) x xs in omega arith))

-- both directions

abbrev RoomAt : Numbers → Homes → List ClusteredItem → ℕ → Type 0
RoomAt m homes xs k =
    Six (nat_le (count_at k (λ item. true) xs) m.issue) (nat_le (count_at k (needs Alu) xs) m.alus) (nat_le (count_at k (needs Multiply) xs) m.multipliers)
    (nat_le (count_at k (needs Memory) xs) m.memory_units) (nat_le (reads_at homes k xs) m.read_ports) (nat_le (writes_at k xs) m.write_ports)

abbrev RoomIn : Numbers → Homes → List ClusteredItem → Type 0
RoomIn m homes xs =
    Six (is_machine m) (stand_well m homes xs) (all_below m.clusters (has_room_at m homes xs))
    (nat_le (count_in (needs Copies) xs) m.copy_paths) (nat_le (count_in is_split xs) m.branches) (nat_le (count_in is_observable_item xs) 1)

at_each : (m : Numbers) (homes : Homes) (xs : List ClusteredItem) (k : ℕ) → all_below m.clusters (has_room_at m homes xs) ≡ true → k < m.clusters → RoomAt m homes xs k
at_each m homes xs k all below = six_parts _ _ _ _ _ _ (all_below-at (has_room_at m homes xs) m.clusters k all below)

in_words : (m : Numbers) (homes : Homes) (xs : List ClusteredItem) → RoomIn m homes xs → HasRoom m homes xs
in_words m homes xs s =
    let (on, sources) = and_parts (list_all (stands_well m) xs) (list_all (is_cluster m) (flat_map (read_clusters homes) xs)) s.two in
    let each = λ (k : ℕ) (below : k < m.clusters). at_each m homes xs k s.three below in
    record {
      ranges = s.one;
      slots = λ k. limit m k m.issue _ (λ below. (each k below).one) (λ gone. count_at-absent m k (λ item. true) xs gone on);
      alus = λ k. limit m k m.alus _ (λ below. (each k below).two) (λ gone. count_at-absent m k (needs Alu) xs gone on);
      multipliers = λ k. limit m k m.multipliers _ (λ below. (each k below).three) (λ gone. count_at-absent m k (needs Multiply) xs gone on);
      memory_units = λ k. limit m k m.memory_units _ (λ below. (each k below).four) (λ gone. count_at-absent m k (needs Memory) xs gone on);
      read_ports = λ k. limit m k m.read_ports _ (λ below. (each k below).five) (λ gone. count_by-none (is_at k) (is_cluster m) (flat_map (read_clusters homes) xs) (λ c there. absent_source m k c gone there) sources);
      write_ports = λ k. limit m k m.write_ports _ (λ below. (each k below).six) (λ gone. count_at-absent m k writes_general xs gone on);
      sources = λ k d h. AllPass-from_list_all (is_cluster m) (flat_map (read_clusters homes) xs) sources k d h;
      on_cluster_0 = λ k d h. on_zero m _ (AllPass-from_list_all (stands_well m) xs on k d h);
      copies = leb-true _ _ s.four;
      splits = leb-true _ _ s.five;
      observable = leb-true _ _ s.six;
    }

by_test : (m : Numbers) (homes : Homes) (xs : List ClusteredItem) → HasRoom m homes xs → RoomIn m homes xs
by_test m homes xs f =
    let there = AllPass-from_list_all (λ (x : ClusteredItem). nat_lt x.cluster m.clusters) xs (stand m xs f.slots) in
    record {
      one = f.ranges;
      two = both_true
          (list_all-from_AllPass (stands_well m) xs (λ k d h. on_zero_back m _ (leb-true _ _ (there k d h)) (f.on_cluster_0 k d h)))
          (list_all-from_AllPass (is_cluster m) (flat_map (read_clusters homes) xs) (λ k d h. f.sources k d h));
      three = all_below-holds (has_room_at m homes xs) m.clusters (λ k below. six_together _ _ _ _ _ _ (record {
        one = limit_at m k m.issue _ below (f.slots k);
        two = limit_at m k m.alus _ below (f.alus k);
        three = limit_at m k m.multipliers _ below (f.multipliers k);
        four = limit_at m k m.memory_units _ below (f.memory_units k);
        five = limit_at m k m.read_ports _ below (f.read_ports k);
        six = limit_at m k m.write_ports _ below (f.write_ports k);
      }));
      four = le-leb _ _ f.copies;
      five = le-leb _ _ f.splits;
      six = le-leb _ _ f.observable;
    }

pub room_in_words : RoomInWords
room_in_words m homes xs = (λ h. in_words m homes xs (six_parts _ _ _ _ _ _ h), λ f. six_together _ _ _ _ _ _ (by_test m homes xs f))

-- a part of a list has no more of anything

count_kept : {X : Type 0} (p keep : X → Bool) (x : X) (xs : List X) (b : Bool) → keep x ≡ b → count_by p (filter keep xs) ≤ count_by p xs → count_by p (filter keep (x ∷ xs)) ≤ count_by p (x ∷ xs)
count_kept p keep x xs true e more = rw e (let one = count_by-cons p x (filter keep xs) in let all = count_by-cons p x xs in omega arith)
count_kept p keep x xs false e more = rw e (let all = count_by-cons p x xs in omega arith)

count_by-filter : {X : Type 0} (p keep : X → Bool) (xs : List X) → count_by p (filter keep xs) ≤ count_by p xs
count_by-filter p keep [] = omega arith
count_by-filter p keep (x ∷ xs) = count_kept p keep x xs (keep x) refl (count_by-filter p keep xs)

rows_kept : {X Y : Type 0} (p : Y → Bool) (f : X → List Y) (keep : X → Bool) (x : X) (xs : List X) (b : Bool) → keep x ≡ b → count_by p (flat_map f (filter keep xs)) ≤ count_by p (flat_map f xs) → count_by p (flat_map f (filter keep (x ∷ xs))) ≤ count_by p (flat_map f (x ∷ xs))
rows_kept p f keep x xs true e more = rw e (let one = count_by-append p (f x) (flat_map f (filter keep xs)) in let all = count_by-append p (f x) (flat_map f xs) in omega arith)
rows_kept p f keep x xs false e more = rw e (let all = count_by-append p (f x) (flat_map f xs) in omega arith)

count_by-rows : {X Y : Type 0} (p : Y → Bool) (f : X → List Y) (keep : X → Bool) (xs : List X) → count_by p (flat_map f (filter keep xs)) ≤ count_by p (flat_map f xs)
count_by-rows p f keep [] = omega arith
count_by-rows p f keep (x ∷ xs) = rows_kept p f keep x xs (keep x) refl (count_by-rows p f keep xs)

all_kept : {X : Type 0} (p keep : X → Bool) (x : X) (xs : List X) (b : Bool) → keep x ≡ b → p x ≡ true → list_all p (filter keep xs) ≡ true → list_all p (filter keep (x ∷ xs)) ≡ true
all_kept p keep x xs true e here more = rw (e, here) more
all_kept p keep x xs false e here more = rw e more

list_all-filter : {X : Type 0} (p keep : X → Bool) (xs : List X) → list_all p xs ≡ true → list_all p (filter keep xs) ≡ true
list_all-filter p keep [] all = refl
list_all-filter p keep (x ∷ xs) all =
    let (here, more) = and_parts (p x) (list_all p xs) all in
    all_kept p keep x xs (keep x) refl here (list_all-filter p keep xs more)

at_most : (a b n : ℕ) → a ≤ b → nat_le b n ≡ true → nat_le a n ≡ true
at_most a b n le fits = let whole = leb-true b n fits in le-leb a n (omega arith)

part_at : (m : Numbers) (homes : Homes) (keep : ClusteredItem → Bool) (xs : List ClusteredItem) (k : ℕ) → RoomAt m homes xs k → RoomAt m homes (filter keep xs) k
part_at m homes keep xs k s = record {
  one = at_most _ _ m.issue (count_by-filter _ keep xs) s.one;
  two = at_most _ _ m.alus (count_by-filter _ keep xs) s.two;
  three = at_most _ _ m.multipliers (count_by-filter _ keep xs) s.three;
  four = at_most _ _ m.memory_units (count_by-filter _ keep xs) s.four;
  five = at_most _ _ m.read_ports (count_by-rows (is_at k) (read_clusters homes) keep xs) s.five;
  six = at_most _ _ m.write_ports (count_by-filter _ keep xs) s.six;
}

part_stands : (m : Numbers) (homes : Homes) (keep : ClusteredItem → Bool) (xs : List ClusteredItem) → stand_well m homes xs ≡ true → stand_well m homes (filter keep xs) ≡ true
part_stands m homes keep xs well =
    let (on, sources) = and_parts (list_all (stands_well m) xs) (list_all (is_cluster m) (flat_map (read_clusters homes) xs)) well in
    let each = sym (list_all-flat_map (is_cluster m) (read_clusters homes) xs) ∙ sources in
    both_true (list_all-filter (stands_well m) keep xs on) (list_all-flat_map (is_cluster m) (read_clusters homes) (filter keep xs) ∙ list_all-filter (λ x. list_all (is_cluster m) (read_clusters homes x)) keep xs each)

part : (m : Numbers) (homes : Homes) (keep : ClusteredItem → Bool) (xs : List ClusteredItem) → RoomIn m homes xs → RoomIn m homes (filter keep xs)
part m homes keep xs s = record {
  one = s.one;
  two = part_stands m homes keep xs s.two;
  three = all_below-holds (has_room_at m homes (filter keep xs)) m.clusters (λ k below. six_together _ _ _ _ _ _ (part_at m homes keep xs k (at_each m homes xs k s.three below)));
  four = at_most _ _ m.copy_paths (count_by-filter _ keep xs) s.four;
  five = at_most _ _ m.branches (count_by-filter _ keep xs) s.five;
  six = at_most _ _ 1 (count_by-filter _ keep xs) s.six;
}

pub room_shrinks : RoomShrinks
room_shrinks m homes keep xs h = six_together _ _ _ _ _ _ (part m homes keep xs (six_parts _ _ _ _ _ _ h))
