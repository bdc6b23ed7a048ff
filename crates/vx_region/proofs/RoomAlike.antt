-- Room does not tell a load that may be dismissed from one that may not.
use Rattle.std.proofs.Common.{◌≡◌, ℕ, ◌+◌, Bool, ◌&&◌, true, List, [], ◌∷◌, ◌++◌, cond, map, count_by, nat_le, refl, sym, ap, ◌∙◌}
use Rattle.std.specs.Prelude.{◌==◌}
use Rattle.std.specs.List.{list_all, flat_map, filter}
use Rattle.vx_flow.specs.declared.graph.Op.TheVariants.{Load}
use Rattle.vx_flow.specs.declared.trace.Homes.{Homes}
use Rattle.vx_flow.specs.Effects.{dismissed}
use Rattle.vx_isa.specs.declared.operation.UnitKind.{UnitKind}
use Rattle.vx_isa.specs.declared.operation.UnitKind.TheVariants.{Alu, Multiply, Memory, Copies}
use Rattle.vx_isa.specs.Numbers.{Numbers, is_machine}
use Rattle.vx_isa.specs.Operations.{same_unit}
use Rattle.vx_isa.specs.Fits.{all_below}
use Rattle.vx_isa.proofs.Lists.{count_by-cons}
use Rattle.vx_room.specs.declared.items.Item.{Item}
use Rattle.vx_room.specs.declared.items.Item.TheVariants.{Plain, Split}
use Rattle.vx_room.specs.declared.items.ClusteredItem.{ClusteredItem}
use Rattle.vx_room.specs.Items.{unit_of_item, is_observable_item, is_split, general_reads, takes_port, writes_general}
use Rattle.vx_room.specs.Room.{source_by, read_clusters, is_at, count_at, needs, reads_at, count_in, has_room_at, stands_well, is_cluster, stand_well, has_room}

-- the item with every load dismissible
abbrev pub all_dismissed : Item → Item
all_dismissed (Plain op) = Plain (dismissed op)
all_dismissed (Split p) = Split p

abbrev pub erased : ClusteredItem → ClusteredItem
erased x = record { cluster = x.cluster; item = all_dismissed x.item }

-- it needs the same

record SameNeeds (i j : Item) : Type 0 where
  unit : unit_of_item j ≡ unit_of_item i
  written : writes_general j ≡ writes_general i
  split : is_split j ≡ is_split i
  observable : is_observable_item j ≡ is_observable_item i
  reads : general_reads j ≡ general_reads i
  source : (homes : Homes) (k : ℕ) → source_by homes k j ≡ source_by homes k i

itself : (i : Item) → SameNeeds i i
itself i = record { unit = refl; written = refl; split = refl; observable = refl; reads = refl; source = λ homes k. refl }

same_needs : (i : Item) → SameNeeds i (all_dismissed i)
same_needs (Plain (Load v a p d)) = record { unit = refl; written = refl; split = refl; observable = refl; reads = refl; source = λ homes k. refl }
same_needs (Plain op) = itself (Plain op)
same_needs (Split p) = itself (Split p)

-- lists

count_same : {X : Type 0} (p : X → Bool) (f : X → X) → ((x : X) → p (f x) ≡ p x) → (xs : List X) → count_by p (map f xs) ≡ count_by p xs
count_same p f h [] = refl
count_same p f h (x ∷ xs) =
    count_by-cons p (f x) (map f xs) ∙ ap (λ b. cond b 1 0 + count_by p (map f xs)) (h x) ∙ ap (λ n. cond (p x) 1 0 + n) (count_same p f h xs) ∙ sym (count_by-cons p x xs)

all_same : {X : Type 0} (p : X → Bool) (f : X → X) → ((x : X) → p (f x) ≡ p x) → (xs : List X) → list_all p (map f xs) ≡ list_all p xs
all_same p f h [] = refl
all_same p f h (x ∷ xs) = ap (λ b. b && list_all p (map f xs)) (h x) ∙ ap (λ b. p x && b) (all_same p f h xs)

flat_same : {X Y : Type 0} (g : X → List Y) (f : X → X) → ((x : X) → g (f x) ≡ g x) → (xs : List X) → flat_map g (map f xs) ≡ flat_map g xs
flat_same g f h [] = refl
flat_same g f h (x ∷ xs) = ap (λ z. z ++ flat_map g (map f xs)) (h x) ∙ ap (λ z. g x ++ z) (flat_same g f h xs)

-- room

module _ (m : Numbers) (homes : Homes) where
  clusters_same : (x : ClusteredItem) → read_clusters homes (erased x) ≡ read_clusters homes x
  clusters_same x =
      let n = same_needs x.item in
      λ i. map (λ y. n.source homes x.cluster i) (filter takes_port (n.reads i))

  well_same : (x : ClusteredItem) → stands_well m (erased x) ≡ stands_well m x
  well_same x =
      let n = same_needs x.item in
      let before = stands_well m x in
      rw (n.split, n.observable) refl

  pub room_alike : (xs : List ClusteredItem) → has_room m homes (map erased xs) ≡ has_room m homes xs
  room_alike xs =
      let sources : flat_map (read_clusters homes) (map erased xs) ≡ flat_map (read_clusters homes) xs = flat_same (read_clusters homes) erased clusters_same xs in
      let stand : stand_well m homes (map erased xs) ≡ stand_well m homes xs = ap (λ b. b && list_all (is_cluster m) (flat_map (read_clusters homes) (map erased xs))) (all_same (stands_well m) erased well_same xs) ∙ ap (λ z. list_all (stands_well m) xs && list_all (is_cluster m) z) sources in
      let copies : count_in (needs Copies) (map erased xs) ≡ count_in (needs Copies) xs = in_all (needs Copies) (λ i. needed Copies i) in
      let splits : count_in is_split (map erased xs) ≡ count_in is_split xs = in_all is_split (λ i. (same_needs i).split) in
      let observable : count_in is_observable_item (map erased xs) ≡ count_in is_observable_item xs = in_all is_observable_item (λ i. (same_needs i).observable) in
      λ i. is_machine m && stand i && all_below m.clusters (λ k. each sources k i) && nat_le (copies i) m.copy_paths && nat_le (splits i) m.branches && nat_le (observable i) 1
    where
      needed : (u : UnitKind) (i : Item) → needs u (all_dismissed i) ≡ needs u i
      needed u i = ap (λ z. same_unit z u) (same_needs i).unit

      in_all : (p : Item → Bool) → ((i : Item) → p (all_dismissed i) ≡ p i) → count_in p (map erased xs) ≡ count_in p xs
      in_all p h = count_same (λ (x : ClusteredItem). p x.item) erased (λ x. h x.item) xs

      at : (k : ℕ) (p : Item → Bool) → ((i : Item) → p (all_dismissed i) ≡ p i) → count_at k p (map erased xs) ≡ count_at k p xs
      at k p h = count_same (λ (x : ClusteredItem). (x.cluster == k) && p x.item) erased (λ x. ap (λ b. (x.cluster == k) && b) (h x.item)) xs

      each : flat_map (read_clusters homes) (map erased xs) ≡ flat_map (read_clusters homes) xs → (k : ℕ) → has_room_at m homes (map erased xs) k ≡ has_room_at m homes xs k
      each sources k =
          let all = at k (λ item. true) (λ i. refl) in
          let alus = at k (needs Alu) (needed Alu) in
          let multipliers = at k (needs Multiply) (needed Multiply) in
          let memory = at k (needs Memory) (needed Memory) in
          let reads : reads_at homes k (map erased xs) ≡ reads_at homes k xs = ap (count_by (is_at k)) sources in
          let writes = at k writes_general (λ i. (same_needs i).written) in
          λ i. nat_le (all i) m.issue && nat_le (alus i) m.alus && nat_le (multipliers i) m.multipliers && nat_le (memory i) m.memory_units && nat_le (reads i) m.read_ports && nat_le (writes i) m.write_ports
