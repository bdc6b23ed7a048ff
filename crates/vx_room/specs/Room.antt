-- Room: when items, each on its cluster, can stand in one word of a machine. The counts are those by which a word of
-- operations on registers fits; numbers of registers do not come into it.
use Rattle.std.specs.Prelude.{◌≡◌, ◌↔◌, ◌≤◌, ◌⊎◌, All, ℕ, Bool, true, false, ◌&&◌, ◌||◌, not, ◌==◌, nat_lt, nat_le, List, [], ◌∷◌, map, Option, Some, None, slice_index_or, count_by}
use Rattle.std.specs.List.{list_all, flat_map, filter}
use Rattle.vx_flow.specs.declared.graph.Op.TheVariants.{Across}
use Rattle.vx_flow.specs.declared.trace.Homes.{Homes}
use Rattle.vx_isa.specs.declared.operation.UnitKind.{UnitKind}
use Rattle.vx_isa.specs.declared.operation.UnitKind.TheVariants.{Alu, Multiply, Memory, Copies}
use Rattle.vx_isa.specs.Numbers.{Numbers, is_machine, IsMachine}
use Rattle.vx_isa.specs.Operations.{same_unit}
use Rattle.vx_isa.specs.Fits.{all_below, has}
use Rattle.vx_room.specs.declared.items.Item.{Item}
use Rattle.vx_room.specs.declared.items.Item.TheVariants.{Plain}
use Rattle.vx_room.specs.declared.items.ClusteredItem.{ClusteredItem}
use Rattle.vx_room.specs.Items.{unit_of_item, is_observable_item, is_split, general_reads, takes_port, writes_general}

-- the cluster on which a value stands, if it has one
abbrev pub home_of : Homes → ℕ → Option ℕ
home_of homes v = slice_index_or homes.clusters v None

-- the cluster of which an item reads: a copy reads where its operand has its home, every other item on its own
abbrev pub source_by : Homes → ℕ → Item → Option ℕ
source_by homes k (Plain (Across v u)) = home_of homes u
source_by homes k item = Some k

abbrev pub source_of : Homes → ClusteredItem → Option ℕ
source_of homes x = source_by homes x.cluster x.item

-- for each read of a general register the cluster that it takes a port of, repeats kept
abbrev pub read_clusters : Homes → ClusteredItem → List (Option ℕ)
read_clusters homes x = map (λ y. source_of homes x) (filter takes_port (general_reads x.item))

abbrev pub is_at : ℕ → Option ℕ → Bool
is_at k None = false
is_at k (Some c) = c == k

-- counts

abbrev pub count_at : ℕ → (Item → Bool) → List ClusteredItem → ℕ
count_at k p xs = count_by (λ x. (x.cluster == k) && p x.item) xs

abbrev pub needs : UnitKind → Item → Bool
needs u item = same_unit (unit_of_item item) u

abbrev pub reads_at : Homes → ℕ → List ClusteredItem → ℕ
reads_at homes k xs = count_by (is_at k) (flat_map (read_clusters homes) xs)

abbrev pub writes_at : ℕ → List ClusteredItem → ℕ
writes_at k xs = count_at k writes_general xs

abbrev pub count_in : (Item → Bool) → List ClusteredItem → ℕ
count_in p xs = count_by (λ x. p x.item) xs

-- room

abbrev pub has_room_at : Numbers → Homes → List ClusteredItem → ℕ → Bool
has_room_at m homes xs k =
    nat_le (count_at k (λ item. true) xs) m.issue && nat_le (count_at k (needs Alu) xs) m.alus
    && nat_le (count_at k (needs Multiply) xs) m.multipliers && nat_le (count_at k (needs Memory) xs) m.memory_units
    && nat_le (reads_at homes k xs) m.read_ports && nat_le (writes_at k xs) m.write_ports

-- splits and observable operations stand on cluster 0
abbrev pub stands_well : Numbers → ClusteredItem → Bool
stands_well m x = nat_lt x.cluster m.clusters && ((x.cluster == 0) || not (is_split x.item || is_observable_item x.item))

abbrev pub is_cluster : Numbers → Option ℕ → Bool
is_cluster m None = false
is_cluster m (Some c) = nat_lt c m.clusters

abbrev pub stand_well : Numbers → Homes → List ClusteredItem → Bool
stand_well m homes xs = list_all (stands_well m) xs && list_all (is_cluster m) (flat_map (read_clusters homes) xs)

-- each cluster has the slots, units and ports for the items, the machine has the copy paths, and at most as many splits as it has
-- branches and at most one observable operation are there
abbrev pub has_room : Numbers → Homes → List ClusteredItem → Bool
has_room m homes xs =
    is_machine m && stand_well m homes xs && all_below m.clusters (has_room_at m homes xs)
    && nat_le (count_in (needs Copies) xs) m.copy_paths && nat_le (count_in is_split xs) m.branches && nat_le (count_in is_observable_item xs) 1

-- the same in words; a cluster that is not there has nothing

abbrev pub IsCluster : Numbers → Option ℕ → Type 0
IsCluster m c = is_cluster m c ≡ true

pub record HasRoom (m : Numbers) (homes : Homes) (xs : List ClusteredItem) : Type 0 where
  pub ranges : IsMachine m
  pub slots : (k : ℕ) → count_at k (λ item. true) xs ≤ has m k m.issue
  pub alus : (k : ℕ) → count_at k (needs Alu) xs ≤ has m k m.alus
  pub multipliers : (k : ℕ) → count_at k (needs Multiply) xs ≤ has m k m.multipliers
  pub memory_units : (k : ℕ) → count_at k (needs Memory) xs ≤ has m k m.memory_units
  pub read_ports : (k : ℕ) → reads_at homes k xs ≤ has m k m.read_ports
  pub write_ports : (k : ℕ) → writes_at k xs ≤ has m k m.write_ports
  pub sources : All (IsCluster m) (flat_map (read_clusters homes) xs)
  pub on_cluster_0 : All (λ x. (x.cluster ≡ 0) ⊎ ((is_split x.item ≡ false) × (is_observable_item x.item ≡ false))) xs
  pub copies : count_in (needs Copies) xs ≤ m.copy_paths
  pub splits : count_in is_split xs ≤ m.branches
  pub observable : count_in is_observable_item xs ≤ 1

-- the laws of room, each the clause of a public function of this crate

-- the test means what the words say, at every machine and every word
abbrev pub RoomInWords : Type 0
RoomInWords = (m : Numbers) (homes : Homes) (xs : List ClusteredItem) → (has_room m homes xs ≡ true) ↔ HasRoom m homes xs

-- more items never make room: where a word has room, any part of it has
abbrev pub RoomShrinks : Type 0
RoomShrinks = (m : Numbers) (homes : Homes) (keep : ClusteredItem → Bool) (xs : List ClusteredItem) → has_room m homes xs ≡ true → has_room m homes (filter keep xs) ≡ true

-- an item that stands where it may has room by itself, on every machine
abbrev pub RoomAlone : Type 0
RoomAlone = (m : Numbers) (homes : Homes) (x : ClusteredItem) → IsMachine m → stand_well m homes (x ∷ []) ≡ true → has_room m homes (x ∷ []) ≡ true
