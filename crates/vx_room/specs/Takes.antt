-- What items take of the resources of a machine, and room by it.
use Rattle.std.specs.Prelude.{◌≡◌, ◌↔◌, ◌⊎◌, All, ℕ, true, false, ◌&&◌, ◌==◌, List, count_by}
use Rattle.std.specs.List.{flat_map}
use Rattle.vx_flow.specs.declared.trace.Homes.{Homes}
use Rattle.vx_isa.specs.declared.operation.UnitKind.TheVariants.{Alu, Multiply, Memory, Copies}
use Rattle.vx_isa.specs.Numbers.{Numbers, IsMachine}
use Rattle.vx_machine.specs.Resources.{Resource, Slots, Alus, Multipliers, MemoryUnits, ReadPorts, WritePorts, CopyPaths, ControlPlaces, Observables, capacity, Covers, sum_of, one_where}
use Rattle.vx_room.specs.declared.items.ClusteredItem.{ClusteredItem}
use Rattle.vx_room.specs.Items.{is_observable_item, is_split, writes_general}
use Rattle.vx_room.specs.Room.{is_at, read_clusters, needs, has_room, IsCluster}

-- what an item takes; a copy across takes a read port where its operand has its home
abbrev pub takes : Homes → ClusteredItem → Resource → ℕ
takes homes x (Slots k) = one_where ((x.cluster == k) && true)
takes homes x (Alus k) = one_where ((x.cluster == k) && needs Alu x.item)
takes homes x (Multipliers k) = one_where ((x.cluster == k) && needs Multiply x.item)
takes homes x (MemoryUnits k) = one_where ((x.cluster == k) && needs Memory x.item)
takes homes x (ReadPorts k) = count_by (is_at k) (read_clusters homes x)
takes homes x (WritePorts k) = one_where ((x.cluster == k) && writes_general x.item)
takes homes x CopyPaths = one_where (needs Copies x.item)
takes homes x ControlPlaces = one_where (is_split x.item)
takes homes x Observables = one_where (is_observable_item x.item)

-- the machine has what the items take together, what they read has a cluster, and splits and observable operations stand on cluster 0
pub record IsCovered (m : Numbers) (homes : Homes) (xs : List ClusteredItem) : Type 0 where
  pub ranges : IsMachine m
  pub covers : Covers (capacity m) (sum_of (takes homes) xs)
  pub sources : All (IsCluster m) (flat_map (read_clusters homes) xs)
  pub on_cluster_0 : All (λ x. (x.cluster ≡ 0) ⊎ ((is_split x.item ≡ false) × (is_observable_item x.item ≡ false))) xs

-- that is what it means to have room, at every machine and every word
abbrev pub RoomWhereCovered : Type 0
RoomWhereCovered = (m : Numbers) (homes : Homes) (xs : List ClusteredItem) → (has_room m homes xs ≡ true) ↔ IsCovered m homes xs
