-- Items have room exactly where the machine covers what they take together.
use Rattle.std.proofs.Common.{◌≡◌, ℕ, ◌≤◌, ◌&&◌, ◌==◌, true, List, refl, sym, subst}
use Rattle.vx_flow.specs.declared.trace.Homes.{Homes}
use Rattle.vx_isa.specs.declared.operation.UnitKind.TheVariants.{Alu, Multiply, Memory, Copies}
use Rattle.vx_isa.specs.Numbers.{Numbers}
use Rattle.vx_machine.specs.Resources.{Resource, Slots, Alus, Multipliers, MemoryUnits, ReadPorts, WritePorts, CopyPaths, ControlPlaces, Observables, capacity, sum_of}
use Rattle.vx_machine.proofs.Covered.{sum_counts, sum_rows}
use Rattle.vx_room.specs.declared.items.ClusteredItem.{ClusteredItem}
use Rattle.vx_room.specs.Items.{is_observable_item, is_split, writes_general}
use Rattle.vx_room.specs.Room.{is_at, read_clusters, count_at, count_in, needs, reads_at, writes_at, HasRoom}
use Rattle.vx_room.specs.Takes.{takes, IsCovered, RoomWhereCovered}
use Rattle.vx_room.proofs.RoomLaw.{room_in_words}

-- what items take together of each resource, as it was counted
abbrev counted : Homes → List ClusteredItem → Resource → ℕ
counted homes xs (Slots k) = count_at k (λ item. true) xs
counted homes xs (Alus k) = count_at k (needs Alu) xs
counted homes xs (Multipliers k) = count_at k (needs Multiply) xs
counted homes xs (MemoryUnits k) = count_at k (needs Memory) xs
counted homes xs (ReadPorts k) = reads_at homes k xs
counted homes xs (WritePorts k) = writes_at k xs
counted homes xs CopyPaths = count_in (needs Copies) xs
counted homes xs ControlPlaces = count_in is_split xs
counted homes xs Observables = count_in is_observable_item xs

same : (homes : Homes) (xs : List ClusteredItem) (r : Resource) → sum_of (takes homes) xs r ≡ counted homes xs r
same homes xs (Slots k) = sum_counts (takes homes) (Slots k) (λ x. (x.cluster == k) && true) (λ x. refl) xs
same homes xs (Alus k) = sum_counts (takes homes) (Alus k) (λ x. (x.cluster == k) && needs Alu x.item) (λ x. refl) xs
same homes xs (Multipliers k) = sum_counts (takes homes) (Multipliers k) (λ x. (x.cluster == k) && needs Multiply x.item) (λ x. refl) xs
same homes xs (MemoryUnits k) = sum_counts (takes homes) (MemoryUnits k) (λ x. (x.cluster == k) && needs Memory x.item) (λ x. refl) xs
same homes xs (ReadPorts k) = sum_rows (takes homes) (ReadPorts k) (is_at k) (read_clusters homes) (λ x. refl) xs
same homes xs (WritePorts k) = sum_counts (takes homes) (WritePorts k) (λ x. (x.cluster == k) && writes_general x.item) (λ x. refl) xs
same homes xs CopyPaths = sum_counts (takes homes) CopyPaths (λ x. needs Copies x.item) (λ x. refl) xs
same homes xs ControlPlaces = sum_counts (takes homes) ControlPlaces (λ x. is_split x.item) (λ x. refl) xs
same homes xs Observables = sum_counts (takes homes) Observables (λ x. is_observable_item x.item) (λ x. refl) xs

within : (m : Numbers) (homes : Homes) (xs : List ClusteredItem) → HasRoom m homes xs → (r : Resource) → counted homes xs r ≤ capacity m r
within m homes xs f (Slots k) = f.slots k
within m homes xs f (Alus k) = f.alus k
within m homes xs f (Multipliers k) = f.multipliers k
within m homes xs f (MemoryUnits k) = f.memory_units k
within m homes xs f (ReadPorts k) = f.read_ports k
within m homes xs f (WritePorts k) = f.write_ports k
within m homes xs f CopyPaths = f.copies
within m homes xs f ControlPlaces = f.splits
within m homes xs f Observables = f.observable

covered : (m : Numbers) (homes : Homes) (xs : List ClusteredItem) → HasRoom m homes xs → IsCovered m homes xs
covered m homes xs f = record { ranges = f.ranges; covers = λ r. subst (λ n. n ≤ capacity m r) (sym (same homes xs r)) (within m homes xs f r); sources = f.sources; on_cluster_0 = f.on_cluster_0 }

roomy : (m : Numbers) (homes : Homes) (xs : List ClusteredItem) → IsCovered m homes xs → HasRoom m homes xs
roomy m homes xs c =
    let at : (r : Resource) → counted homes xs r ≤ capacity m r = λ r. subst (λ n. n ≤ capacity m r) (same homes xs r) (c.covers r) in
    record {
      ranges = c.ranges;
      slots = λ k. at (Slots k);
      alus = λ k. at (Alus k);
      multipliers = λ k. at (Multipliers k);
      memory_units = λ k. at (MemoryUnits k);
      read_ports = λ k. at (ReadPorts k);
      write_ports = λ k. at (WritePorts k);
      sources = c.sources;
      on_cluster_0 = c.on_cluster_0;
      copies = at CopyPaths;
      splits = at ControlPlaces;
      observable = at Observables;
    }

pub room_where_covered : RoomWhereCovered
room_where_covered m homes xs = (λ h. covered m homes xs ((room_in_words m homes xs).0 h), λ c. (room_in_words m homes xs).1 (roomy m homes xs c))
