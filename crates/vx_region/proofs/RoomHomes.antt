-- Room for a word of a region depends on its operations and splits, and on where the operands of its copies across stand.
use Rattle.std.proofs.Common.{◌≡◌, inl, inr, ℕ, true, ◌&&◌, Option, List, [], ◌∷◌, ◌++◌, map, count_by, nat_le, refl, sym, ap, ◌∙◌}
use Rattle.std.specs.List.{list_all, flat_map, filter}
use Rattle.vx_flow.specs.declared.graph.Op.{Op}
use Rattle.vx_flow.specs.declared.graph.Op.TheVariants.{Across}
use Rattle.vx_flow.specs.declared.trace.Homes.{Homes}
use Rattle.vx_flow.specs.Effects.{IsIn}
use Rattle.vx_isa.specs.declared.operation.UnitKind.TheVariants.{Alu, Multiply, Memory, Copies}
use Rattle.vx_isa.specs.Numbers.{Numbers, is_machine}
use Rattle.vx_isa.specs.Fits.{all_below}
use Rattle.vx_room.specs.declared.items.Item.TheVariants.{Plain as PlainItem}
use Rattle.vx_room.specs.Items.{is_observable_item, is_split, general_reads, takes_port}
use Rattle.vx_room.specs.Room.{source_by, read_clusters, is_at, count_at, needs, writes_at, count_in, stands_well, is_cluster, has_room}
use Rattle.vx_mixed.specs.declared.region.Item.{Item}
use Rattle.vx_mixed.specs.declared.region.Item.TheVariants.{Plain, Split}
use Rattle.vx_motion.specs.Scheduled.{IsRoom}
use Rattle.vx_mixed.specs.Settled.{has_home}
use Rattle.vx_mixed.specs.Next.{rename}
use Rattle.vx_region.specs.Regions.{item_in, room_in}

renamed_items : (to : ℕ → ℕ → ℕ) (word : List Item) → map item_in (map (rename to) word) ≡ map item_in word
renamed_items to [] = refl
renamed_items to (Plain op cluster ∷ word) = ap (λ z. item_in (Plain op cluster) ∷ z) (renamed_items to word)
renamed_items to (Split p y e d ∷ word) = ap (λ z. item_in (Split p y e d) ∷ z) (renamed_items to word)

abbrev homes_in : List (Option ℕ) → Homes
homes_in clusters = record { clusters = clusters }

module _ (homes homes' : List (Option ℕ)) where
  abbrev Same : List Item → Type 0
  Same word = (v u cluster : ℕ) → IsIn (Plain (Across v u) cluster) word → has_home homes' u ≡ has_home homes u

  source_same : (op : Op) (cluster : ℕ) (k : ℕ) → ((v u : ℕ) → op ≡ Across v u → has_home homes' u ≡ has_home homes u) → source_by (homes_in homes') k (PlainItem op) ≡ source_by (homes_in homes) k (PlainItem op)
  source_same (Across v u) cluster k h = h v u refl
  source_same op cluster k h = refl

  clusters_same : (item : Item) (word : List Item) → Same (item ∷ word) → read_clusters (homes_in homes') (item_in item) ≡ read_clusters (homes_in homes) (item_in item)
  clusters_same (Plain op cluster) word h =
      let s = source_same op cluster cluster (λ v u e. h v u cluster (inl (ap (λ z. Plain z cluster) (sym e)))) in
      ap (λ c. map (λ y. c) (filter takes_port (general_reads (PlainItem op)))) s
  clusters_same (Split p y e d) word h = refl

  all_clusters : (word : List Item) → Same word → flat_map (read_clusters (homes_in homes')) (map item_in word) ≡ flat_map (read_clusters (homes_in homes)) (map item_in word)
  all_clusters [] h = refl
  all_clusters (item ∷ word) h =
      ap (λ z. z ++ flat_map (read_clusters (homes_in homes')) (map item_in word)) (clusters_same item word h)
      ∙ ap (λ z. read_clusters (homes_in homes) (item_in item) ++ z) (all_clusters word (λ v u cluster i. h v u cluster (inr i)))

  room_same : (m : Numbers) (word : List Item) → Same word → has_room m (homes_in homes') (map item_in word) ≡ has_room m (homes_in homes) (map item_in word)
  room_same m word h =
      let xs = map item_in word in
      let c = all_clusters word h in
      λ i. is_machine m && (list_all (stands_well m) xs && list_all (is_cluster m) (c i))
      && all_below m.clusters (λ k. nat_le (count_at k (λ item. true) xs) m.issue && nat_le (count_at k (needs Alu) xs) m.alus && nat_le (count_at k (needs Multiply) xs) m.multipliers && nat_le (count_at k (needs Memory) xs) m.memory_units && nat_le (count_by (is_at k) (c i)) m.read_ports && nat_le (writes_at k xs) m.write_ports)
      && nat_le (count_in (needs Copies) xs) m.copy_paths && nat_le (count_in is_split xs) m.branches && nat_le (count_in is_observable_item xs) 1

pub is_room : (m : Numbers) → IsRoom (room_in m)
is_room m = record {
  edges = λ homes to word. ap (has_room m (homes_in homes)) (renamed_items to word);
  homes = λ homes homes' word h. room_same homes homes' m word h;
}
