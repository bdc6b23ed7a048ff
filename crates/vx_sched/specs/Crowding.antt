-- A test that is cheaper than that for room: a row that takes all the slots or all the units that an item needs on its cluster,
-- or all the copy paths, has no room for it.
use Rattle.std.specs.Prelude.{◌||◌, ◌==◌, ℕ, Bool, false, nat_le, List, count_by}
use Rattle.vx_isa.specs.declared.operation.UnitKind.{UnitKind}
use Rattle.vx_isa.specs.declared.operation.UnitKind.TheVariants.{Copies, Control}
use Rattle.vx_isa.specs.Numbers.{Numbers}
use Rattle.vx_machine.specs.Resources.{units_of}
use Rattle.vx_room.specs.declared.items.ClusteredItem.{ClusteredItem}
use Rattle.vx_room.specs.Items.{unit_of_item}
use Rattle.vx_room.specs.Room.{count_at, count_in, needs}

-- how many items stand on the cluster
abbrev pub slots_at : ℕ → List ClusteredItem → ℕ
slots_at k row = count_by (λ x. x.cluster == k) row

-- the row takes all units of this kind that there are for a cluster
abbrev pub takes_all : Numbers → UnitKind → (cluster : ℕ) → List ClusteredItem → Bool
takes_all m Copies k row = nat_le m.copy_paths (count_in (needs Copies) row)
takes_all m Control k row = false
takes_all m unit k row = nat_le (units_of m unit) (count_at k (needs unit) row)

abbrev pub is_crowded : Numbers → List ClusteredItem → ClusteredItem → Bool
is_crowded m row x = nat_le m.issue (slots_at x.cluster row) || takes_all m (unit_of_item x.item) x.cluster row
