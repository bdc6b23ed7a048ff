-- What items take of a cluster in a word.
use Rattle.std.specs.Prelude.{ℕ, true, List, [], ◌∷◌}
use Rattle.vx_flow.specs.declared.trace.Homes.{Homes}
use Rattle.vx_isa.specs.declared.operation.UnitKind.TheVariants.{Alu, Multiply, Memory}
use Rattle.vx_machine.specs.declared.left.Left.{Left}
use Rattle.vx_room.specs.declared.items.ClusteredItem.{ClusteredItem}
use Rattle.vx_room.specs.Room.{count_at, reads_at, writes_at, needs}

-- what items take of cluster k
abbrev pub total : Homes → ℕ → List ClusteredItem → Left
total homes k xs = record {
  slots = count_at k (λ item. true) xs;
  alus = count_at k (needs Alu) xs;
  multipliers = count_at k (needs Multiply) xs;
  memory_units = count_at k (needs Memory) xs;
  read_ports = reads_at homes k xs;
  write_ports = writes_at k xs;
}

abbrev pub need_of : Homes → ℕ → ClusteredItem → Left
need_of homes k x = total homes k (x ∷ [])
