-- When operations on registers need no more of a machine than items on values.
use Rattle.std.specs.Prelude.{◌≡◌, ◌⊎◌, ◌≤◌, All, ℕ, true, false, ◌&&◌, ◌==◌, if◌then◌else◌, List, [], ◌∷◌, ◌++◌, count_by}
use Rattle.vx_flow.specs.declared.trace.Homes.{Homes}
use Rattle.vx_isa.specs.declared.operation.Operation.{Operation}
use Rattle.vx_isa.specs.Numbers.{Numbers}
use Rattle.vx_isa.specs.Operations.{cluster_of, reads_of, list_of, destination_of, unit_of, is_lone, is_observable}
use Rattle.vx_isa.specs.Fits.{operands, destinations, takes_read_port, takes_write_port, IsInFile, FitsMachine}
use Rattle.vx_room.specs.declared.items.ClusteredItem.{ClusteredItem}
use Rattle.vx_room.specs.Items.{unit_of_item, is_observable_item, writes_general}
use Rattle.vx_room.specs.Room.{is_at, read_clusters, has_room}

-- the operation stands where the item does and needs the same unit, and no port that the item does not take
pub record Needs (homes : Homes) (x : ClusteredItem) (op : Operation) : Type 0 where
  pub cluster : cluster_of op ≡ x.cluster
  pub unit : unit_of op ≡ unit_of_item x.item
  pub observable : is_observable op ≡ is_observable_item x.item
  pub reads : (k : ℕ) → count_by (takes_read_port k) (reads_of op) ≤ count_by (is_at k) (read_clusters homes x)
  pub writes : (k : ℕ) → count_by (takes_write_port k) (list_of (destination_of op)) ≤ (if (x.cluster == k) && writes_general x.item then 1 else 0)

-- one operation for each item, in order
abbrev pub NeedsEach : Homes → List ClusteredItem → List Operation → Type 0
NeedsEach homes [] [] = Unit {0}
NeedsEach homes (x ∷ xs) (op ∷ ops) = Needs homes x op × NeedsEach homes xs ops
NeedsEach homes xs ops = ⊥

-- a word of such operations fits where the items have room and the registers are there, and on a machine of two branches where no
-- control operation but branches is among them
abbrev pub FitsByRoom : Type 0
FitsByRoom =
    (m : Numbers) (homes : Homes) (xs : List ClusteredItem) (ops : List Operation) → has_room m homes xs ≡ true → NeedsEach homes xs ops → (m.branches ≡ 1) ⊎ All (λ op. is_lone op ≡ false) ops →
    All (IsInFile m) (operands ops ++ destinations ops) → FitsMachine m ops
