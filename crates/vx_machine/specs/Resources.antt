-- What words take of a machine and what a machine has: a number for each of its resources.
use Rattle.std.specs.Prelude.{◌≡◌, ◌↔◌, ◌⊎◌, ◌≤◌, ◌+◌, All, ℕ, Bool, true, false, ◌&&◌, ◌==◌, if◌then◌else◌, List, [], ◌∷◌, ◌++◌, count_by}
use Rattle.vx_isa.specs.declared.operation.UnitKind.{UnitKind}
use Rattle.vx_isa.specs.declared.operation.UnitKind.TheVariants.{Alu, Multiply, Memory, Copies, Control}
use Rattle.vx_isa.specs.declared.operation.Operation.{Operation}
use Rattle.vx_isa.specs.Numbers.{Numbers, IsMachine}
use Rattle.vx_isa.specs.Operations.{cluster_of, reads_of, list_of, destination_of, is_control, is_lone, is_observable}
use Rattle.vx_isa.specs.Fits.{operands, destinations, is_of, takes_read_port, takes_write_port, has, IsInFile, fits}

-- issue slots, units and ports of a cluster; copy paths, control places and the one observable operation of a word
pub data Resource : Type 0 where
  Slots : ℕ → Resource
  Alus : ℕ → Resource
  Multipliers : ℕ → Resource
  MemoryUnits : ℕ → Resource
  ReadPorts : ℕ → Resource
  WritePorts : ℕ → Resource
  CopyPaths : Resource
  ControlPlaces : Resource
  Observables : Resource

-- what a word may take of a machine; a cluster that is not there has nothing
abbrev pub capacity : Numbers → Resource → ℕ
capacity m (Slots k) = has m k m.issue
capacity m (Alus k) = has m k m.alus
capacity m (Multipliers k) = has m k m.multipliers
capacity m (MemoryUnits k) = has m k m.memory_units
capacity m (ReadPorts k) = has m k m.read_ports
capacity m (WritePorts k) = has m k m.write_ports
capacity m CopyPaths = m.copy_paths
capacity m ControlPlaces = m.branches
capacity m Observables = 1

-- how many units of a kind a machine has: copy paths and control places are the machine's, the others each cluster's
abbrev pub units_of : Numbers → UnitKind → ℕ
units_of m Alu = m.alus
units_of m Multiply = m.multipliers
units_of m Memory = m.memory_units
units_of m Copies = m.copy_paths
units_of m Control = m.branches

-- so much is there of each resource
abbrev pub Covers : (Resource → ℕ) → (Resource → ℕ) → Type 0
Covers there need = (r : Resource) → need r ≤ there r

-- what all of a list take together, where each takes so much
abbrev pub sum_of : {X : Type 0} → (X → Resource → ℕ) → List X → Resource → ℕ
sum_of takes [] r = 0
sum_of takes (x ∷ xs) r = takes x r + sum_of takes xs r

abbrev pub one_where : Bool → ℕ
one_where b = if b then 1 else 0

-- what an operation takes
abbrev pub takes : Operation → Resource → ℕ
takes op (Slots k) = one_where ((cluster_of op == k) && true)
takes op (Alus k) = one_where ((cluster_of op == k) && is_of Alu op)
takes op (Multipliers k) = one_where ((cluster_of op == k) && is_of Multiply op)
takes op (MemoryUnits k) = one_where ((cluster_of op == k) && is_of Memory op)
takes op (ReadPorts k) = count_by (takes_read_port k) (reads_of op)
takes op (WritePorts k) = count_by (takes_write_port k) (list_of (destination_of op))
takes op CopyPaths = one_where (is_of Copies op)
takes op ControlPlaces = one_where (is_control op)
takes op Observables = one_where (is_observable op)

-- the machine has what the operations take together and the registers that they name, and none of several control operations is one
-- that stands alone
pub record IsCovered (m : Numbers) (ops : List Operation) : Type 0 where
  pub ranges : IsMachine m
  pub covers : Covers (capacity m) (sum_of takes ops)
  pub registers : All (IsInFile m) (operands ops ++ destinations ops)
  pub lone : (count_by is_control ops ≤ 1) ⊎ All (λ op. is_lone op ≡ false) ops

-- that is what it means to fit, at every machine and every word
abbrev pub FitsWhereCovered : Type 0
FitsWhereCovered = (m : Numbers) (ops : List Operation) → (fits m ops ≡ true) ↔ IsCovered m ops
