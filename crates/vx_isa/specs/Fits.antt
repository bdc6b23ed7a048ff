-- When a word is well formed for a machine, and when it fits.
use Rattle.std.specs.Prelude.{◌≡◌, ◌↔◌, ◌⊎◌, ◌<◌, ◌≤◌, All, ℕ, zero, suc, Bool, true, false, ◌&&◌, ◌||◌, not, ◌==◌, if◌then◌else◌, nat_lt, nat_le, List, [], ◌∷◌, ◌++◌, count_by}
use Rattle.std.specs.List.{list_all, list_any, flat_map}
use Rattle.vx_isa.specs.declared.operation.Register.{Register}
use Rattle.vx_isa.specs.declared.operation.Register.TheVariants.{General, Branch, Link}
use Rattle.vx_isa.specs.declared.operation.UnitKind.{UnitKind}
use Rattle.vx_isa.specs.declared.operation.UnitKind.TheVariants.{Alu, Multiply, Memory, Copies}
use Rattle.vx_isa.specs.declared.operation.Operation.{Operation}
use Rattle.vx_isa.specs.declared.operation.Operation.TheVariants.{Compute, Move, Select, Load, Store}
use Rattle.vx_isa.specs.Numbers.{Numbers, is_machine, IsMachine}
use Rattle.vx_isa.specs.Operations.{same, is_zero, is_general, cluster_of_register, cluster_of, read_of, reads_of, list_of, destination_of, unit_of, same_unit, is_control, is_lone, is_observable}

-- the destinations of a word, in the order of its list, a register 0 included
abbrev pub destinations : List Operation → List Register
destinations ops = flat_map (λ op. list_of (destination_of op)) ops

-- the operands of a word, repeats kept
abbrev pub operands : List Operation → List Register
operands ops = flat_map reads_of ops

-- a word is bad where a register is a destination twice, an operand stands on a cluster that its operation
-- may not use, or a register number is not below its file's size

abbrev pub is_twice : List Register → Bool
is_twice [] = false
is_twice (r ∷ rs) = list_any (same r) rs || is_twice rs

abbrev pub all_on : ℕ → List Register → Bool
all_on k rs = list_all (λ r. cluster_of_register r == k) rs

-- a move may read any cluster; every other operation names its own cluster alone, and the link register
abbrev pub keeps_to_cluster : Operation → Bool
keeps_to_cluster (Compute k code to a b) = all_on k (to ∷ (read_of a ++ read_of b))
keeps_to_cluster (Move k to a) = to.cluster == k
keeps_to_cluster (Select k to t a b) = all_on k (General to ∷ Branch t ∷ (read_of a ++ read_of b))
keeps_to_cluster (Load k to o r d) = all_on k (General to ∷ General r ∷ [])
keeps_to_cluster (Store k o r a) = all_on k (General r ∷ read_of a)
keeps_to_cluster op = all_on 0 (list_of (destination_of op) ++ reads_of op)

-- a cluster that the machine does not have counts as one without registers
abbrev pub is_in_file : Numbers → Register → Bool
is_in_file m (General r) = nat_lt r.cluster m.clusters && nat_lt r.number m.registers
is_in_file m (Branch r) = nat_lt r.cluster m.clusters && nat_lt r.number m.branch_registers
is_in_file m Link = true

abbrev pub is_bad_word : Numbers → List Operation → Bool
is_bad_word m ops = is_twice (destinations ops) || not (list_all keeps_to_cluster ops) || not (list_all (is_in_file m) (operands ops ++ destinations ops))

-- a word fits where each cluster has the slots, units and ports for it, the machine has the copy paths and the control
-- places, and at most one observable operation is there

abbrev pub count_on : ℕ → (Operation → Bool) → List Operation → ℕ
count_on k p ops = count_by (λ op. (cluster_of op == k) && p op) ops

abbrev pub is_of : UnitKind → Operation → Bool
is_of u op = same_unit (unit_of op) u

-- a copy across takes a read port of its source's cluster, as any operand does; register 0 takes none
abbrev pub takes_read_port : ℕ → Register → Bool
takes_read_port k r = (cluster_of_register r == k) && is_general r && not (is_zero r)

abbrev pub reads_on : ℕ → List Operation → ℕ
reads_on k ops = count_by (takes_read_port k) (operands ops)

abbrev pub takes_write_port : ℕ → Register → Bool
takes_write_port k r = (cluster_of_register r == k) && is_general r

abbrev pub writes_on : ℕ → List Operation → ℕ
writes_on k ops = count_by (takes_write_port k) (destinations ops)

abbrev pub fits_cluster : Numbers → List Operation → ℕ → Bool
fits_cluster m ops k =
    nat_le (count_on k (λ op. true) ops) m.issue && nat_le (count_on k (is_of Alu) ops) m.alus
    && nat_le (count_on k (is_of Multiply) ops) m.multipliers && nat_le (count_on k (is_of Memory) ops) m.memory_units
    && nat_le (reads_on k ops) m.read_ports && nat_le (writes_on k ops) m.write_ports

abbrev pub all_below : ℕ → (ℕ → Bool) → Bool
all_below zero p = true
all_below (suc n) p = all_below n p && p n

-- each operation and each register stands on a cluster that the machine has
abbrev pub stands_on : Numbers → List Operation → Bool
stands_on m ops = list_all (λ op. nat_lt (cluster_of op) m.clusters) ops && list_all (is_in_file m) (operands ops ++ destinations ops)

-- at most as many control operations as the machine has branches; where there are two, both are `br` or `brf`
abbrev pub fits_control : Numbers → List Operation → Bool
fits_control m ops = nat_le (count_by is_control ops) m.branches && (nat_le (count_by is_control ops) 1 || list_all (λ op. not (is_lone op)) ops)

abbrev pub fits : Numbers → List Operation → Bool
fits m ops =
    is_machine m && stands_on m ops && all_below m.clusters (fits_cluster m ops)
    && nat_le (count_by (is_of Copies) ops) m.copy_paths && fits_control m ops && nat_le (count_by is_observable ops) 1

-- the same in words

-- what cluster k has of something of which each cluster of the machine has n: a cluster that is not there has none
abbrev pub has : Numbers → ℕ → ℕ → ℕ
has m k n = if nat_lt k m.clusters then n else 0

-- the number of a register is below the size of its file
abbrev pub IsInFile : Numbers → Register → Type 0
IsInFile m (General r) = r.number < has m r.cluster m.registers
IsInFile m (Branch r) = r.number < has m r.cluster m.branch_registers
IsInFile m Link = Unit {0}

-- a word fits a machine; control and observable operations have no cluster of their own and stand on cluster 0
pub record FitsMachine (m : Numbers) (ops : List Operation) : Type 0 where
  pub ranges : IsMachine m
  pub slots : (k : ℕ) → count_on k (λ op. true) ops ≤ has m k m.issue
  pub alus : (k : ℕ) → count_on k (is_of Alu) ops ≤ has m k m.alus
  pub multipliers : (k : ℕ) → count_on k (is_of Multiply) ops ≤ has m k m.multipliers
  pub memory_units : (k : ℕ) → count_on k (is_of Memory) ops ≤ has m k m.memory_units
  pub read_ports : (k : ℕ) → reads_on k ops ≤ has m k m.read_ports
  pub write_ports : (k : ℕ) → writes_on k ops ≤ has m k m.write_ports
  pub registers : All (IsInFile m) (operands ops ++ destinations ops)
  pub copies : count_by (is_of Copies) ops ≤ m.copy_paths
  pub control : count_by is_control ops ≤ m.branches
  pub lone : (count_by is_control ops ≤ 1) ⊎ All (λ op. is_lone op ≡ false) ops
  pub observable : count_by is_observable ops ≤ 1

-- the test means what the words say, at every machine and every word
abbrev pub FitsInWords : Type 0
FitsInWords = (m : Numbers) (ops : List Operation) → (fits m ops ≡ true) ↔ FitsMachine m ops
