-- A word fits exactly where the machine covers what its operations take together.
use Rattle.std.proofs.Common.{◌≡◌, ℕ, ◌≤◌, Bool, ◌&&◌, ◌==◌, true, List, [], ◌∷◌, refl, sym, subst, count_by, arith}
use Rattle.std.specs.List.{flat_map}
use Rattle.vx_isa.specs.declared.operation.UnitKind.TheVariants.{Alu, Multiply, Memory, Copies}
use Rattle.vx_isa.specs.declared.operation.Operation.{Operation}
use Rattle.vx_isa.specs.Numbers.{Numbers}
use Rattle.vx_isa.specs.Operations.{cluster_of, reads_of, list_of, destination_of, is_control, is_observable}
use Rattle.vx_isa.specs.Fits.{is_of, takes_read_port, takes_write_port, reads_on, writes_on, count_on, FitsMachine}
use Rattle.vx_isa.proofs.Lists.{count_by-cons, count_by-append}
use Rattle.vx_isa.proofs.FitsLaw.{fits_in_words}
use Rattle.vx_machine.specs.Resources.{Resource, Slots, Alus, Multipliers, MemoryUnits, ReadPorts, WritePorts, CopyPaths, ControlPlaces, Observables, capacity, sum_of, one_where, takes, IsCovered, FitsWhereCovered}

-- a sum of ones is a count
pub sum_counts : {X : Type 0} (takes : X → Resource → ℕ) (r : Resource) (p : X → Bool) → ((x : X) → takes x r ≡ one_where (p x)) → (xs : List X) → sum_of takes xs r ≡ count_by p xs
sum_counts takes r p each [] = refl
sum_counts takes r p each (x ∷ xs) =
    let one = each x in
    let more = sum_counts takes r p each xs in
    let cons = count_by-cons p x xs in
    omega arith

-- so is a sum of counts
pub sum_rows : {X Y : Type 0} (takes : X → Resource → ℕ) (r : Resource) (p : Y → Bool) (f : X → List Y) → ((x : X) → takes x r ≡ count_by p (f x)) → (xs : List X) → sum_of takes xs r ≡ count_by p (flat_map f xs)
sum_rows takes r p f each [] = refl
sum_rows takes r p f each (x ∷ xs) =
    let one = each x in
    let more = sum_rows takes r p f each xs in
    let append = count_by-append p (f x) (flat_map f xs) in
    omega arith

-- what operations take together of each resource, as it was counted
abbrev counted : List Operation → Resource → ℕ
counted ops (Slots k) = count_on k (λ op. true) ops
counted ops (Alus k) = count_on k (is_of Alu) ops
counted ops (Multipliers k) = count_on k (is_of Multiply) ops
counted ops (MemoryUnits k) = count_on k (is_of Memory) ops
counted ops (ReadPorts k) = reads_on k ops
counted ops (WritePorts k) = writes_on k ops
counted ops CopyPaths = count_by (is_of Copies) ops
counted ops ControlPlaces = count_by is_control ops
counted ops Observables = count_by is_observable ops

same : (ops : List Operation) (r : Resource) → sum_of takes ops r ≡ counted ops r
same ops (Slots k) = sum_counts takes (Slots k) (λ op. (cluster_of op == k) && true) (λ op. refl) ops
same ops (Alus k) = sum_counts takes (Alus k) (λ op. (cluster_of op == k) && is_of Alu op) (λ op. refl) ops
same ops (Multipliers k) = sum_counts takes (Multipliers k) (λ op. (cluster_of op == k) && is_of Multiply op) (λ op. refl) ops
same ops (MemoryUnits k) = sum_counts takes (MemoryUnits k) (λ op. (cluster_of op == k) && is_of Memory op) (λ op. refl) ops
same ops (ReadPorts k) = sum_rows takes (ReadPorts k) (takes_read_port k) reads_of (λ op. refl) ops
same ops (WritePorts k) = sum_rows takes (WritePorts k) (takes_write_port k) (λ op. list_of (destination_of op)) (λ op. refl) ops
same ops CopyPaths = sum_counts takes CopyPaths (is_of Copies) (λ op. refl) ops
same ops ControlPlaces = sum_counts takes ControlPlaces is_control (λ op. refl) ops
same ops Observables = sum_counts takes Observables is_observable (λ op. refl) ops

within : (m : Numbers) (ops : List Operation) → FitsMachine m ops → (r : Resource) → counted ops r ≤ capacity m r
within m ops f (Slots k) = f.slots k
within m ops f (Alus k) = f.alus k
within m ops f (Multipliers k) = f.multipliers k
within m ops f (MemoryUnits k) = f.memory_units k
within m ops f (ReadPorts k) = f.read_ports k
within m ops f (WritePorts k) = f.write_ports k
within m ops f CopyPaths = f.copies
within m ops f ControlPlaces = f.control
within m ops f Observables = f.observable

covered : (m : Numbers) (ops : List Operation) → FitsMachine m ops → IsCovered m ops
covered m ops f = record { ranges = f.ranges; covers = λ r. subst (λ n. n ≤ capacity m r) (sym (same ops r)) (within m ops f r); registers = f.registers; lone = f.lone }

fitting : (m : Numbers) (ops : List Operation) → IsCovered m ops → FitsMachine m ops
fitting m ops c =
    let at : (r : Resource) → counted ops r ≤ capacity m r = λ r. subst (λ n. n ≤ capacity m r) (same ops r) (c.covers r) in
    record {
      ranges = c.ranges;
      slots = λ k. at (Slots k);
      alus = λ k. at (Alus k);
      multipliers = λ k. at (Multipliers k);
      memory_units = λ k. at (MemoryUnits k);
      read_ports = λ k. at (ReadPorts k);
      write_ports = λ k. at (WritePorts k);
      registers = c.registers;
      copies = at CopyPaths;
      control = at ControlPlaces;
      lone = c.lone;
      observable = at Observables;
    }

pub fits_where_covered : FitsWhereCovered
fits_where_covered m ops = (λ h. covered m ops ((fits_in_words m ops).0 h), λ c. (fits_in_words m ops).1 (fitting m ops c))
