-- What a cluster has left in a word.
use Rattle.std.specs.Prelude.{ℕ, ◌-◌, Bool, true, ◌&&◌, nat_le, List, [], ◌∷◌, count_by}
use Rattle.vx_isa.specs.declared.operation.UnitKind.TheVariants.{Alu, Multiply, Memory}
use Rattle.vx_isa.specs.declared.operation.Operation.{Operation}
use Rattle.vx_isa.specs.Numbers.{Numbers}
use Rattle.vx_isa.specs.Operations.{reads_of, list_of, destination_of}
use Rattle.vx_isa.specs.Fits.{count_on, is_of, takes_read_port, takes_write_port, reads_on, writes_on}
use Rattle.vx_machine.specs.declared.left.Left.{Left}

-- what each cluster of the machine has
abbrev pub limits : Numbers → Left
limits m = record { slots = m.issue; alus = m.alus; multipliers = m.multipliers; memory_units = m.memory_units; read_ports = m.read_ports; write_ports = m.write_ports }

abbrev pub covers : Left → Left → Bool
covers l n =
    nat_le n.slots l.slots && nat_le n.alus l.alus && nat_le n.multipliers l.multipliers && nat_le n.memory_units l.memory_units
    && nat_le n.read_ports l.read_ports && nat_le n.write_ports l.write_ports

abbrev pub less : Left → Left → Left
less l n = record {
  slots = l.slots - n.slots;
  alus = l.alus - n.alus;
  multipliers = l.multipliers - n.multipliers;
  memory_units = l.memory_units - n.memory_units;
  read_ports = l.read_ports - n.read_ports;
  write_ports = l.write_ports - n.write_ports;
}

-- what each takes, one by one, is no more than is left
abbrev pub fits_left : {X : Type 0} → (X → Left) → Left → List X → Bool
fits_left takes l [] = true
fits_left takes l (x ∷ xs) = covers l (takes x) && fits_left takes (less l (takes x)) xs

-- what an operation takes of cluster k
abbrev pub need_of : ℕ → Operation → Left
need_of k op = record {
  slots = count_on k (λ op. true) (op ∷ []);
  alus = count_on k (is_of Alu) (op ∷ []);
  multipliers = count_on k (is_of Multiply) (op ∷ []);
  memory_units = count_on k (is_of Memory) (op ∷ []);
  read_ports = count_by (takes_read_port k) (reads_of op);
  write_ports = count_by (takes_write_port k) (list_of (destination_of op));
}

-- what operations take of it together
abbrev pub total : ℕ → List Operation → Left
total k ops = record {
  slots = count_on k (λ op. true) ops;
  alus = count_on k (is_of Alu) ops;
  multipliers = count_on k (is_of Multiply) ops;
  memory_units = count_on k (is_of Memory) ops;
  read_ports = reads_on k ops;
  write_ports = writes_on k ops;
}
