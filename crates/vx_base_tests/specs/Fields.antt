-- The numbers of a machine as one list: its counts, its latencies, and then its branches, in the order of their fields.
use Rattle.std.specs.Prelude.{ℕ, List, [], ◌∷◌}
use Rattle.vx_isa.specs.Numbers.{Numbers}

abbrev pub fields_of : Numbers → List ℕ
fields_of m =
    m.clusters ∷ m.issue ∷ m.alus ∷ m.multipliers ∷ m.memory_units ∷ m.registers ∷ m.branch_registers ∷ m.read_ports ∷ m.write_ports
    ∷ m.copy_paths ∷ m.latency_alu ∷ m.latency_compare ∷ m.latency_multiply ∷ m.latency_load ∷ m.latency_divide ∷ m.latency_copy
    ∷ m.branches ∷ []
