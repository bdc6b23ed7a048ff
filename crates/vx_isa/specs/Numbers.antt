-- A machine, as the numbers of its description. All counts but clusters, copy_paths and branches are per cluster.
use Rattle.std.specs.Prelude.{◌≡◌, ℕ, ◌+◌, ◌*◌, Bool, ◌&&◌, nat_le, true, refl}

pub record Numbers : Type 0 where
  pub clusters : ℕ
  pub issue : ℕ
  pub alus : ℕ
  pub multipliers : ℕ
  pub memory_units : ℕ
  pub registers : ℕ
  pub branch_registers : ℕ
  pub read_ports : ℕ
  pub write_ports : ℕ
  pub copy_paths : ℕ
  pub latency_alu : ℕ
  pub latency_compare : ℕ
  pub latency_multiply : ℕ
  pub latency_load : ℕ
  pub latency_divide : ℕ
  pub latency_copy : ℕ
  -- the branches of one word
  pub branches : ℕ

abbrev pub is_between : ℕ → ℕ → ℕ → Bool
is_between low high n = nat_le low n && nat_le n high

-- each number is in the range of its field
abbrev pub is_machine : Numbers → Bool
is_machine m =
    is_between 1 4 m.clusters && is_between 1 4 m.issue && is_between 1 4 m.alus && is_between 1 4 m.multipliers
    && is_between 1 2 m.memory_units && is_between 16 64 m.registers && is_between (m.issue + 1) 8 m.branch_registers
    && is_between 2 (2 * m.issue) m.read_ports && is_between 1 m.issue m.write_ports && is_between 1 8 m.copy_paths
    && is_between 1 16 m.latency_alu && is_between 1 16 m.latency_compare && is_between 1 16 m.latency_multiply
    && is_between 1 16 m.latency_load && is_between 1 16 m.latency_divide && is_between 1 16 m.latency_copy
    && is_between 1 2 m.branches

abbrev pub IsMachine : Numbers → Type 0
IsMachine m = is_machine m ≡ true

-- the default machine with n clusters
abbrev pub vex : ℕ → Numbers
vex n = record {
  clusters = n;
  issue = 4;
  alus = 4;
  multipliers = 2;
  memory_units = 1;
  registers = 64;
  branch_registers = 8;
  read_ports = 8;
  write_ports = 4;
  copy_paths = 2;
  latency_alu = 1;
  latency_compare = 2;
  latency_multiply = 2;
  latency_load = 3;
  latency_divide = 8;
  latency_copy = 1;
  branches = 1;
}

-- a narrow machine: one operation a word
abbrev pub narrow : Numbers
narrow = record {
  clusters = 1;
  issue = 1;
  alus = 1;
  multipliers = 1;
  memory_units = 1;
  registers = 16;
  branch_registers = 2;
  read_ports = 2;
  write_ports = 1;
  copy_paths = 1;
  latency_alu = 1;
  latency_compare = 2;
  latency_multiply = 2;
  latency_load = 3;
  latency_divide = 8;
  latency_copy = 1;
  branches = 1;
}

vex_is_machine : is_machine (vex 1) ≡ true
vex_is_machine = refl

widest_is_machine : is_machine (vex 4) ≡ true
widest_is_machine = refl

narrow_is_machine : is_machine narrow ≡ true
narrow_is_machine = refl
