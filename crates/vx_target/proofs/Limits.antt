-- The limits of the numbers of every machine.
use Rattle.std.proofs.Common.{◌≤◌, ◌+◌, ◌*◌}
use Rattle.vx_isa.specs.Numbers.{Numbers, IsMachine}
use Rattle.vx_isa.proofs.Ranges.{ranges}

pub record Limits (m : Numbers) : Type 0 where
  pub clusters : 1 ≤ m.clusters
  pub most_clusters : m.clusters ≤ 4
  pub issue : 1 ≤ m.issue
  pub few : m.issue ≤ 4
  pub alus : 1 ≤ m.alus
  pub multipliers : 1 ≤ m.multipliers
  pub memory_units : 1 ≤ m.memory_units
  pub registers : 16 ≤ m.registers
  pub most_registers : m.registers ≤ 64
  pub branches : m.issue + 1 ≤ m.branch_registers
  pub most_branches : m.branch_registers ≤ 8
  pub reads : 2 ≤ m.read_ports
  pub most_reads : m.read_ports ≤ 2 * m.issue
  pub writes : 1 ≤ m.write_ports
  pub copies : 1 ≤ m.copy_paths

pub limits : (m : Numbers) → IsMachine m → Limits m
limits m h =
    let r = ranges m h in
    record {
      clusters = r.clusters.least;
      most_clusters = r.clusters.most;
      issue = r.issue.least;
      few = r.issue.most;
      alus = r.alus.least;
      multipliers = r.multipliers.least;
      memory_units = r.memory_units.least;
      registers = r.registers.least;
      most_registers = r.registers.most;
      branches = r.branch_registers.least;
      most_branches = r.branch_registers.most;
      reads = r.read_ports.least;
      most_reads = r.read_ports.most;
      writes = r.write_ports.least;
      copies = r.copy_paths.least;
    }
