use Rattle.std.proofs.Common.{◌≡◌}
use Rattle.toml.specs.View.{table_view}
use Rattle.vx_isa.specs.Numbers.{Numbers}
use Rattle.vx_machine.specs.Descriptions.{numbers_of}
use Rattle.vx_machine.proofs.Ranges.{in_ranges_as}
use Rattle.vx_machine.proofs.description.machine_of.Goals as goal

pub invariant_of-result : goal.invariant_of-result
invariant_of-result c =
    let m : Numbers = record {
      clusters = c.number_of.result;
      issue = c.number_of-2.result;
      alus = c.number_of-3.result;
      multipliers = c.number_of-4.result;
      memory_units = c.number_of-5.result;
      registers = c.number_of-6.result;
      branch_registers = c.number_of-7.result;
      read_ports = c.number_of-8.result;
      write_ports = c.number_of-9.result;
      copy_paths = c.number_of-10.result;
      latency_alu = c.number_of-11.result;
      latency_compare = c.number_of-12.result;
      latency_multiply = c.number_of-13.result;
      latency_load = c.number_of-14.result;
      latency_divide = c.number_of-15.result;
      latency_copy = c.number_of-16.result;
      branches = c.branches_of.result;
    } in
    let same : m ≡ numbers_of (table_view c.args.table.now) = λ i. record {
      clusters = c.number_of.ensures i;
      issue = c.number_of-2.ensures i;
      alus = c.number_of-3.ensures i;
      multipliers = c.number_of-4.ensures i;
      memory_units = c.number_of-5.ensures i;
      registers = c.number_of-6.ensures i;
      branch_registers = c.number_of-7.ensures i;
      read_ports = c.number_of-8.ensures i;
      write_ports = c.number_of-9.ensures i;
      copy_paths = c.number_of-10.ensures i;
      latency_alu = c.number_of-11.ensures i;
      latency_compare = c.number_of-12.ensures i;
      latency_multiply = c.number_of-13.ensures i;
      latency_load = c.number_of-14.ensures i;
      latency_divide = c.number_of-15.ensures i;
      latency_copy = c.number_of-16.ensures i;
      branches = c.branches_of.ensures i;
    } in
    in_ranges_as (table_view c.args.table.now) m same c.requires
