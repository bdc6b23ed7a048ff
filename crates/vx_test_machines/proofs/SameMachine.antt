-- A machine with each number of another one is that one.
use Rattle.std.proofs.Common.{◌≡◌, true}
use Rattle.std.proofs.lemmas.Bool.{and_parts, eqb-true}
use Rattle.vx_isa.specs.Numbers.{Numbers}
use Rattle.vx_test_machines.specs.Kinds.{is_machine_of}

pub same_machine : (wanted m : Numbers) → is_machine_of wanted m ≡ true → m ≡ wanted
same_machine wanted m all =
    let (sixteen, branches) = and_parts _ _ all in
    let (counts, latencies) = and_parts _ _ sixteen in
    let (nine, copy_paths) = and_parts _ _ counts in
    let (eight, write_ports) = and_parts _ _ nine in
    let (seven, read_ports) = and_parts _ _ eight in
    let (six, branch_registers) = and_parts _ _ seven in
    let (five, registers) = and_parts _ _ six in
    let (four, memory_units) = and_parts _ _ five in
    let (three, multipliers) = and_parts _ _ four in
    let (two, alus) = and_parts _ _ three in
    let (clusters, issue) = and_parts _ _ two in
    let (five_latencies, copy) = and_parts _ _ latencies in
    let (four_latencies, divide) = and_parts _ _ five_latencies in
    let (three_latencies, load) = and_parts _ _ four_latencies in
    let (two_latencies, multiply) = and_parts _ _ three_latencies in
    let (alu, compare) = and_parts _ _ two_latencies in
    λ i. record {
      clusters = eqb-true m.clusters wanted.clusters clusters i;
      issue = eqb-true m.issue wanted.issue issue i;
      alus = eqb-true m.alus wanted.alus alus i;
      multipliers = eqb-true m.multipliers wanted.multipliers multipliers i;
      memory_units = eqb-true m.memory_units wanted.memory_units memory_units i;
      registers = eqb-true m.registers wanted.registers registers i;
      branch_registers = eqb-true m.branch_registers wanted.branch_registers branch_registers i;
      read_ports = eqb-true m.read_ports wanted.read_ports read_ports i;
      write_ports = eqb-true m.write_ports wanted.write_ports write_ports i;
      copy_paths = eqb-true m.copy_paths wanted.copy_paths copy_paths i;
      latency_alu = eqb-true m.latency_alu wanted.latency_alu alu i;
      latency_compare = eqb-true m.latency_compare wanted.latency_compare compare i;
      latency_multiply = eqb-true m.latency_multiply wanted.latency_multiply multiply i;
      latency_load = eqb-true m.latency_load wanted.latency_load load i;
      latency_divide = eqb-true m.latency_divide wanted.latency_divide divide i;
      latency_copy = eqb-true m.latency_copy wanted.latency_copy copy i;
      branches = eqb-true m.branches wanted.branches branches i;
    }
