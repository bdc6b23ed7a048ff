-- The numbers of the machines of the tests.
use Rattle.std.specs.Prelude.{◌==◌, ◌&&◌, ℕ, Bool}
use Rattle.vx_isa.specs.Numbers.{Numbers, narrow, vex}
use Rattle.vx_test_machines.specs.declared.kinds.Kind.{Kind}
use Rattle.vx_test_machines.specs.declared.kinds.Kind.TheVariants.{Vex, Narrow, TwoNarrow, TwoBranches}

-- so many clusters, each as that of the narrow machine
abbrev pub narrow_with : (clusters : ℕ) → Numbers
narrow_with clusters = record narrow { clusters = clusters }

abbrev pub two_branches : Numbers
two_branches = record (vex 1) { branches = 2 }

abbrev pub numbers_of : Kind → Numbers
numbers_of Vex = vex 1
numbers_of Narrow = narrow_with 1
numbers_of TwoNarrow = narrow_with 2
numbers_of TwoBranches = two_branches

-- a machine is another one, as a test of each number

abbrev pub has_counts : (wanted m : Numbers) → Bool
has_counts wanted m =
    (m.clusters == wanted.clusters) && (m.issue == wanted.issue) && (m.alus == wanted.alus) && (m.multipliers == wanted.multipliers)
    && (m.memory_units == wanted.memory_units) && (m.registers == wanted.registers) && (m.branch_registers == wanted.branch_registers)
    && (m.read_ports == wanted.read_ports) && (m.write_ports == wanted.write_ports) && (m.copy_paths == wanted.copy_paths)

abbrev pub has_latencies : (wanted m : Numbers) → Bool
has_latencies wanted m =
    (m.latency_alu == wanted.latency_alu) && (m.latency_compare == wanted.latency_compare) && (m.latency_multiply == wanted.latency_multiply)
    && (m.latency_load == wanted.latency_load) && (m.latency_divide == wanted.latency_divide) && (m.latency_copy == wanted.latency_copy)

abbrev pub is_machine_of : (wanted m : Numbers) → Bool
is_machine_of wanted m = has_counts wanted m && has_latencies wanted m && (m.branches == wanted.branches)
