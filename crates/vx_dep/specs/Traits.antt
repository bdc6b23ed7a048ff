-- What delays ask of an operation of a trace: the values that it reads and the one that it writes, its kind and its latency.
use Rattle.std.specs.Prelude.{ℕ, Bool, false, nat_eq, Option, Some, None, List, ◌&&◌, ◌||◌, ◌==◌}
use Rattle.std.specs.List.{list_any}
use Rattle.vx_flow.specs.declared.operands.Reads.{Reads}
use Rattle.vx_flow.specs.declared.trace.TraceOp.{TraceOp}
use Rattle.vx_flow.specs.declared.trace.TraceOp.TheVariants.{Plain, Split}
use Rattle.vx_flow.specs.Operands.{written_by, reads_three, read_by}
use Rattle.vx_isa.specs.Numbers.{Numbers}
use Rattle.vx_dep.specs.declared.traits.Traits.{Traits}
use Rattle.vx_dep.specs.Delays.{is_load, is_store, is_observable, leaves, latency_of}

-- the value that an operation writes

abbrev pub written : TraceOp → Option ℕ
written (Plain op) = written_by op
written (Split test leaves_when edge live) = None

-- the values that an operation reads, at most three

abbrev pub read : TraceOp → Reads
read (Plain op) = read_by op
read (Split test leaves_when edge live) = reads_three (Some test) None None

-- the value is among these
abbrev pub has : Option ℕ → List ℕ → Bool
has None vs = false
has (Some v) vs = list_any (nat_eq v) vs

abbrev pub is_access : TraceOp → Bool
is_access op = is_load op || is_store op

-- observable operations and splits pass no join
abbrev pub is_fixed : TraceOp → Bool
is_fixed op = is_observable op || leaves op

-- a split shares its word with no other one where the machine issues one branch
abbrev pub is_alone : Numbers → TraceOp → Bool
is_alone m op = leaves op && (m.branches == 1)

-- all that is asked of an operation
abbrev pub traits_of : Numbers → TraceOp → Traits
traits_of m op = record {
  written = written op;
  reads = read op;
  is_load = is_load op;
  is_store = is_store op;
  is_observable = is_observable op;
  leaves = leaves op;
  alone = is_alone m op;
  is_access = is_access op;
  is_fixed = is_fixed op;
  latency = latency_of m op;
}
