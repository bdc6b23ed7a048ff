-- What a machine says of its numbers, one by one, and by that of the latencies of operations.
use Rattle.std.proofs.Common.{◌≡◌, ◌≤◌, ◌+◌, ◌*◌, ℕ, Bool, true, false, nat_le, if◌then◌else◌, is_some}
use Rattle.std.proofs.lemmas.Bool.{and_parts, leb-true, true≢false, false≢true}
use Rattle.vx_base.specs.declared.arithmetic.Code.{Code}
use Rattle.vx_base.specs.declared.arithmetic.Code.TheVariants.{ToBranch, Mpylu, Mpyhs, Div, Rem}
use Rattle.vx_isa.specs.declared.operation.Operation.{Operation}
use Rattle.vx_isa.specs.declared.operation.Operation.TheVariants.{Compute, Move, Select, Load, Store, Input, More, OutText, OutDecimal, OutByte, Goto, BranchOn, Call, Return, FromLink, ToLink, EndByTrap, Halt}
use Rattle.vx_isa.specs.Numbers.{Numbers, IsMachine, is_between}
use Rattle.vx_isa.specs.Operations.{destination_of, is_call, latency_of, latency_of_code, comes_from}

pub record Between (low high n : ℕ) : Type 0 where
  pub least : low ≤ n
  pub most : n ≤ high

between : (low high n : ℕ) → is_between low high n ≡ true → Between low high n
between low high n e =
    let both = and_parts (nat_le low n) (nat_le n high) e in
    record { least = leb-true low n both.0; most = leb-true n high both.1 }

pub record Ranges (m : Numbers) : Type 0 where
  pub clusters : Between 1 4 m.clusters
  pub issue : Between 1 4 m.issue
  pub alus : Between 1 4 m.alus
  pub multipliers : Between 1 4 m.multipliers
  pub memory_units : Between 1 2 m.memory_units
  pub registers : Between 16 64 m.registers
  pub branch_registers : Between (m.issue + 1) 8 m.branch_registers
  pub read_ports : Between 2 (2 * m.issue) m.read_ports
  pub write_ports : Between 1 m.issue m.write_ports
  pub copy_paths : Between 1 8 m.copy_paths
  pub alu : Between 1 16 m.latency_alu
  pub compare : Between 1 16 m.latency_compare
  pub multiply : Between 1 16 m.latency_multiply
  pub load : Between 1 16 m.latency_load
  pub divide : Between 1 16 m.latency_divide
  pub copy : Between 1 16 m.latency_copy
  pub branches : Between 1 2 m.branches

pub ranges : (m : Numbers) → IsMachine m → Ranges m
ranges m e =
    let e0 = and_parts _ (is_between 1 2 m.branches) e in
    let e1 = and_parts _ (is_between 1 16 m.latency_copy) e0.0 in
    let e2 = and_parts _ (is_between 1 16 m.latency_divide) e1.0 in
    let e3 = and_parts _ (is_between 1 16 m.latency_load) e2.0 in
    let e4 = and_parts _ (is_between 1 16 m.latency_multiply) e3.0 in
    let e5 = and_parts _ (is_between 1 16 m.latency_compare) e4.0 in
    let e6 = and_parts _ (is_between 1 16 m.latency_alu) e5.0 in
    let e7 = and_parts _ (is_between 1 8 m.copy_paths) e6.0 in
    let e8 = and_parts _ (is_between 1 m.issue m.write_ports) e7.0 in
    let e9 = and_parts _ (is_between 2 (2 * m.issue) m.read_ports) e8.0 in
    let e10 = and_parts _ (is_between (m.issue + 1) 8 m.branch_registers) e9.0 in
    let e11 = and_parts _ (is_between 16 64 m.registers) e10.0 in
    let e12 = and_parts _ (is_between 1 2 m.memory_units) e11.0 in
    let e13 = and_parts _ (is_between 1 4 m.multipliers) e12.0 in
    let e14 = and_parts _ (is_between 1 4 m.alus) e13.0 in
    let e15 = and_parts (is_between 1 4 m.clusters) (is_between 1 4 m.issue) e14.0 in
    record {
      clusters = between 1 4 m.clusters e15.0;
      issue = between 1 4 m.issue e15.1;
      alus = between 1 4 m.alus e14.1;
      multipliers = between 1 4 m.multipliers e13.1;
      memory_units = between 1 2 m.memory_units e12.1;
      registers = between 16 64 m.registers e11.1;
      branch_registers = between (m.issue + 1) 8 m.branch_registers e10.1;
      read_ports = between 2 (2 * m.issue) m.read_ports e9.1;
      write_ports = between 1 m.issue m.write_ports e8.1;
      copy_paths = between 1 8 m.copy_paths e7.1;
      alu = between 1 16 m.latency_alu e6.1;
      compare = between 1 16 m.latency_compare e5.1;
      multiply = between 1 16 m.latency_multiply e4.1;
      load = between 1 16 m.latency_load e3.1;
      divide = between 1 16 m.latency_divide e2.1;
      copy = between 1 16 m.latency_copy e1.1;
      branches = between 1 2 m.branches e0.1;
    }

-- the latency of an operation that writes a register and is no call is one of the machine's

pub code_range : (m : Numbers) → Ranges m → (code : Code) → Between 1 16 (latency_of_code m code)
code_range m r (ToBranch compare) = r.compare
code_range m r Mpylu = r.multiply
code_range m r Mpyhs = r.multiply
code_range m r Div = r.divide
code_range m r Rem = r.divide
code_range m r code = r.alu

pub move_range : (m : Numbers) → Ranges m → (b : Bool) → Between 1 16 (if b then m.latency_alu else m.latency_copy)
move_range m r true = r.alu
move_range m r false = r.copy

pub latency_range : (m : Numbers) → IsMachine m → (op : Operation) → is_some (destination_of op) ≡ true → is_call op ≡ false → Between 1 16 (latency_of m op)
latency_range m one (Compute k code to a b) e c = code_range m (ranges m one) code
latency_range m one (Move k to a) e c = move_range m (ranges m one) (comes_from k a)
latency_range m one (Select k to u a b) e c = (ranges m one).alu
latency_range m one (Load k to o q d) e c = (ranges m one).load
latency_range m one (Input to) e c = (ranges m one).load
latency_range m one (More to) e c = (ranges m one).load
latency_range m one (FromLink to) e c = (ranges m one).alu
latency_range m one (ToLink a) e c = (ranges m one).alu
latency_range m one (Call p) e c = absurd (true≢false c)
latency_range m one (Store k o q a) e c = absurd (false≢true e)
latency_range m one (OutText n) e c = absurd (false≢true e)
latency_range m one (OutDecimal a) e c = absurd (false≢true e)
latency_range m one (OutByte a) e c = absurd (false≢true e)
latency_range m one (Goto p) e c = absurd (false≢true e)
latency_range m one (BranchOn u w p) e c = absurd (false≢true e)
latency_range m one Return e c = absurd (false≢true e)
latency_range m one (EndByTrap k) e c = absurd (false≢true e)
latency_range m one (Halt a) e c = absurd (false≢true e)
