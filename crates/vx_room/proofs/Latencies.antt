-- On a machine no operation of a graph takes more than 16 cycles, and one that writes a value takes one at least.
use Rattle.std.proofs.Common.{ℕ, ◌≤◌, arith}
use Rattle.vx_flow.specs.declared.graph.Op.{Op}
use Rattle.vx_flow.specs.declared.graph.Op.TheVariants.{Compute, Store, Text, Decimal}
use Rattle.vx_flow.specs.Effects.{IsIn, writes}
use Rattle.vx_isa.specs.Numbers.{Numbers, IsMachine}
use Rattle.vx_isa.proofs.Ranges.{ranges, code_range}
use Rattle.vx_room.specs.Items.{latency_of_op}

pub few_cycles : (m : Numbers) → IsMachine m → (op : Op) → latency_of_op m op ≤ 16
few_cycles m one (Compute code v a b) = (code_range m (ranges m one) code).most
few_cycles m one op =
    let alu = (ranges m one).alu.most in
    let load = (ranges m one).load.most in
    let copy = (ranges m one).copy.most in
    omega (arith, alu, load, copy)

pub takes_time : (m : Numbers) → IsMachine m → (op : Op) (v : ℕ) → IsIn v (writes op) → 1 ≤ latency_of_op m op
takes_time m one (Compute code u a b) v h = (code_range m (ranges m one) code).least
takes_time m one (Store a p x) v h = absurd h
takes_time m one (Text n) v h = absurd h
takes_time m one (Decimal x) v h = absurd h
takes_time m one op v h =
    let alu = (ranges m one).alu.least in
    let load = (ranges m one).load.least in
    let copy = (ranges m one).copy.least in
    omega (arith, alu, load, copy)
