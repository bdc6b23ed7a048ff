use Rattle.std.proofs.Common.{◌≡◌, map, take}
use Rattle.vx_flow.specs.Operands.{with_values}
use Rattle.vx_inline.specs.Taking.{value_at}
use Rattle.vx_inline.proofs.splice.renamed_all.Given as goal

abbrev pub invariant-loop-op : goal.invariant-loop-op
invariant-loop-op l = l.new ≡ map (with_values (value_at l.to)) (take l.op-index l.ops)
