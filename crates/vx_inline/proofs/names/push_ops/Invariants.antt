use Rattle.std.proofs.Common.{◌≡◌, ◌++◌, take}
use Rattle.std.specs.List.{flat_map}
use Rattle.vx_flow.specs.Effects.{reads, writes}
use Rattle.vx_inline.proofs.names.push_ops.Given as goal

abbrev pub invariant-loop-op : goal.invariant-loop-op
invariant-loop-op l = l.values ≡ l.initial.values ++ flat_map (λ op. reads op ++ writes op) (take l.op-index l.ops)
