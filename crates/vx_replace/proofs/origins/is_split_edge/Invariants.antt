use Rattle.std.proofs.Common.{◌≡◌, drop}
use Rattle.vx_mixed.specs.Next.{is_split_edge}
use Rattle.vx_replace.proofs.origins.is_split_edge.Given as goal

abbrev pub invariant-loop-op : goal.invariant-loop-op
invariant-loop-op l = is_split_edge (drop l.op-index l.ops) l.edge ≡ is_split_edge l.ops l.edge
