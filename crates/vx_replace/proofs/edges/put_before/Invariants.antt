use Rattle.std.proofs.Common.{◌≡◌, length, drop}
use Rattle.vx_mixed.specs.MovedEdges.{with_before}
use Rattle.vx_replace.proofs.edges.put_before.Given as goal

abbrev pub invariant-loop-block : goal.invariant-loop-block
invariant-loop-block l = (with_before l.last (drop l.block-index l.others) l.before.items ≡ with_before l.first l.others l.initial.before.items) × (length l.before.items ≡ length l.initial.before.items)
