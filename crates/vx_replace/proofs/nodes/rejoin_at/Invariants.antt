use Rattle.std.proofs.Common.{◌≡◌, drop}
use Rattle.vx_mixed.specs.Next.{rejoin_at}
use Rattle.vx_replace.proofs.nodes.rejoin_at.Given as goal

abbrev pub invariant-loop-index : goal.invariant-loop-index
invariant-loop-index l = rejoin_at (drop l.index l.joins) (drop l.index l.rejoins) l.block ≡ rejoin_at l.joins l.rejoins l.block
