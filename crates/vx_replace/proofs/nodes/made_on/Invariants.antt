use Rattle.std.proofs.Common.{◌≡◌, ◌+◌, drop}
use Rattle.vx_mixed.specs.Next.{made_on}
use Rattle.vx_replace.proofs.nodes.made_on.Given as goal

abbrev pub invariant-loop-index : goal.invariant-loop-index
invariant-loop-index l = made_on (l.first + l.index) (drop l.index l.made) l.edge ≡ made_on l.first l.made l.edge
