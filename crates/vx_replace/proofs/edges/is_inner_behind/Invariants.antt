use Rattle.std.proofs.Common.{◌≡◌, ◌∷◌, drop}
use Rattle.vx_mixed.specs.MovedEdges.{is_inner}
use Rattle.vx_replace.proofs.edges.is_inner_behind.Given as goal

abbrev pub invariant-loop-block : goal.invariant-loop-block
invariant-loop-block l = is_inner (l.before ∷ drop l.block-index l.blocks) l.edge ≡ is_inner (l.first ∷ l.blocks) l.edge
