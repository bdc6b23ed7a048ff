use Rattle.std.proofs.Common.{◌≡◌, ◌++◌, take, map}
use Rattle.vx_mixed.specs.Next.{made_node}
use Rattle.vx_replace.proofs.nodes.push_made_nodes.Given as goal

abbrev pub invariant-loop-block : goal.invariant-loop-block
invariant-loop-block l = l.nodes ≡ l.initial.nodes ++ map made_node (take l.block-index l.made)
