use Rattle.std.proofs.Common.{◌≡◌, ◌++◌, drop}
use Rattle.vx_mixed.specs.Next.{nodes_from}
use Rattle.vx_replace.proofs.nodes.push_old_nodes.Given as goal

abbrev pub invariant-loop-index : goal.invariant-loop-index
invariant-loop-index l = l.nodes ++ nodes_from l.graph l.replacement l.index (drop l.index l.graph.nodes) ≡ l.initial.nodes ++ nodes_from l.graph l.replacement 0 l.graph.nodes
