use Rattle.std.proofs.Common.{drop}
use Rattle.vx_ast.specs.Accepted.{nodes_of}
use Rattle.vx_ast.specs.View.{arguments_in}
use Rattle.vx_limits.specs.Words.{tree_words}
use Rattle.vx_limits.proofs.Counting.{Counted}
use Rattle.vx_limits.proofs.node_counts.+tree_nodes.Given as goal

abbrev pub invariant-arguments_nodes-loop-argument : goal.invariant-arguments_nodes-loop-argument
invariant-arguments_nodes-loop-argument l = Counted (λ z. nodes_of (arguments_in z)) (λ z. tree_words (arguments_in z)) l.count (drop l.argument-index l.fn.row) l.fn.row
