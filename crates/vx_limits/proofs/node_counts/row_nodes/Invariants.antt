use Rattle.std.proofs.Common.{drop}
use Rattle.vx_ast.specs.Accepted.{nodes_of}
use Rattle.vx_ast.specs.View.{row_in}
use Rattle.vx_limits.specs.Words.{tree_words}
use Rattle.vx_limits.proofs.Counting.{Counted}
use Rattle.vx_limits.proofs.node_counts.row_nodes.Given as goal

abbrev pub invariant-loop-number : goal.invariant-loop-number
invariant-loop-number l = Counted (λ z. nodes_of (row_in z)) (λ z. tree_words (row_in z)) l.count (drop l.number-index l.fn.row) l.fn.row
