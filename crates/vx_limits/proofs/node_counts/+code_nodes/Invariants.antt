use Rattle.std.proofs.Common.{drop}
use Rattle.vx_ast.specs.Accepted.{code_nodes}
use Rattle.vx_ast.specs.View.{all_in}
use Rattle.vx_limits.specs.Words.{code_words}
use Rattle.vx_limits.proofs.Counting.{Counted}
use Rattle.vx_limits.proofs.node_counts.+code_nodes.Given as goal

abbrev pub invariant-list_nodes-loop-statement : goal.invariant-list_nodes-loop-statement
invariant-list_nodes-loop-statement l = Counted (λ z. code_nodes (all_in z)) (λ z. code_words (all_in z)) l.count (drop l.statement-index l.fn.all) l.fn.all
