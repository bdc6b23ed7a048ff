use Rattle.std.proofs.Common.{drop}
use Rattle.vx_ast.specs.Accepted.{code_nodes}
use Rattle.vx_ast.specs.View.{items_of}
use Rattle.vx_limits.specs.Words.{code_words}
use Rattle.vx_limits.proofs.Counting.{Counted}
use Rattle.vx_limits.proofs.node_counts.items_nodes.Given as goal

abbrev pub invariant-loop-item : goal.invariant-loop-item
invariant-loop-item l = Counted (λ z. code_nodes (items_of z)) (λ z. code_words (items_of z)) l.count (drop l.item-index l.fn.items) l.fn.items
