use Rattle.std.proofs.Common.{drop, refl}
use Rattle.vx_ast.specs.Accepted.{nodes_of}
use Rattle.vx_ast.specs.View.{row_in, tree_of}
use Rattle.vx_limits.specs.Words.{tree_words}
use Rattle.vx_limits.proofs.Counting.{counted_begin, counted_step, counted_end}
use Rattle.std.proofs.lemmas.List.{drop_all}
use Rattle.vx_limits.proofs.node_counts.row_nodes.Goals as goal

pub loop-number-init : goal.loop-number-init
loop-number-init c = counted_begin (λ z. nodes_of (row_in z)) (λ z. tree_words (row_in z)) c.args.row.now

pub loop-number-preserved : goal.loop-number-preserved
loop-number-preserved c =
    counted_step (λ z. nodes_of (row_in z)) (λ z. tree_words (row_in z)) c.loop-number.count c.sum-count.result c.expression_nodes.result (nodes_of (tree_of c.number-item.result)) (tree_words (tree_of c.number-item.result)) c.args.row.now c.loop-number.number-index c.number-item.result
    c.loop-number.invariant c.loop-number-test.true c.number-item.is refl refl c.sum-count.ensures c.expression_nodes.ensures.nodes c.expression_nodes.ensures.words

pub returns-clause-nodes : goal.returns-clause-nodes
returns-clause-nodes c = (counted_end (λ z. nodes_of (row_in z)) (λ z. tree_words (row_in z)) c.loop-number.count (drop c.loop-number.number-index c.args.row.now) c.args.row.now c.loop-number.invariant (drop_all c.loop-number.number-index c.args.row.now c.loop-number-test.false) refl refl).0

pub returns-clause-words : goal.returns-clause-words
returns-clause-words c = (counted_end (λ z. nodes_of (row_in z)) (λ z. tree_words (row_in z)) c.loop-number.count (drop c.loop-number.number-index c.args.row.now) c.args.row.now c.loop-number.invariant (drop_all c.loop-number.number-index c.args.row.now c.loop-number-test.false) refl refl).1
