use Rattle.std.proofs.Common.{drop, refl}
use Rattle.vx_ast.specs.Accepted.{code_nodes}
use Rattle.vx_ast.specs.View.{all_in, code_of}
use Rattle.vx_limits.specs.Words.{code_words}
use Rattle.vx_limits.proofs.Counting.{counted_begin, counted_step, counted_end, block_count, block_words}
use Rattle.std.proofs.lemmas.List.{drop_all}
use Rattle.vx_limits.proofs.node_counts.+code_nodes.Goals as goal

pub list_nodes-loop-statement-init : goal.list_nodes-loop-statement-init
list_nodes-loop-statement-init t c = counted_begin (λ z. code_nodes (all_in z)) (λ z. code_words (all_in z)) c.args.all.now

pub list_nodes-loop-statement-preserved : goal.list_nodes-loop-statement-preserved
list_nodes-loop-statement-preserved t c =
    counted_step (λ z. code_nodes (all_in z)) (λ z. code_words (all_in z)) c.loop-statement.count c.sum-count.result c.statement_nodes.result (code_nodes (code_of c.statement-item.result)) (code_words (code_of c.statement-item.result)) c.args.all.now c.loop-statement.statement-index c.statement-item.result
    c.loop-statement.invariant c.loop-statement-test.true c.statement-item.is refl refl c.sum-count.ensures c.statement_nodes.ensures.nodes c.statement_nodes.ensures.words

pub list_nodes-returns-clause-nodes : goal.list_nodes-returns-clause-nodes
list_nodes-returns-clause-nodes t c = (counted_end (λ z. code_nodes (all_in z)) (λ z. code_words (all_in z)) c.loop-statement.count (drop c.loop-statement.statement-index c.args.all.now) c.args.all.now c.loop-statement.invariant (drop_all c.loop-statement.statement-index c.args.all.now c.loop-statement-test.false) refl refl).0

pub list_nodes-returns-clause-words : goal.list_nodes-returns-clause-words
list_nodes-returns-clause-words t c = (counted_end (λ z. code_nodes (all_in z)) (λ z. code_words (all_in z)) c.loop-statement.count (drop c.loop-statement.statement-index c.args.all.now) c.args.all.now c.loop-statement.invariant (drop_all c.loop-statement.statement-index c.args.all.now c.loop-statement-test.false) refl refl).1

pub statement_nodes-returns-in-Block-clause-nodes : goal.statement_nodes-returns-in-Block-clause-nodes
statement_nodes-returns-in-Block-clause-nodes t c =
    block_count c.in-Block.all c.as_slice.result.now c.list_nodes.result c.sum.result c.args.statement.now c.in-Block.is c.as_slice.ensures.value c.list_nodes.ensures.nodes c.sum.ensures

pub statement_nodes-returns-in-Block-clause-words : goal.statement_nodes-returns-in-Block-clause-words
statement_nodes-returns-in-Block-clause-words t c = block_words c.in-Block.all c.as_slice.result.now c.args.statement.now c.in-Block.is c.as_slice.ensures.value c.list_nodes.ensures.words
