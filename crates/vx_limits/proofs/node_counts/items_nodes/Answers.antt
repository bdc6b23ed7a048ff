use Rattle.std.proofs.Common.{drop, refl}
use Rattle.vx_ast.specs.Accepted.{code_nodes}
use Rattle.vx_ast.specs.View.{items_of, item_of}
use Rattle.vx_limits.specs.Words.{code_words}
use Rattle.vx_limits.proofs.Counting.{counted_begin, counted_step, counted_end}
use Rattle.std.proofs.lemmas.List.{drop_all}
use Rattle.vx_limits.proofs.node_counts.items_nodes.Goals as goal

pub loop-item-init : goal.loop-item-init
loop-item-init c = counted_begin (λ z. code_nodes (items_of z)) (λ z. code_words (items_of z)) c.args.items.now

pub loop-item-preserved : goal.loop-item-preserved
loop-item-preserved c =
    counted_step (λ z. code_nodes (items_of z)) (λ z. code_words (items_of z)) c.loop-item.count c.sum-count.result c.item_nodes.result (code_nodes (item_of c.item-item.result)) (code_words (item_of c.item-item.result)) c.args.items.now c.loop-item.item-index c.item-item.result
    c.loop-item.invariant c.loop-item-test.true c.item-item.is refl refl c.sum-count.ensures c.item_nodes.ensures.nodes c.item_nodes.ensures.words

pub returns-clause-nodes : goal.returns-clause-nodes
returns-clause-nodes c = (counted_end (λ z. code_nodes (items_of z)) (λ z. code_words (items_of z)) c.loop-item.count (drop c.loop-item.item-index c.args.items.now) c.args.items.now c.loop-item.invariant (drop_all c.loop-item.item-index c.args.items.now c.loop-item-test.false) refl refl).0

pub returns-clause-words : goal.returns-clause-words
returns-clause-words c = (counted_end (λ z. code_nodes (items_of z)) (λ z. code_words (items_of z)) c.loop-item.count (drop c.loop-item.item-index c.args.items.now) c.args.items.now c.loop-item.invariant (drop_all c.loop-item.item-index c.args.items.now c.loop-item-test.false) refl refl).1
