use Rattle.std.proofs.Common.{◌+◌, drop, refl, ap, ◌∙◌}
use Rattle.vx_ast.specs.declared.tree.Expression.{Expression}
use Rattle.vx_ast.specs.Accepted.{nodes_of}
use Rattle.vx_ast.specs.View.{arguments_in, tree_of}
use Rattle.vx_limits.specs.Words.{tree_words, argument_nodes, argument_words}
use Rattle.std.proofs.Common.{sym, rules, w32, FitsSigned}
use Rattle.std.proofs.lemmas.Int.{to_z-of_z}
use Rattle.vx_ast.specs.Accepted.{is_word}
use Rattle.vx_limits.proofs.Counting.{counted_begin, counted_step, counted_end, argument_count, argument_word, call_count, call_words}
use Rattle.std.proofs.lemmas.List.{drop_all}
use Rattle.vx_limits.proofs.node_counts.+tree_nodes.Goals as goal

pub arguments_nodes-loop-argument-init : goal.arguments_nodes-loop-argument-init
arguments_nodes-loop-argument-init t c = counted_begin (λ z. nodes_of (arguments_in z)) (λ z. tree_words (arguments_in z)) c.args.row.now

pub arguments_nodes-loop-argument-preserved : goal.arguments_nodes-loop-argument-preserved
arguments_nodes-loop-argument-preserved t c =
    counted_step (λ z. nodes_of (arguments_in z)) (λ z. tree_words (arguments_in z)) c.loop-argument.count c.sum-count.result c.argument_nodes.result (argument_nodes c.argument-item.result) (argument_words c.argument-item.result) c.args.row.now c.loop-argument.argument-index c.argument-item.result
    c.loop-argument.invariant c.loop-argument-test.true c.argument-item.is (argument_count c.argument-item.result (arguments_in (drop (c.loop-argument.argument-index + 1) c.args.row.now)))
    (argument_word c.argument-item.result (arguments_in (drop (c.loop-argument.argument-index + 1) c.args.row.now))) c.sum-count.ensures c.argument_nodes.ensures.nodes c.argument_nodes.ensures.words

pub arguments_nodes-returns-clause-nodes : goal.arguments_nodes-returns-clause-nodes
arguments_nodes-returns-clause-nodes t c = (counted_end (λ z. nodes_of (arguments_in z)) (λ z. tree_words (arguments_in z)) c.loop-argument.count (drop c.loop-argument.argument-index c.args.row.now) c.args.row.now c.loop-argument.invariant (drop_all c.loop-argument.argument-index c.args.row.now c.loop-argument-test.false) refl refl).0

pub arguments_nodes-returns-clause-words : goal.arguments_nodes-returns-clause-words
arguments_nodes-returns-clause-words t c = (counted_end (λ z. nodes_of (arguments_in z)) (λ z. tree_words (arguments_in z)) c.loop-argument.count (drop c.loop-argument.argument-index c.args.row.now) c.args.row.now c.loop-argument.invariant (drop_all c.loop-argument.argument-index c.args.row.now c.loop-argument-test.false) refl refl).1

pub expression_nodes-returns-in-Number-clause-words : goal.expression_nodes-returns-in-Number-clause-words
expression_nodes-returns-in-Number-clause-words t c = ap (λ (e : Expression). tree_words (tree_of e)) c.in-Number.is ∙ (let f : FitsSigned w32 c.in-Number.number = search rules in ap is_word (sym (to_z-of_z w32 c.in-Number.number f)) ∙ c.literal_nodes.ensures.words)

pub expression_nodes-returns-in-Call-clause-nodes : goal.expression_nodes-returns-in-Call-clause-nodes
expression_nodes-returns-in-Call-clause-nodes t c =
    call_count c.in-Call.field-0 c.in-Call.row c.as_slice.result.now c.arguments_nodes.result c.sum-in-Call.result c.args.expression.now c.in-Call.is c.as_slice.ensures.value c.arguments_nodes.ensures.nodes c.sum-in-Call.ensures

pub expression_nodes-returns-in-Call-clause-words : goal.expression_nodes-returns-in-Call-clause-words
expression_nodes-returns-in-Call-clause-words t c = call_words c.in-Call.field-0 c.in-Call.row c.as_slice.result.now c.args.expression.now c.in-Call.is c.as_slice.ensures.value c.arguments_nodes.ensures.words
