use Rattle.std.proofs.Common.{◌+◌, true, drop, refl, List, ap, sym, ◌∙◌}
use Rattle.vx_ast.specs.declared.tree.Statement.{Statement}
use Rattle.vx_ast.specs.Tree.{Code}
use Rattle.vx_limits.specs.Capped.{capped}
use Rattle.vx_limits.proofs.Views.{block_view}
use Rattle.vx_ast.specs.View.{all_in, code_of}
use Rattle.vx_limits.proofs.Counting.{counted_begin, counted_step, counted_end}
use Rattle.std.proofs.lemmas.List.{drop_all}
use Rattle.vx_unroll.specs.Unrolling.{declared_words, own_words}
use Rattle.vx_unroll.proofs.Sizes.{both_words}
use Rattle.vx_unroll.proofs.words.+words.Goals as goal

pub list_words-loop-statement-init : goal.list_words-loop-statement-init
list_words-loop-statement-init t c = counted_begin (λ z. declared_words (own_words c.args.own c.args.arrays.now) (all_in z)) (λ z. true) c.args.all.now

pub list_words-loop-statement-preserved : goal.list_words-loop-statement-preserved
list_words-loop-statement-preserved t c =
    let w = own_words c.args.own c.args.arrays.now in
    counted_step (λ z. declared_words w (all_in z)) (λ z. true) c.loop-statement.count c.sum-count.result c.statement_words.result (declared_words w (code_of c.statement-item.result)) true c.args.all.now c.loop-statement.statement-index c.statement-item.result
    c.loop-statement.invariant c.loop-statement-test.true c.statement-item.is (both_words w (code_of c.statement-item.result) (all_in (drop (c.loop-statement.statement-index + 1) c.args.all.now))) refl c.sum-count.ensures c.statement_words.ensures refl

pub list_words-returns : goal.list_words-returns
list_words-returns t c = (counted_end (λ z. declared_words (own_words c.args.own c.args.arrays.now) (all_in z)) (λ z. true) c.loop-statement.count (drop c.loop-statement.statement-index c.args.all.now) c.args.all.now c.loop-statement.invariant (drop_all c.loop-statement.statement-index c.args.all.now c.loop-statement-test.false) refl refl).0

pub statement_words-returns-in-Block : goal.statement_words-returns-in-Block
statement_words-returns-in-Block t c =
    let w = own_words c.args.own c.args.arrays.now in
    c.list_words.ensures ∙ ap (λ (z : List Statement). capped (declared_words w (all_in z))) c.as_slice.ensures.value
    ∙ sym (ap (λ (z : Statement). capped (declared_words w (code_of z))) c.in-Block.is ∙ ap (λ (z : Code). capped (declared_words w z)) (block_view c.in-Block.all))
