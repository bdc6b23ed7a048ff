use Rattle.std.proofs.Common.{◌+◌, true, drop, refl}
use Rattle.vx_ast.specs.View.{items_of, item_of}
use Rattle.vx_limits.proofs.Counting.{counted_begin, counted_step, counted_end}
use Rattle.std.proofs.lemmas.List.{drop_all}
use Rattle.vx_unroll.specs.Unrolling.{declared_words, own_words}
use Rattle.vx_unroll.proofs.Sizes.{both_words}
use Rattle.vx_unroll.proofs.words.items_words.Goals as goal

pub loop-item-init : goal.loop-item-init
loop-item-init c = counted_begin (λ z. declared_words (own_words c.args.own c.args.arrays.now) (items_of z)) (λ z. true) c.args.items.now

pub loop-item-preserved : goal.loop-item-preserved
loop-item-preserved c =
    let w = own_words c.args.own c.args.arrays.now in
    counted_step (λ z. declared_words w (items_of z)) (λ z. true) c.loop-item.count c.sum-count.result c.item_words.result (declared_words w (item_of c.item-item.result)) true c.args.items.now c.loop-item.item-index c.item-item.result
    c.loop-item.invariant c.loop-item-test.true c.item-item.is (both_words w (item_of c.item-item.result) (items_of (drop (c.loop-item.item-index + 1) c.args.items.now))) refl c.sum-count.ensures c.item_words.ensures refl

pub returns : goal.returns
returns c = (counted_end (λ z. declared_words (own_words c.args.own c.args.arrays.now) (items_of z)) (λ z. true) c.loop-item.count (drop c.loop-item.item-index c.args.items.now) c.args.items.now c.loop-item.invariant (drop_all c.loop-item.item-index c.args.items.now c.loop-item-test.false) refl refl).0
