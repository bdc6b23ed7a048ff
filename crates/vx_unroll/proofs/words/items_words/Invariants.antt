use Rattle.std.proofs.Common.{true, drop}
use Rattle.vx_ast.specs.View.{items_of}
use Rattle.vx_limits.proofs.Counting.{Counted}
use Rattle.vx_unroll.specs.Unrolling.{declared_words, own_words}
use Rattle.vx_unroll.proofs.words.items_words.Given as goal

abbrev pub invariant-loop-item : goal.invariant-loop-item
invariant-loop-item l = Counted (λ z. declared_words (own_words l.fn.own l.fn.arrays) (items_of z)) (λ z. true) l.count (drop l.item-index l.fn.items) l.fn.items
