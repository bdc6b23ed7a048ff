use Rattle.std.proofs.Common.{true, drop}
use Rattle.vx_ast.specs.View.{all_in}
use Rattle.vx_limits.proofs.Counting.{Counted}
use Rattle.vx_unroll.specs.Unrolling.{declared_words, own_words}
use Rattle.vx_unroll.proofs.words.+words.Given as goal

abbrev pub invariant-list_words-loop-statement : goal.invariant-list_words-loop-statement
invariant-list_words-loop-statement l = Counted (λ z. declared_words (own_words l.fn.own l.fn.arrays) (all_in z)) (λ z. true) l.count (drop l.statement-index l.fn.all) l.fn.all
