use Rattle.std.proofs.Common.{drop, map}
use Rattle.std.specs.List.{sum, list_all}
use Rattle.vx_ast.specs.Accepted.{global_words}
use Rattle.vx_limits.specs.Words as words
use Rattle.vx_limits.proofs.Counting.{Counted}
use Rattle.vx_limits.proofs.limits.globals_words.Given as goal

abbrev pub invariant-loop-global : goal.invariant-loop-global
invariant-loop-global l = Counted (λ z. sum (map global_words z)) (λ z. list_all words.global_words z) l.words (drop l.global-index l.fn.globals) l.fn.globals
