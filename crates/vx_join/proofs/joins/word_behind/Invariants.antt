-- the first word behind those so far, and behind those that are left
use Rattle.std.proofs.Common.{◌≡◌, max, suc, map, length}
use Rattle.vx_dep.specs.Compensation.{greatest}
use Rattle.vx_join.proofs.joins.word_behind.Given as goal

abbrev pub invariant-words : goal.invariant-words
invariant-words l = max l.behind (greatest (map suc l.rest)) ≡ greatest (map suc l.fn.words)

abbrev pub decreases-words : goal.decreases-words
decreases-words l = length l.rest
