-- the copies so far, and those of the places that are left
use Rattle.std.proofs.Common.{◌≡◌, ◌++◌, ◌-◌, nat_lt, length}
use Rattle.std.specs.List.{filter}
use Rattle.vx_flow.specs.Walk.{numbers}
use Rattle.vx_dep.specs.Compensation.{word_at, copies_at_join}
use Rattle.vx_join.proofs.joins.copies_at.Given as goal

abbrev pub invariant-below : goal.invariant-below
invariant-below l = l.copies ++ filter (λ i. nat_lt (word_at l.fn.words i) l.fn.rejoin) (numbers l.place (length l.fn.words - l.place)) ≡ copies_at_join l.fn.words l.fn.join

abbrev pub decreases-below : goal.decreases-below
decreases-below l = length l.fn.words - l.place
