-- the copies so far, and those of the places that are left
use Rattle.std.proofs.Common.{◌≡◌, ◌++◌, ◌-◌, ◌≤◌, nat_lt}
use Rattle.std.specs.List.{filter}
use Rattle.vx_flow.specs.Walk.{numbers}
use Rattle.vx_dep.specs.Compensation.{word_at, copies_at_split}
use Rattle.vx_split.proofs.splits.copies_at.Given as goal

abbrev pub invariant-above : goal.invariant-above
invariant-above l = (l.copies ++ filter (λ i. nat_lt (word_at l.fn.words l.fn.split) (word_at l.fn.words i)) (numbers l.place (l.fn.split - l.place)) ≡ copies_at_split l.fn.words l.fn.split) × (l.place ≤ l.fn.split) × (l.word ≡ word_at l.fn.words l.fn.split)

abbrev pub decreases-above : goal.decreases-above
decreases-above l = l.fn.split - l.place
