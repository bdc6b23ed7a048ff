-- no operation has a word yet
use Rattle.std.proofs.Common.{◌≤◌, ◌-◌, length}
use Rattle.vx_sched.specs.Filling.{AreWithout}
use Rattle.vx_sched.proofs.list_schedule.without_words.Given as goal

abbrev pub invariant-loop-words : goal.invariant-loop-words
invariant-loop-words l = AreWithout (length l.words.items) l.words.items × (length l.words.items ≤ l.fn.count)

abbrev pub decreases-loop-words : goal.decreases-loop-words
decreases-loop-words l = l.fn.count - length l.words.items
