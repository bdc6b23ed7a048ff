-- what is listed and what is left
use Rattle.std.proofs.Common.{◌≡◌, ◌++◌, length, map}
use Rattle.vx_sched.specs.Filling.{word_or_0}
use Rattle.vx_sched.proofs.list_schedule.all_words.Given as goal

abbrev pub invariant-list : goal.invariant-list
invariant-list l = l.list ++ map word_or_0 l.rest ≡ map word_or_0 l.fn.words

abbrev pub decreases-list : goal.decreases-list
decreases-list l = length l.rest
