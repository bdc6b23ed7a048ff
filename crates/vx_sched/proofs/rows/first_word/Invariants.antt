-- the words that were tried have no room
use Rattle.std.proofs.Common.{◌-◌, length}
use Rattle.vx_sched.proofs.RowSteps.{NoneUpTo}
use Rattle.vx_sched.proofs.rows.first_word.Given as goal

abbrev pub invariant-seek : goal.invariant-seek
invariant-seek l = NoneUpTo l.fn.machine l.fn.homes l.fn.rows l.fn.item l.fn.ready l.word

abbrev pub decreases-seek : goal.decreases-seek
decreases-seek l = length l.fn.rows - l.word
