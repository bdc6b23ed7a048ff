use Rattle.vx_tally.proofs.Passing.{BasedIn}
use Rattle.vx_tally.proofs.entering.based_len.Given as goal

abbrev pub invariant-loop-index : goal.invariant-loop-index
invariant-loop-index l = BasedIn l.arrays l.index l.count
