use Rattle.std.proofs.Common.{◌≡◌, ◌++◌, true, length}
use Rattle.vx_regs.specs.Ways.{starts}
use Rattle.vx_regs.proofs.nodes.starts.Given as goal

abbrev pub invariant-words : goal.invariant-words
invariant-words l = l.marks.items ++ starts l.first l.rest ≡ starts true l.fn.words

abbrev pub decreases-words : goal.decreases-words
decreases-words l = length l.rest
