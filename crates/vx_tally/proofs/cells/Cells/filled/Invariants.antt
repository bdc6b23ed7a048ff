use Rattle.std.proofs.Common.{◌≡◌, replicate}
use Rattle.vx_tally.proofs.cells.Cells.filled.Given as goal

abbrev pub invariant-words : goal.invariant-words
invariant-words l = l.words.items ≡ replicate l.counter l.content
