use Rattle.std.proofs.Common.{◌≡◌, length}
use Rattle.vx_regs.specs.Ways.{marked_by_words}
use Rattle.vx_regs.proofs.nodes.mark_words.Given as goal

abbrev pub invariant-words : goal.invariant-words
invariant-words l = marked_by_words l.marks.items l.place l.rest ≡ marked_by_words l.initial.marks.items 0 l.words

abbrev pub decreases-words : goal.decreases-words
decreases-words l = length l.rest
