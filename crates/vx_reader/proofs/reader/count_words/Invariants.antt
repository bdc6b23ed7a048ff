use Rattle.std.proofs.Common.{◌≡◌, ◌+◌, ◌≤◌, length}
use Rattle.vx_reader.specs.Text.{lines, word_count}
use Rattle.vx_reader.proofs.reader.count_words.Given as goal

abbrev pub invariant-lines : goal.invariant-lines
invariant-lines l = record {
  counts : l.count + word_count (lines l.rest) ≡ word_count (lines l.text);
  room : l.count + length l.rest ≤ length l.text;
}

abbrev pub decreases-lines : goal.decreases-lines
decreases-lines l = length l.rest
