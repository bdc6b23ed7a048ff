use Rattle.std.proofs.Common.{◌≡◌, ◌+◌, ◌≤◌, length}
use Rattle.vx_reader.specs.Steps.{beginning}
use Rattle.vx_reader.specs.Text.{lines, run_lines}
use Rattle.vx_reader.proofs.reader.read_lines.Given as goal

abbrev pub invariant-lines : goal.invariant-lines
invariant-lines l = record {
  same : run_lines l.marks l.total l.number l.before (lines l.rest) ≡ run_lines l.marks l.total 1 beginning (lines l.text);
  count : l.number + length (lines l.rest) ≡ length (lines l.text) + 1;
  room : l.number + length l.rest ≤ length l.text + 1;
}

abbrev pub decreases-lines : goal.decreases-lines
decreases-lines l = length l.rest
