use Rattle.std.proofs.Common.{◌+◌, ◌≤◌, length}
use Rattle.vx_profile.proofs.Progress.{ReadSoFar}
use Rattle.vx_profile.proofs.count_reader.read_rows.Given as goal

abbrev pub invariant-lines : goal.invariant-lines
invariant-lines l = record {
  so_far : ReadSoFar l.text l.rest l.line l.counts;
  room : l.line + length l.rest ≤ length l.text + 2;
}

abbrev pub decreases-lines : goal.decreases-lines
decreases-lines l = length l.rest
