use Rattle.std.proofs.Common.{◌≡◌, ℕ, ◌<◌, ◌||◌, false, get_or, length}
use Rattle.std.specs.List.{list_any}
use Rattle.vx_reader.specs.Text.{lines, line_names}
use Rattle.vx_reader.proofs.reader.mark_lines.Given as goal

abbrev pub invariant-lines : goal.invariant-lines
invariant-lines l = (p : ℕ) → p < length l.fn.marks →
    (get_or l.marks p false || list_any (line_names p) (lines l.rest)) ≡ (get_or l.fn.marks p false || list_any (line_names p) (lines l.text))

abbrev pub decreases-lines : goal.decreases-lines
decreases-lines l = length l.rest
