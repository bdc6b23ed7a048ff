-- No line is left.
use Rattle.std.proofs.Common.{false, get_or, arith}
use Rattle.std.proofs.lemmas.Bool.Decides.{nat_tests}
use Rattle.vx_reader.specs.Text.{line_names}
use Rattle.vx_reader.proofs.Taken.{marks_done}
use Rattle.vx_reader.proofs.reader.mark_lines.Goals as goal

pub returns : goal.returns
returns c = λ p lt. marks_done (get_or c.lines.marks p false) _ (line_names p) c.lines.rest.now (grind (arith, nat_tests, c.is_empty.ensures, c.lines-test.false)) (c.lines.invariant p lt)
