-- The marks stay as many as they were made.
use Rattle.std.proofs.Common.{arith}
use Rattle.vx_reader.proofs.Taken.{marks_kept}
use Rattle.vx_reader.proofs.reader.marks_by_place.Goals as goal

pub returns-clause-length : goal.returns-clause-length
returns-clause-length c = marks_kept c.in_ok-marks.marks.len c.args.total c.mark_lines.new.marks c.in_ok-marks.marks.items (omega (arith, c.in_ok-marks.marks.ok.0)) c.in_ok-marks.ensures.len
