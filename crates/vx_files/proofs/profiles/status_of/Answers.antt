-- So few bytes have few lines.
use Rattle.vx_files.proofs.ProfileFile.{bad_line_named, large_count_named}
use Rattle.vx_files.proofs.profiles.status_of.Goals as goal

pub line_of-requires : goal.line_of-requires
line_of-requires c = bad_line_named c.args.bytes.now c.args.fault c.in-BadLine.line c.requires.short c.in-BadLine.is c.requires.first_bad

pub line_of-requires-in-CountTooLarge : goal.line_of-requires-in-CountTooLarge
line_of-requires-in-CountTooLarge c = large_count_named c.args.bytes.now c.args.fault c.in-CountTooLarge.line c.requires.short c.in-CountTooLarge.is c.requires.first_bad
