use Rattle.vx_files.proofs.SourceLaws.{never_both}
use Rattle.vx_files.proofs.laws.read_or_not.Goals as goal

pub returns : goal.returns
returns c = never_both
