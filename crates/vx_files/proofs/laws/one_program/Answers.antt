use Rattle.vx_files.proofs.SourceLaws.{one_program}
use Rattle.vx_files.proofs.laws.one_program.Goals as goal

pub returns : goal.returns
returns c = one_program
