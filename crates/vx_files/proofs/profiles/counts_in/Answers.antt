-- A text that is no profile has a first bad line.
use Rattle.vx_files.proofs.ProfileFile.{bad_profile}
use Rattle.vx_files.proofs.profiles.counts_in.Goals as goal

pub returns-in-Err-clause-refused : goal.returns-in-Err-clause-refused
returns-in-Err-clause-refused c = bad_profile c.args.bytes.now c.in-Err.fault c.status_of.result c.requires c.in-Err.ensures.fault c.status_of.ensures
