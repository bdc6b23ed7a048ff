use Rattle.vx_rename.proofs.RenameWays.{renamed_ways}
use Rattle.vx_rename.proofs.laws.renamed_ways.Goals as goal

pub returns : goal.returns
returns c = renamed_ways
