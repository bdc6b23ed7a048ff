use Rattle.vx_region.proofs.Runs.{copies_law}
use Rattle.vx_region.proofs.Fresh.{nothing_new}
use Rattle.vx_region.proofs.copies.copies_keep_the_trace.Goals as goal

pub returns : goal.returns
returns c = record { law = copies_law; nothing_new = nothing_new }
