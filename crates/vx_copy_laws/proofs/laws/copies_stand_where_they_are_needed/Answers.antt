use Rattle.vx_copy_laws.proofs.Standing.{copies_law}
use Rattle.vx_copy_laws.proofs.laws.copies_stand_where_they_are_needed.Goals as goal

pub returns : goal.returns
returns c = copies_law
