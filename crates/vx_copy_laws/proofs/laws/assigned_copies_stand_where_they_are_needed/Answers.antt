use Rattle.vx_copy_laws.proofs.SameHomes.{assigned_law}
use Rattle.vx_copy_laws.proofs.laws.assigned_copies_stand_where_they_are_needed.Goals as goal

pub returns : goal.returns
returns c = assigned_law
