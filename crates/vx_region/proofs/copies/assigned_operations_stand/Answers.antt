use Rattle.vx_region.proofs.Standing.{assigned_stands}
use Rattle.vx_region.proofs.copies.assigned_operations_stand.Goals as goal

pub returns : goal.returns
returns c = assigned_stands c.room_alone_law.ensures
