use Rattle.std.proofs.Common.{◌≡◌, drop}
use Rattle.vx_machine.specs.Left.{fits_left}
use Rattle.vx_room.specs.Left.{need_of}
use Rattle.vx_room.proofs.room.fits_left.Given as goal

abbrev pub invariant-loop-x : goal.invariant-loop-x
invariant-loop-x l = fits_left (need_of l.homes l.cluster) l.fn.limits l.items ≡ fits_left (need_of l.homes l.cluster) l.left (drop l.x-index l.items)
