use Rattle.std.proofs.Common.{◌≡◌, drop}
use Rattle.vx_machine.specs.Left.{fits_left, need_of}
use Rattle.vx_machine.proofs.fit.fits_left.Given as goal

abbrev pub invariant-loop-op : goal.invariant-loop-op
invariant-loop-op l = fits_left (need_of l.cluster) l.fn.limits l.ops ≡ fits_left (need_of l.cluster) l.left (drop l.op-index l.ops)
