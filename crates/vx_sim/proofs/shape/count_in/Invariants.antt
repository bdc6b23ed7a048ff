-- those so far are counted
use Rattle.std.proofs.Common.{◌≡◌, ◌≤◌, take, count_by}
use Rattle.vx_isa.specs.Fits.{is_of}
use Rattle.vx_sim.proofs.shape.count_in.Given as goal

abbrev pub invariant-loop-op : goal.invariant-loop-op
invariant-loop-op l = (l.count ≡ count_by (is_of l.unit) (take l.op-index l.ops)) × (l.count ≤ l.op-index)
