use Rattle.std.proofs.Common.{◌≡◌, take}
use Rattle.std.specs.Prelude.{count_by}
use Rattle.vx_isa.specs.Fits.{is_of}
use Rattle.vx_machine.proofs.fit.count_of.Given as goal

abbrev pub invariant-loop-op : goal.invariant-loop-op
invariant-loop-op l = l.count ≡ count_by (is_of l.unit) (take l.op-index l.ops)
