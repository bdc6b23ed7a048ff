use Rattle.std.proofs.Common.{◌≡◌, drop}
use Rattle.vx_narrow.specs.Placing.{is_stored}
use Rattle.vx_narrow.proofs.near_place.is_stored.Given as goal

abbrev pub invariant-loop-op : goal.invariant-loop-op
invariant-loop-op l = is_stored (drop l.op-index l.ops) l.array ≡ is_stored l.ops l.array
