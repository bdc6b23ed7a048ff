use Rattle.std.proofs.Common.{◌≡◌, drop}
use Rattle.vx_narrow.specs.Placing.{near}
use Rattle.vx_narrow.proofs.near_place.near.Given as goal

abbrev pub invariant-loop-access : goal.invariant-loop-access
invariant-loop-access l = near (drop l.access-index l.known) l.array l.base ≡ near l.known l.array l.base
