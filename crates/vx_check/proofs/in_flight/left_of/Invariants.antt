use Rattle.std.proofs.Common.{◌≡◌, max, drop}
use Rattle.vx_check.specs.InFlight.{left_of}
use Rattle.vx_check.proofs.in_flight.left_of.Given as goal

abbrev pub invariant-writes : goal.invariant-writes
invariant-writes l = max l.most (left_of (drop l.write-index l.list) l.register) ≡ left_of l.list l.register
