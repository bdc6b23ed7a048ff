use Rattle.std.proofs.Common.{◌≡◌, map, drop}
use Rattle.vx_base.specs.Flight.{landed}
use Rattle.vx_isa.specs.Operations.{same}
use Rattle.vx_sim.specs.Flying.{write_of}
use Rattle.vx_sim.specs.Held.{held_by}
use Rattle.vx_sim.proofs.flights.land.Given as goal

abbrev pub invariant-loop-flight : goal.invariant-loop-flight
invariant-loop-flight l = landed same (held_by l.registers) (map (write_of 0) (drop l.flight-index l.flights)) ≡ landed same (held_by l.fn.registers) (map (write_of 0) l.fn.flights)
