use Rattle.std.proofs.Common.{◌≡◌, ◌≤◌, ◌+◌, ◌-◌, ℕ}
use Rattle.vx_base.specs.Flight.{landed_in, flying_in}
use Rattle.vx_isa.specs.Operations.{same}
use Rattle.vx_sim.specs.Flying.{flying_of}
use Rattle.vx_sim.specs.Held.{held_by}
use Rattle.vx_sim.specs.Passed.{counted}
use Rattle.vx_sim.specs.Room.{HasRoom}
use Rattle.vx_sim.proofs.flights.pass_cycles.Given as goal

abbrev pub invariant-cycles : goal.invariant-cycles
invariant-cycles l = record {
  counts : l.now ≡ counted (l.cycle + l.passed);
  lands : landed_in same (l.count - l.passed) (held_by l.registers) (flying_of l.ring) ≡ landed_in same l.count (held_by l.fn.registers) (flying_of l.fn.ring);
  flies : flying_in (l.count - l.passed) (flying_of l.ring) ≡ flying_in l.count (flying_of l.fn.ring);
  first : l.passed ≡ 0 → l.ring ≡ l.fn.ring;
  has_room : (widest here : ℕ) → 1 ≤ l.passed → here ≤ widest → HasRoom widest here l.fn.ring → HasRoom widest 0 l.ring;
}
