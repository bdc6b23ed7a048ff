-- Where the simulator stands, as a state of the word machine.
use Rattle.std.specs.Prelude.{List, [], drop}
use Rattle.vx_isa.specs.Machine.{State, Write}
use Rattle.vx_probe.specs.Times.{Times}
use Rattle.vx_sim.specs.Passed.{counted}
use Rattle.vx_sim.specs.Flying.{by_landing}
use Rattle.vx_sim.specs.declared.state.Standing.{Standing}
use Rattle.vx_sim.specs.Held.{held_by, word_of}

-- it prints from nothing on, and asks for landing times from the first one on
abbrev pub state_of : Standing → List Write → State
state_of now flying = record {
  place = now.place;
  cycle = now.cycle;
  registers = held_by now.registers;
  flying = flying;
  memory = word_of now.memory.items;
  input = drop now.taken now.input.items;
  out = [];
  asked = 0;
}

-- the next landing time is that at the place of the timing
abbrev pub standing_at : Standing → List Write → Times → State
standing_at now flying times = record (state_of now flying) { asked = times.place }

-- As it stands behind a word: its output is put, and its cycle stays at the greatest of 64 bits. Its writes in flight
-- are listed by landing cycle, for each cycle in the order of issue.
abbrev pub rested : State → State
rested s = record s { cycle = counted s.cycle; flying = by_landing s.flying; out = []; asked = 0 }
