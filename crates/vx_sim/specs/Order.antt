-- A law of runs: the order of issue of writes in flight counts only among those that land in the same cycle.
use Rattle.std.specs.Prelude.{◌≡◌, ℕ, List}
use Rattle.vx_isa.specs.declared.program.WordProgram.{WordProgram}
use Rattle.vx_isa.specs.Numbers.{Numbers}
use Rattle.vx_isa.specs.Machine.{State, words_from}
use Rattle.vx_probe.specs.declared.event.Event.{Event}
use Rattle.vx_sim.specs.Flying.{by_landing}
use Rattle.vx_sim.specs.Passed.{state_from, events_from}

-- its writes in flight are listed by landing cycle
abbrev pub in_order : State → State
in_order s = record s { flying = by_landing s.flying }

-- what a run within a bound comes to, what its probes are shown, and where it stands
pub record SameRun (m : Numbers) (times : List ℕ) (w : WordProgram) (n : ℕ) (s t : State) : Type 0 where
  pub outcome : words_from m times w n s ≡ words_from m times w n t
  pub events : events_from m times w n s ≡ events_from m times w n t
  pub state : in_order (state_from m times w n s) ≡ in_order (state_from m times w n t)

abbrev pub OrderLaw : Type 0
OrderLaw = (m : Numbers) (times : List ℕ) (w : WordProgram) (n : ℕ) (s : State) → SameRun m times w n (in_order s) s
