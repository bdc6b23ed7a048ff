-- What a call of the simulator leaves: the word machine from where the simulator stands, with the timing's list from its
-- place on.
use Rattle.std.specs.Prelude.{◌≡◌, ◌<◌, ℕ, ◌+◌, ◌-◌, Bool, true, false, List, ◌++◌, Option, length, map}
use Rattle.vx_base.specs.Outcome.{Outcome, Ends, Traps, Stuck, Goes, IsGoing, Begins, output_of}
use Rattle.vx_io.specs.Outside.{with_bytes}
use Rattle.vx_isa.specs.Machine.{State, words_from}
use Rattle.vx_probe.specs.Times.{Times, list_of, moved_by}
use Rattle.vx_probe.specs.Watch.{Watch, shown_all}
use Rattle.vx_probe.specs.declared.event.Event.{Event}
use Rattle.vx_sim.specs.Flying.{flying_of}
use Rattle.vx_sim.specs.Passed.{counted, state_from, events_from}
use Rattle.vx_sim.specs.Standing.{state_of, standing_at, rested}
use Rattle.vx_sim.specs.declared.sim.Sim.{Sim}
use Rattle.vx_sim.specs.declared.ended.Ended.{Ended}
use Rattle.vx_sim.specs.declared.ended.Ended.TheVariants.{Halted, Trapped, Stopped, Stuck as StuckAt, SinkFault}

-- the state in which the simulator stands
abbrev pub stands : Sim → State
stands sim = state_of sim.standing (flying_of sim.ring)

-- where a call begins: the next landing time is that at the place of the timing
abbrev pub begun : Sim → Times → State
begun sim times = standing_at sim.standing (flying_of sim.ring) times

abbrev pub is_fault : Ended → Bool
is_fault SinkFault = true
is_fault ended = false

-- the program has ended, is stuck, or its output is cut
abbrev pub is_over : Ended → Bool
is_over Stopped = false
is_over ended = true

-- the outcome of an answer; a run whose sink failed goes on where it stands
abbrev pub outcome_of : Ended → List ℕ → Outcome
outcome_of (Halted z) out = Ends z out
outcome_of (Trapped k) out = Traps k out
outcome_of Stopped out = Goes out
outcome_of (StuckAt why p) out = Stuck why p out
outcome_of SinkFault out = Goes out

-- all of the output is put
pub record Whole (words bound : ℕ) (outcome : Outcome) (told told' : Option (List ℕ)) : Type 0 where
  pub bound_is : bound ≡ words
  pub put : told' ≡ with_bytes told (output_of outcome)

-- the words within the bound took effect, and of the text of the next one only a front is put
pub record Cut (words bound : ℕ) (outcome next : Outcome) (told told' : Option (List ℕ)) : Type 0 where
  pub below : bound < words
  pub goes : IsGoing outcome
  pub front : List ℕ
  pub begins : Begins (output_of outcome ++ front) (output_of next)
  pub put : told' ≡ with_bytes told (output_of outcome ++ front)

module _ (before : Sim) (times : Times) where
  abbrev pub outcome_at : ℕ → Outcome
  outcome_at n = words_from before.machine (list_of times) before.program n (begun before times)

  abbrev pub state_at : ℕ → State
  state_at n = state_from before.machine (list_of times) before.program n (begun before times)

  abbrev pub events_at : ℕ → List Event
  events_at n = events_from before.machine (list_of times) before.program n (begun before times)

-- a call for so many words
pub record Ran (words : ℕ) (before after : Sim) (times times' : Times) (watches watches' : List Watch) (told told' : Option (List ℕ)) (ended : Ended) : Type 0 where
  -- all words that were asked for, but where the sink failed those before the one whose text is cut
  pub bound : ℕ
  pub whole : is_fault ended ≡ false → Whole words bound (outcome_at before times bound) told told'
  pub cut : is_fault ended ≡ true → Cut words bound (outcome_at before times bound) (outcome_at before times (bound + 1)) told told'
  pub answer : outcome_at before times bound ≡ outcome_of ended (output_of (outcome_at before times bound))
  pub state : stands after ≡ rested (state_at before times bound)
  pub timing : times' ≡ moved_by ((state_at before times bound).asked - times.place) times
  pub seen : watches' ≡ map (shown_all (events_at before times bound)) watches
  pub issued : after.issued ≡ counted (before.issued + length (events_at before times bound))
  pub over : after.ended ≡ is_over ended
  pub same_program : after.program ≡ before.program
  pub same_machine : after.machine ≡ before.machine
