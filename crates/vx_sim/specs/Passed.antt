-- What is left of a run of the word machine within a bound, beside its outcome: the state in which it stands and the
-- events of the words that took effect.
use Rattle.std.specs.Prelude.{ℕ, zero, suc, ◌+◌, ◌-◌, ◌^◌, Bool, true, false, ◌==◌, not, min, List, [], ◌∷◌, count_by, Option, Some, None, slice_get}
use Rattle.vx_base.specs.Outcome.{Step, On, Over}
use Rattle.vx_isa.specs.declared.operation.UnitKind.TheVariants.{Alu, Multiply, Memory, Copies}
use Rattle.vx_isa.specs.declared.program.Word.{Word}
use Rattle.vx_isa.specs.declared.program.WordProgram.{WordProgram}
use Rattle.vx_isa.specs.Numbers.{Numbers}
use Rattle.vx_isa.specs.Operations.{is_control}
use Rattle.vx_isa.specs.Fits.{is_of}
use Rattle.vx_isa.specs.Machine.{State, Lead, To, Halts, TrapsBy, lead_of, effect, stuck_by, step}
use Rattle.vx_probe.specs.declared.event.Event.{Event}

-- a count stays at the greatest of 64 bits
abbrev pub counted : ℕ → ℕ
counted n = min n (2 ^ 64 - 1)

-- the next place is there, and is not the following word
abbrev pub leads_away : ℕ → Lead → Bool
leads_away here (To p) = not (p == here + 1)
leads_away here (Halts z) = false
leads_away here (TrapsBy k) = false

abbrev pub event_of : State → Word → Event
event_of s word = record {
  place = s.place;
  cycle = counted s.cycle;
  alu = count_by (is_of Alu) word.ops;
  multiply = count_by (is_of Multiply) word.ops;
  memory = count_by (is_of Memory) word.ops;
  copy = count_by (is_of Copies) word.ops;
  control = count_by is_control word.ops;
  taken = leads_away s.place (lead_of s word.ops);
}

-- a word that ends the program leaves its place
abbrev pub led_by : Lead → State → State
led_by (To p) s = record s { place = p }
led_by (Halts z) s = s
led_by (TrapsBy k) s = s

-- the state that a word leaves, and its event, where it takes effect

pub record Taken : Type 0 where
  pub event : Event
  pub state : State

abbrev pub unless_stuck : {A R : Type 0} → Option R → A → Option A
unless_stuck (Some why) x = None
unless_stuck None x = Some x

abbrev pub issued : Numbers → List ℕ → WordProgram → State → Option Word → Option Taken
issued m times w s None = None
issued m times w s (Some word) =
    unless_stuck (stuck_by m w s word.ops) (record { event = event_of s word; state = led_by (lead_of s word.ops) (effect m times w s word) })

abbrev pub taken : Numbers → List ℕ → WordProgram → State → Option Taken
taken m times w s = issued m times w s (slice_get w.words s.place)

-- at most so many words

abbrev pub goes_on : {S : Type 0} → Step S → Bool
goes_on (On t) = true
goes_on (Over o) = false

abbrev pub state_then : (State → State) → Bool → State → Option Taken → State
state_then more goes s None = s
state_then more true s (Some t) = more t.state
state_then more false s (Some t) = t.state

abbrev pub state_from : Numbers → List ℕ → WordProgram → ℕ → State → State
state_from m times w zero s = s
state_from m times w (suc n) s = state_then (state_from m times w n) (goes_on (step m times w s)) s (taken m times w s)

abbrev pub events_then : (State → List Event) → Bool → Option Taken → List Event
events_then more goes None = []
events_then more true (Some t) = t.event ∷ more t.state
events_then more false (Some t) = t.event ∷ []

abbrev pub events_from : Numbers → List ℕ → WordProgram → ℕ → State → List Event
events_from m times w zero s = []
events_from m times w (suc n) s = events_then (events_from m times w n) (goes_on (step m times w s)) (taken m times w s)
