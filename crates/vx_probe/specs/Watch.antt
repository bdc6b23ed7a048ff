-- A probe: a list of numbers, the step that the list takes at an event, and the text of each list.
use Rattle.std.specs.Prelude.{ℕ, List, [], ◌∷◌}
use Rattle.vx_probe.specs.declared.event.Event.{Event}

pub record Watch : Type 0 where
  pub numbers : List ℕ
  pub next : List ℕ → Event → List ℕ
  pub text : List ℕ → List ℕ

-- the list takes its step, and the step and the text stay
abbrev pub shown : Watch → Event → Watch
shown w e = record w { numbers = w.next w.numbers e }

-- one event after another
abbrev pub shown_all : List Event → Watch → Watch
shown_all [] w = w
shown_all (e ∷ es) w = shown_all es (shown w e)

-- what the probe reports
abbrev pub report_of : Watch → List ℕ
report_of w = w.text w.numbers
