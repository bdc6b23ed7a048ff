-- The laws of programs that are finished from spaced layouts of a sound flow.
use Rattle.std.specs.Prelude.{◌≡◌, ℕ, true, Some, List}
use Rattle.vx_flow.specs.declared.graph.Flow.{Flow}
use Rattle.vx_flow.specs.Sound.{is_sound_flow}
use Rattle.vx_isa.specs.Numbers.{Numbers}
use Rattle.vx_mixed.specs.declared.layout.VWords.{VWords}
use Rattle.vx_regs.specs.declared.map.RegMap.{RegMap}
use Rattle.vx_target.specs.declared.finished.Finished.{Finished}
use Rattle.vx_target.specs.Finish.{Finishes}
use Rattle.vx_target.specs.Target.{Target, turn}
use Rattle.vx_tie.specs.Plans.{AreSpaced, CarriesPlan, IsEntrance}
use Rattle.vx_tie.specs.Emitted.{Emitted}

-- It carries the plan at the places that come with it.
abbrev pub PlanLaw : Type 0
PlanLaw =
    (m : Numbers) (flow : Flow) (ls : List VWords) (maps : List RegMap) (x : Finished) (finishes : Finishes m flow ls maps x) →
    is_sound_flow flow ≡ true → AreSpaced ls → CarriesPlan finishes.finished.target ls x.places x.program

-- Its words are emitted.
abbrev pub EmittedLaw : Type 0
EmittedLaw = (m : Numbers) (flow : Flow) (ls : List VWords) (maps : List RegMap) (x : Finished) → Finishes m flow ls maps x → is_sound_flow flow ≡ true → AreSpaced ls → Emitted m flow ls maps x.places x.program

-- A goto of a layout leads to an entrance: past transfers, to where the last of them goes.
abbrev pub TurnLaw : Type 0
TurnLaw = (T : Target) (f p q : ℕ) → turn T f p ≡ Some q → IsEntrance (T.layout f) q
