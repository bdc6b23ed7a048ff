-- Planned words over values and over registers: from tied states both come to tied states.
use Rattle.std.specs.Prelude.{◌≡◌, ◌⊎◌, ◌+◌, ℕ, suc, ℤ, Option, true, Some, List, [], ◌∷◌, slice_get}
use Rattle.vx_base.specs.Outcome.{Outcome, IsOver, NeverFails, Over}
use Rattle.vx_flow.specs.declared.graph.Flow.{Flow}
use Rattle.vx_flow.specs.declared.graph.Operand.{Operand}
use Rattle.vx_flow.specs.Meaning.{Active, next, program_run, at_start, globals_at_start}
use Rattle.vx_flow.specs.Sound.{is_sound_flow}
use Rattle.vx_isa.specs.declared.program.WordProgram.{WordProgram}
use Rattle.vx_isa.specs.Machine.{State, words_from, start}
use Rattle.vx_mixed.specs.declared.layout.Laid.{Laid}
use Rattle.vx_mixed.specs.declared.layout.VWords.{VWords}
use Rattle.vx_mixed.specs.declared.layout.VirtualWord.{VirtualWord}
use Rattle.vx_mixed.specs.declared.layout.VirtualWord.TheVariants.{Planned, Drain, Transfer, Choice, Call, Return, Ends}
use Rattle.vx_layout.specs.Laid.{laid_program, laid_run}
use Rattle.vx_target.specs.Target.{Target}
use Rattle.vx_target.specs.Tied.{Tied}
use Rattle.vx_target.specs.Carried.{Carries, WordsFit}

-- one step or more over values, and one word or more over registers, to tied states: a jump goes past transfers
pub record CarriesOn (T : Target) (flow : Flow) (ls : List VWords) (w : WordProgram) (r : Active) (u : State) : Type 0 where
  pub after : Active
  pub to : State
  pub steps : ℕ
  pub words : ℕ
  pub over_values : (n : ℕ) → program_run (laid_program flow ls) (suc steps + n) r ≡ program_run (laid_program flow ls) n after
  pub over_registers : (n : ℕ) → words_from T.machine (1 ∷ []) w (suc words + n) u ≡ words_from T.machine (1 ∷ []) w n to
  pub tied : Tied T flow ls after to

-- where the words fit, each planned word of a layout is carried: all its operations on values, in the registers or slots where
-- these are kept, and its splits
abbrev pub PlannedLaw : Type 0
PlannedLaw =
    (T : Target) (flow : Flow) (ls : List VWords) (w : WordProgram) → is_sound_flow flow ≡ true → Carries T flow ls w → WordsFit T.machine w →
    (r : Active) (u : State) → Tied T flow ls r u → (p region word : ℕ) (items : List Laid) → r.block ≡ suc p → slice_get (T.layout r.function).words p ≡ Some (Planned region word items) → CarriesOn T flow ls w r u

-- drains, transfers, choices and ends: all words of a layout but planned ones, calls and returns
abbrev pub Simple : VirtualWord → Type 0
Simple (Drain n) = Unit {0}
Simple (Transfer q) = Unit {0}
Simple (Choice test q) = Unit {0}
Simple (Ends k) = Unit {0}
Simple (Planned region word items) = ⊥
Simple (Call g arguments result) = ⊥
Simple (Return x) = ⊥

-- both runs end, and alike
pub record EndsAlike (T : Target) (flow : Flow) (ls : List VWords) (w : WordProgram) (r : Active) (u : State) : Type 0 where
  pub outcome : Outcome
  pub over : IsOver outcome
  pub words : ℕ
  pub over_values : next (laid_program flow ls) r ≡ Over outcome
  pub over_registers : words_from T.machine (1 ∷ []) w words u ≡ outcome

-- one step or more over values, to a word of a layout, and no word over registers
pub record FallsThrough (T : Target) (flow : Flow) (ls : List VWords) (r : Active) (u : State) : Type 0 where
  pub after : Active
  pub place : ℕ
  pub block : after.block ≡ suc place
  pub steps : ℕ
  pub over_values : (n : ℕ) → program_run (laid_program flow ls) (suc steps + n) r ≡ program_run (laid_program flow ls) n after
  pub tied : Tied T flow ls after u

-- so does a transfer or an empty cycle to the next place of its function, where it has no word
pub record FallsNext (T : Target) (flow : Flow) (ls : List VWords) (p : ℕ) (r : Active) (u : State) : Type 0 where
  pub falls : FallsThrough T flow ls r u
  pub place : falls.place ≡ suc p
  pub function : falls.after.function ≡ r.function

-- so are these carried
abbrev pub SimpleLaw : Type 0
SimpleLaw =
    (T : Target) (flow : Flow) (ls : List VWords) (w : WordProgram) → is_sound_flow flow ≡ true → Carries T flow ls w → WordsFit T.machine w →
    (r : Active) (u : State) → Tied T flow ls r u → (p : ℕ) (word : VirtualWord) → r.block ≡ suc p → slice_get (T.layout r.function).words p ≡ Some word → Simple word → (CarriesOn T flow ls w r u ⊎ EndsAlike T flow ls w r u) ⊎ FallsNext T flow ls p r u

-- and so is the start of a function: its link is stored in its frame where it calls, and parameters come to their registers. Where
-- nothing is to be done, no word stands there
abbrev pub EntryLaw : Type 0
EntryLaw =
    (T : Target) (flow : Flow) (ls : List VWords) (w : WordProgram) → is_sound_flow flow ≡ true → Carries T flow ls w → WordsFit T.machine w →
    (r : Active) (u : State) → Tied T flow ls r u → r.block ≡ 0 → CarriesOn T flow ls w r u ⊎ FallsThrough T flow ls r u

-- at the start the first words set the stack pointers and call the first function, and come to a state tied to the start over values
pub record StartsTied (T : Target) (flow : Flow) (ls : List VWords) (w : WordProgram) (input : List ℤ) : Type 0 where
  pub to : State
  pub words : ℕ
  pub over_registers : (n : ℕ) → words_from T.machine (1 ∷ []) w (suc words + n) (start w input) ≡ words_from T.machine (1 ∷ []) w n to
  pub tied : Tied T flow ls (at_start (laid_program flow ls) flow.main (globals_at_start flow input)) to

abbrev pub StartLaw : Type 0
StartLaw =
    (T : Target) (flow : Flow) (ls : List VWords) (w : WordProgram) → is_sound_flow flow ≡ true → Carries T flow ls w → WordsFit T.machine w →
    (input : List ℤ) → NeverFails (laid_run flow ls input) → StartsTied T flow ls w input

-- and so is a call: what is live behind it is saved, and its arguments are passed; one too deep ends both runs by the trap
abbrev pub CallLaw : Type 0
CallLaw =
    (T : Target) (flow : Flow) (ls : List VWords) (w : WordProgram) → is_sound_flow flow ≡ true → Carries T flow ls w → WordsFit T.machine w →
    (r : Active) (u : State) → Tied T flow ls r u → (p g : ℕ) (arguments : List Operand) (result : Option ℕ) → r.block ≡ suc p → slice_get (T.layout r.function).words p ≡ Some (Call g arguments result) → CarriesOn T flow ls w r u ⊎ EndsAlike T flow ls w r u
