-- Returns over values and over registers: from tied states both come to tied states, or end with the result.
use Rattle.std.specs.Prelude.{◌≡◌, ◌⊎◌, true, ℕ, suc, Some, List, slice_get}
use Rattle.vx_flow.specs.declared.graph.Flow.{Flow}
use Rattle.vx_flow.specs.declared.graph.Operand.{Operand}
use Rattle.vx_flow.specs.Meaning.{Active}
use Rattle.vx_flow.specs.Sound.{is_sound_flow}
use Rattle.vx_isa.specs.declared.program.WordProgram.{WordProgram}
use Rattle.vx_isa.specs.Machine.{State}
use Rattle.vx_mixed.specs.declared.layout.VWords.{VWords}
use Rattle.vx_mixed.specs.declared.layout.VirtualWord.TheVariants.{Return}
use Rattle.vx_target.specs.Target.{Target}
use Rattle.vx_target.specs.Tied.{Tied}
use Rattle.vx_target.specs.Carried.{Carries, WordsFit}
use Rattle.vx_tie.specs.Planned.{CarriesOn, EndsAlike}

-- the words of a return and those behind the call come to tied states at the word behind the call: the stack pointers are those of
-- the caller, its result is where it is kept, and what was saved is back. With no function waiting both runs end with the result
abbrev pub ReturnLaw : Type 0
ReturnLaw =
    (T : Target) (flow : Flow) (ls : List VWords) (w : WordProgram) → is_sound_flow flow ≡ true → Carries T flow ls w → WordsFit T.machine w →
    (r : Active) (u : State) → Tied T flow ls r u → (p : ℕ) (x : Operand) → r.block ≡ suc p → slice_get (T.layout r.function).words p ≡ Some (Return x) → CarriesOn T flow ls w r u ⊎ EndsAlike T flow ls w r u
