-- What the words do that move the stack pointers of all clusters.
use Rattle.std.specs.Prelude.{◌≡◌, ◌≢◌, ◌<◌, ◌+◌, ℕ, suc, ℤ, List, [], ◌∷◌, length}
use Rattle.vx_base.specs.Arithmetic.{sum_of}
use Rattle.vx_isa.specs.declared.operation.Register.{Register}
use Rattle.vx_isa.specs.declared.operation.Register.TheVariants.{General}
use Rattle.vx_isa.specs.declared.program.Word.{Word}
use Rattle.vx_isa.specs.declared.program.WordProgram.{WordProgram}
use Rattle.vx_isa.specs.Machine.{State, register, words_from}
use Rattle.vx_isa.specs.Paths.{WordAt}
use Rattle.vx_target.specs.Target.{Target, stack_on, move_stack}
use Rattle.vx_target.specs.Carried.{WordsFit}

-- words stand in a program from a place on
abbrev pub AllAt : WordProgram → ℕ → List Word → Type 0
AllAt w p [] = Unit {0}
AllAt w p (word ∷ words) = WordAt w p word × AllAt w (p + 1) words

-- each stack pointer has a number added, and nothing else has changed
pub record StackMoved (T : Target) (w : WordProgram) (z : ℤ) (u : State) : Type 0 where
  pub to : State
  pub words : ℕ
  pub over_registers : (n : ℕ) → words_from T.machine (1 ∷ []) w (suc words + n) u ≡ words_from T.machine (1 ∷ []) w n to
  pub place : to.place ≡ u.place + length (move_stack T z)
  pub stack : (k : ℕ) → k < T.machine.clusters → register to (General (stack_on k)) ≡ sum_of (register u (General (stack_on k))) z
  pub others : (q : Register) → ((k : ℕ) → q ≢ General (stack_on k)) → register to q ≡ register u q
  pub memory : to.memory ≡ u.memory
  pub input : to.input ≡ u.input
  pub out : to.out ≡ u.out

abbrev pub StackLaw : Type 0
StackLaw =
    (T : Target) (w : WordProgram) → WordsFit T.machine w → (z : ℤ) (u : State) → u.flying ≡ [] → AllAt w u.place (move_stack T z) → StackMoved T w z u
