-- No word exceeds the machine, by the version of the program, and no register is read while a write to it is in flight, whenever within its
-- latency each write lands.
use Rattle.std.specs.Prelude.{◌≡◌, ◌≢◌, ℕ, zero, suc, ℤ, true, false, List, [], Some, slice_get, All, Contains, FitsSigned}
use Rattle.std.specs.Int.{w32}
use Rattle.vx_base.specs.Outcome.{On}
use Rattle.vx_isa.specs.declared.operation.Register.{Register}
use Rattle.vx_isa.specs.declared.program.Word.{Word}
use Rattle.vx_isa.specs.declared.program.WordProgram.{WordProgram}
use Rattle.vx_isa.specs.Numbers.{Numbers}
use Rattle.vx_isa.specs.Operations.{is_zero}
use Rattle.vx_isa.specs.Fits.{fits, operands}
use Rattle.vx_isa.specs.Machine.{Write, State, step, start, issuing_machine}

-- n words lead from s to t
abbrev pub Reaches : Numbers → List ℕ → WordProgram → ℕ → State → State → Type 0
Reaches m times w zero s t = s ≡ t
Reaches m times w (suc n) s t = (u : State) × (step m times w s ≡ On u) × Reaches m times w n u t

-- a write to the register is in flight
abbrev pub IsPending : State → Register → Type 0
IsPending s r = (x : Write) × Contains s.flying x × (x.to ≡ r)

pub record Strict (m : Numbers) (w : WordProgram) : Type 0 where
  pub fit : (p : ℕ) (word : Word) → slice_get w.words p ≡ Some word → fits (issuing_machine w m) word.ops ≡ true
  pub never_early : (times : List ℕ) (input : List ℤ) (n : ℕ) (s : State) (word : Word) (r : Register) → times ≢ [] →
      All (FitsSigned w32) input → Reaches (issuing_machine w m) times w n (start w input) s → slice_get w.words s.place ≡ Some word →
      Contains (operands word.ops) r → is_zero r ≡ false → IsPending s r → ⊥
