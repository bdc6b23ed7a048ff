-- What shows the numbers of values where arrays can be given: also places in such arrays, and their bases.
use Rattle.std.specs.Prelude.{◌≡◌, ◌<◌, ◌≤◌, ◌*◌, ℕ, ℤ, pos, List, ◌∷◌}
use Rattle.vx_base.specs.Arithmetic.{sum_of}
use Rattle.vx_flow.specs.declared.graph.Global.{Global}
use Rattle.vx_target.specs.Target.{Target}
use Rattle.vx_target.specs.Tied.{Stacked, seat}

pub data AnyKind : Type 0 where
  Itself : AnyKind
  InFrame : AnyKind
  InGiven : (array : ℕ) → AnyKind
  GivenBase : (array : ℕ) → AnyKind
  AnyBase : AnyKind

-- by the seats of rows, of which those in front of `end` stand, and the spots of arrays: a place in an array that is given has the address of the
-- row at its spot added; a base is the number of a row, and shown by the address of that row. That of an array that is given is its spot
abbrev pub IsShownBy : (seats spot : ℕ → ℕ) → (end frame : ℕ) → AnyKind → (n x : ℤ) → Type 0
IsShownBy seats spot end sp Itself n x = x ≡ n
IsShownBy seats spot end sp InFrame n x = x ≡ sum_of n (pos (4 * sp))
IsShownBy seats spot end sp (InGiven a) n x = (spot a < end) × (x ≡ sum_of n (pos (4 * seats (spot a))))
IsShownBy seats spot end sp (GivenBase a) n x = (spot a < end) × (n ≡ pos (spot a)) × (x ≡ pos (4 * seats (spot a)))
IsShownBy seats spot end sp AnyBase n x = (k : ℕ) × (k < end) × (n ≡ pos k) × (x ≡ pos (4 * seats k))

-- what is shown to an activation is shown to it when a function is entered above it, and when that returns
pub record SameShown (T : Target) (globals : List Global) (y : Stacked) (stack : List Stacked) (spot : ℕ → ℕ) (end sp : ℕ) (kind : AnyKind) (n x : ℤ) : Type 0 where
  pub there : IsShownBy (λ k. seat T globals stack k) spot end sp kind n x → IsShownBy (λ k. seat T globals (y ∷ stack) k) spot end sp kind n x
  pub back : IsShownBy (λ k. seat T globals (y ∷ stack) k) spot end sp kind n x → IsShownBy (λ k. seat T globals stack k) spot end sp kind n x

abbrev pub ShownLaw : Type 0
ShownLaw = (T : Target) (globals : List Global) (y : Stacked) (stack : List Stacked) (spot : ℕ → ℕ) (end sp : ℕ) (kind : AnyKind) (n x : ℤ) → end ≤ y.base → SameShown T globals y stack spot end sp kind n x

-- a base, of whatever kind, that is passed: its number is a row in front of the called function's own, and it is shown there as the base of what is given
abbrev pub IsBase : AnyKind → Type 0
IsBase Itself = ⊥
IsBase InFrame = ⊥
IsBase (InGiven a) = ⊥
IsBase (GivenBase a) = Unit {0}
IsBase AnyBase = Unit {0}

pub record IsPassed (T : Target) (globals : List Global) (y : Stacked) (stack : List Stacked) (n x : ℤ) : Type 0 where
  pub row : ℕ
  pub is : n ≡ pos row
  pub front : row < y.base
  pub shown : (given : ℕ → ℕ) (a behind sp : ℕ) → given a ≡ row → y.base ≤ behind → IsShownBy (λ k. seat T globals (y ∷ stack) k) given behind sp (GivenBase a) n x

abbrev pub PassedLaw : Type 0
PassedLaw =
    (T : Target) (globals : List Global) (y : Stacked) (stack : List Stacked) (spot : ℕ → ℕ) (end sp : ℕ) (kind : AnyKind) (n x : ℤ) → end ≤ y.base → IsBase kind → IsShownBy (λ k. seat T globals stack k) spot end sp kind n x → IsPassed T globals y stack n x
