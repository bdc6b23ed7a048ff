-- When a call may be inlined, taken apart as it is tested.
use Rattle.std.specs.Prelude.{◌≡◌, ◌<◌, ◌≤◌, ℕ, true, List, length}
use Rattle.vx_flow.specs.declared.graph.Bank.{Bank}
use Rattle.vx_flow.specs.declared.graph.Flow.{Flow}
use Rattle.vx_flow.specs.Rows.{lives}
use Rattle.vx_inline.specs.Inlined.{TheCall, Reaches, OnCycle, AreFree, named}
use Rattle.vx_inline.specs.Fitting.{fits}

-- a function is on no cycle of calls, and no function on one reaches it
pub record StandsApart (flow : Flow) (f : ℕ) : Type 0 where
  pub alone : OnCycle flow f → ⊥
  pub apart : (g : ℕ) → OnCycle flow g → Reaches flow g f → ⊥

-- some of so many functions is on a cycle and reaches f, where these rows list what is reached
pub record Entered (rows : List (List ℕ)) (count f : ℕ) : Type 0 where
  pub other : ℕ
  pub below : other < count
  pub cycle : lives rows other other ≡ true
  pub reaches : lives rows other f ≡ true

-- of each bank as many values of the caller are free as the callee names
pub record HasEnough (c : TheCall) : Type 0 where
  pub free : Bank → List ℕ
  pub are_free : (bank : Bank) → AreFree c bank (free bank)
  pub enough : (bank : Bank) → length (named c.callee bank) ≤ length (free bank)

pub record MayInline (flow : Flow) (f : ℕ) (c : TheCall) : Type 0 where
  pub fits : fits c ≡ true
  pub apart : StandsApart flow f
  pub enough : HasEnough c
