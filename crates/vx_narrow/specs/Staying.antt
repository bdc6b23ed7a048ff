-- A flow of a program, with its decided splits one way and its results read where they stand, stays a flow of it.
use Rattle.std.specs.Prelude.{◌≡◌, ℕ, List, true}
use Rattle.vx_ast.specs.Tree.{Program}
use Rattle.vx_flow.specs.declared.graph.Flow.{Flow}
use Rattle.vx_flow.specs.Sound.{is_sound_flow}
use Rattle.vx_lower.specs.FlowOf.{FlowOf}
use Rattle.vx_claims.specs.declared.claim.Claim.{Claim}
use Rattle.vx_claims.specs.declared.intervals.Interval.{Interval}
use Rattle.vx_narrow.specs.Checking.{Checked}
use Rattle.vx_narrow.specs.Rewriting.{narrowed}

-- where what comes out is sound, which is tested
abbrev pub StaysFlow : Type 0
StaysFlow = (p : Program) (flow : Flow) (given : ℕ → List Interval) (claims : ℕ → ℕ → Claim) → Checked flow given claims → FlowOf p flow → is_sound_flow (narrowed claims flow) ≡ true → FlowOf p (narrowed claims flow)
