use Rattle.std.proofs.Common.{◌≡◌, ◌<◌, ℕ, true}
use Rattle.vx_flow.specs.Rows.{lives}
use Rattle.vx_inline.proofs.permission.is_apart.Given as goal

abbrev pub invariant-loop-other : goal.invariant-loop-other
invariant-loop-other l = (g : ℕ) → g < l.other → lives l.reached g g ≡ true → lives l.reached g l.function ≡ true → ⊥
