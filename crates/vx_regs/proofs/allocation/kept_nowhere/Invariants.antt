use Rattle.std.proofs.Common.{◌≡◌, ℕ, length}
use Rattle.vx_regs.specs.declared.map.Kept.TheVariants.{Nowhere}
use Rattle.vx_regs.specs.Spans.{kept_at}
use Rattle.vx_regs.proofs.allocation.kept_nowhere.Given as goal

abbrev pub invariant-values : goal.invariant-values
invariant-values l = (length l.kept.items ≡ l.counter) × ((v : ℕ) → kept_at l.kept.items v ≡ Nowhere)
