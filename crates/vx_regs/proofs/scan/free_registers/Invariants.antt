use Rattle.std.proofs.Common.{◌≡◌, ℕ, length}
use Rattle.vx_regs.specs.declared.spans.Span.{Span}
use Rattle.vx_regs.specs.Spans.{Holds}
use Rattle.vx_regs.proofs.scan.free_registers.Given as goal

abbrev pub invariant-registers : goal.invariant-registers
invariant-registers l = (length l.held.items ≡ l.counter) × ((i : ℕ) (s : Span) → Holds l.held.items i s → ⊥)
