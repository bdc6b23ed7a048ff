use Rattle.std.proofs.Common.{◌≡◌, ◌++◌, ◌∷◌, [], None, Option, List, ap, sym, subst, length, length-append, arith}
use Rattle.std.specs.Prelude.{ℕ}
use Rattle.vx_regs.specs.declared.spans.Span.{Span}
use Rattle.vx_regs.specs.Spans.{Holds}
use Rattle.vx_regs.proofs.Holding.{none_held}
use Rattle.vx_regs.proofs.scan.free_registers.Goals as goal

-- one register more
pub registers-preserved : goal.registers-preserved
registers-preserved c =
    let held = c.registers.held.items in
    let many = c.registers.invariant.0 in
    let pushed : c.push.new.self.items ≡ held ++ None ∷ [] = c.in_ok-push.ensures.items in
    let one = ap length pushed in
    let two = length-append held (None ∷ []) in
    (omega arith, subst (λ (xs : List (Option Span)). (i : ℕ) (s : Span) → Holds xs i s → ⊥) (sym pushed) (none_held held c.registers.invariant.1))
