use Rattle.std.proofs.Common.{Option, List, length, subst}
use Rattle.vx_regs.specs.declared.spans.Span.{Span}
use Rattle.vx_regs.specs.Held.{IsLast}
use Rattle.vx_regs.specs.Spans.{AllHeld, FreeFrom}
use Rattle.vx_regs.proofs.Holding.{gives_free}
use Rattle.vx_regs.proofs.scan.give.Goals as goal

pub returns-in_ok-take-in-Some : goal.returns-in_ok-take-in-Some
returns-in_ok-take-in-Some c =
    let free = subst (λ (z : List (Option Span)). FreeFrom z c.args.span.from c.in-Some.register) c.as_slice.ensures.value c.in-Some.ensures in
    gives_free c.args.span c.args.first c.args.next c.args.held.now.items c.take.new.held.items c.args.kept.now.items c.take.new.kept.items c.in-Some.register free c.in_ok-take-in-Some.ensures.held c.in_ok-take-in-Some.ensures.kept

pub give_last-requires-clause-held : goal.give_last-requires-clause-held
give_last-requires-clause-held c = subst (λ (z : List (Option Span)). AllHeld z c.args.span.from) c.as_slice.ensures.value c.in-None.ensures

pub give_last-requires-clause-last : goal.give_last-requires-clause-last
give_last-requires-clause-last c = subst (λ (z : List (Option Span)). IsLast z c.args.span (length z) c.last_of-last.result) c.as_slice-in-None.ensures.value c.last_of-last.ensures
