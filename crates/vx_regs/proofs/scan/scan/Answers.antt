use Rattle.std.proofs.Common.{◌∷◌, List, subst}
use Rattle.std.proofs.lemmas.List.{nil_from_length}
use Rattle.vx_regs.specs.declared.spans.Span.{Span}
use Rattle.vx_regs.proofs.Scans.{Going, going_first, going_on, going_over}
use Rattle.vx_regs.proofs.scan.scan.Goals as goal

pub scan-init : goal.scan-init
scan-init c =
    going_first c.args.machine.now c.args.spans.now c.registers_of.result c.in_ok-held.held.items c.args.kept.now.items c.requires c.registers_of.ensures c.in_ok-held.ensures.count c.in_ok-held.ensures.free

pub returns-in-None : goal.returns-in-None
returns-in-None c =
    going_over c.args.machine.now c.args.spans.now c.scan.file c.scan.next c.scan.held.items c.scan.kept.items
    (subst (λ (z : List Span). Going c.args.machine.now c.args.spans.now z c.scan.file c.scan.held.items c.scan.kept.items c.scan.next) (nil_from_length c.scan.rest.now c.in-None.ensures.cases) c.scan.invariant)

pub scan-preserved : goal.scan-preserved
scan-preserved c =
    let g : Going c.args.machine.now c.args.spans.now (c.in-Some.span.now ∷ c.in-Some.others.now) c.scan.file c.scan.held.items c.scan.kept.items c.scan.next =
    subst (λ (z : List Span). Going c.args.machine.now c.args.spans.now z c.scan.file c.scan.held.items c.scan.kept.items c.scan.next) c.in-Some.ensures.cases.0 c.scan.invariant in
    going_on c.args.machine.now c.args.spans.now c.in-Some.others.now c.in-Some.span.now c.scan.file c.first_register.result c.scan.next c.in_ok-next-in-Some.next c.scan.held.items c.in_ok-held-in-Some.held.items c.give.new.held.items c.scan.kept.items c.give.new.kept.items
    g c.in_ok-held-in-Some.ensures c.first_register.ensures c.in_ok-next-in-Some.ensures
