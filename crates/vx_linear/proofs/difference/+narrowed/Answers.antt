use Rattle.std.proofs.Common.{◌/◌, ◌*◌, arith, sym, ◌∙◌, subst, ap}
use Rattle.vx_linear.specs.Steps.{IsStep, stays, halves}
use Rattle.vx_linear.proofs.Narrowing.{has_half, half_is, step_above}
use Rattle.vx_linear.proofs.difference.+narrowed.Goals as goal

pub narrowed-requires : goal.narrowed-requires
narrowed-requires t c =
    let h = has_half c.args.step _ c.requires c.if-number-step-eq0.false in
    let e = half_is c.args.step h in
    (let above = step_above c.args.step c.requires in omega (arith, above, c.decreases), subst IsStep (sym e) h.is_step)

pub returns-then-number-step-eq0-clause-narrows : goal.returns-then-number-step-eq0-clause-narrows
returns-then-number-step-eq0-clause-narrows t c = stays c.if-number-step-eq0.true

pub returns-else-number-step-eq0-clause-narrows : goal.returns-else-number-step-eq0-clause-narrows
returns-else-number-step-eq0-clause-narrows t c =
    let h = has_half c.args.step _ c.requires c.if-number-step-eq0.false in
    halves (c.args.step / 2) (h.is ∙ ap (λ x. 2 * x) (sym (half_is c.args.step h))) c.if-number-step-eq0.false c.narrowed.ensures.narrows
