use Rattle.std.proofs.Common.{ℕ, Option, sym, ap, ◌∙◌}
use Rattle.vx_target.specs.Target.{by_way, time_to}
use Rattle.vx_slots.specs.Seen.{seen}
use Rattle.vx_calls.proofs.Waits.{answers, spared_most}
use Rattle.vx_calls.proofs.pauses.time_to.Goals as goal

pub returns-in-Some : goal.returns-in-Some
returns-in-Some c =
    let T = seen c.args.whole.now in
    let f = c.args.function in
    let r = c.args.register in
    answers _ _ _ c.by_way.ensures
    (ap (by_way T f c.in-Some.next c.args.to) (c.in_ok-cycles.ensures ∙ spared_most T f r c.args.to)
    ∙ ap (λ (o : Option ℕ). time_to T f o c.args.to r) (sym c.in-Some.is))

pub returns-in-None : goal.returns-in-None
returns-in-None c =
    let T = seen c.args.whole.now in
    let f = c.args.function in
    let r = c.args.register in
    c.in_ok-cycles.ensures ∙ spared_most T f r c.args.to ∙ ap (λ (o : Option ℕ). time_to T f o c.args.to r) (sym c.in-None.is)
