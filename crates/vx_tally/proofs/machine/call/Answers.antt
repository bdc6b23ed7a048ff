use Rattle.std.proofs.Common.{◌≡◌, ◌+◌, nat_le, length, ap, sym, subst, ◌∙◌, [], arith}
use Rattle.vx_flow.specs.Meaning.{deepest}
use Rattle.vx_tally.specs.Machine.{active_of, stacked, IsStep}
use Rattle.vx_tally.proofs.Running.{calls_on, full_stops, stacked_length}
use Rattle.vx_tally.proofs.machine.call.Goals as goal

pub returns-then-is_full : goal.returns-then-is_full
returns-then-is_full c =
    let m = c.args.machine.now in
    let n = stacked_length [] m.waiting.items in
    let count : length (stacked [] m.waiting.items) ≡ c.len.result = omega (arith, m.waiting.ok.0) in
    full_stops c.args.flow.now (active_of m) c.args.function c.args.arguments.now c.args.result_to c.args.next (ap (λ k. nat_le deepest (k + 1)) count ∙ sym c.is_full.ensures ∙ c.if-is_full.true)

pub returns : goal.returns
returns c =
    let m = c.args.machine.now in
    let n = stacked_length [] m.waiting.items in
    let count : length (stacked [] m.waiting.items) ≡ c.len.result = omega (arith, m.waiting.ok.0) in
    let e = calls_on c.args.flow.now (active_of m) c.args.function c.args.arguments.now c.args.result_to c.args.next (ap (λ k. nat_le deepest (k + 1)) count ∙ sym c.is_full.ensures ∙ c.if-is_full.false) in
    subst (λ s. IsStep c.in_ok-ending.ending s c.call_any.new.machine) (sym e) c.in_ok-ending.ensures
