use Rattle.std.proofs.Common.{◌≡◌, ◌∷◌, [], length, ap, ◌∙◌, arith}
use Rattle.vx_flow.specs.Meaning.{waits}
use Rattle.vx_tally.specs.declared.machine.Waiting.{Waiting}
use Rattle.vx_tally.specs.Storage.{state_of, value_at}
use Rattle.vx_tally.specs.Machine.{active_of, stacked}
use Rattle.vx_tally.proofs.Running.{entered_is, stacked_push}
use Rattle.vx_tally.proofs.machine.enter.Goals as goal

pub returns : goal.returns
returns c =
    let m = c.args.machine.now in
    let base : c.len-base.result ≡ length m.storage.arrays.items = omega (arith, m.storage.arrays.ok.0) in
    let frame : Waiting = record { function = m.function; from = m.block; next = c.args.next; result = c.args.result_to; passed = c.replace-passed.result; base = m.base; values = c.replace-values.result } in
    let waiting : stacked [] c.push.new.self.items ≡ waits (active_of m) c.args.result_to m.block c.args.next (state_of m.storage) ∷ stacked [] m.waiting.items =
    ap (stacked []) c.in_ok-push.ensures.items ∙ stacked_push [] m.waiting.items frame
    ∙ ap (λ p. record { function = m.function; from = m.block; next = c.args.next; result = c.args.result_to; passed = p.items; base = m.base; values = value_at c.replace-values.result.items } ∷ stacked [] m.waiting.items) c.replace-passed.ensures.value
    ∙ ap (λ v. record { function = m.function; from = m.block; next = c.args.next; result = c.args.result_to; passed = m.passed.items; base = m.base; values = value_at v.items } ∷ stacked [] m.waiting.items) c.replace-values.ensures.value in
    entered_is (active_of m) c.args.function (value_at c.args.values.items) c.args.passed.items c.args.own.now c.args.result_to c.args.next c.replace-passed.new.dest.items c.len-base.result (value_at c.replace-values.new.dest.items) c.add_arrays.new.arrays.items (stacked [] c.push.new.self.items)
    (ap (λ p. p.items) c.replace-passed.ensures.after) base (ap (λ v. value_at v.items) c.replace-values.ensures.after) c.in_ok-add_arrays.ensures waiting
