use Rattle.std.proofs.Common.{◌≡◌, IfOk, sym, ◌∙◌, subst, ap}
use Rattle.vx_linear.specs.Followed.{plain}
use Rattle.vx_linear.proofs.Writing.{known_none, known_symbol, known_made}
use Rattle.vx_linear.proofs.trace_forms.known_value.Goals as goal

pub returns-in_ok-symbol-in-None : goal.returns-in_ok-symbol-in-None
returns-in_ok-symbol-in-None c =
    let law = known_none c.args.trace.now c.args.place c.args.value c.last_writer.result c.last_writer.ensures.writer c.in-None.is in
    c.plain.ensures ∙ ap plain c.in_ok-symbol-in-None.ensures ∙ law

pub returns-then-has_join : goal.returns-then-has_join
returns-then-has_join c =
    let law = known_symbol c.args.trace.now c.args.place c.args.value c.in-Some.writer c.last_writer.result c.last_writer.ensures.writer c.in-Some.is (sym c.has_join.ensures ∙ c.if-has_join.true) in
    subst (λ k. IfOk c.made_at.result (λ found. found ≡ k)) law c.made_at.ensures

pub returns-else-has_join : goal.returns-else-has_join
returns-else-has_join c =
    let law = known_made c.args.trace.now c.args.place c.args.value c.in-Some.writer c.last_writer.result c.last_writer.ensures.writer c.in-Some.is (sym c.has_join.ensures ∙ c.if-has_join.false) in
    subst (λ k. IfOk c.copy_made.result (λ found. found ≡ k)) law c.copy_made.ensures

pub copy_made-requires-clause-above : goal.copy_made-requires-clause-above
copy_made-requires-clause-above c = c.last_writer.ensures.below c.in-Some.writer c.in-Some.is
