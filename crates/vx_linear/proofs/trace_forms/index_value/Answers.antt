use Rattle.std.proofs.Common.{◌≡◌, IfOk, sym, ◌∙◌, subst}
use Rattle.vx_linear.proofs.Writing.{index_none, index_symbol, index_found}
use Rattle.vx_linear.proofs.trace_forms.index_value.Goals as goal

pub returns-in-None : goal.returns-in-None
returns-in-None c =
    let law = index_none c.args.trace.now c.args.place c.args.value c.last_writer.result c.last_writer.ensures.writer c.in-None.is in
    subst (λ k. IfOk c.symbol.result (λ found. found ≡ k)) law c.symbol.ensures

pub returns-then-has_join : goal.returns-then-has_join
returns-then-has_join c =
    let law = index_symbol c.args.trace.now c.args.place c.args.value c.in-Some.writer c.last_writer.result c.last_writer.ensures.writer c.in-Some.is (sym c.has_join.ensures ∙ c.if-has_join.true) in
    subst (λ k. IfOk c.symbol-then-has_join.result (λ found. found ≡ k)) law c.symbol-then-has_join.ensures

pub returns-else-has_join : goal.returns-else-has_join
returns-else-has_join c =
    let law = index_found c.args.trace.now c.args.place c.args.value c.in-Some.writer c.last_writer.result c.last_writer.ensures.writer c.in-Some.is (sym c.has_join.ensures ∙ c.if-has_join.false) in
    subst (λ k. IfOk c.copy_index.result (λ found. found ≡ k)) law c.copy_index.ensures

pub copy_index-requires-clause-above : goal.copy_index-requires-clause-above
copy_index-requires-clause-above c = c.last_writer.ensures.below c.in-Some.writer c.in-Some.is
