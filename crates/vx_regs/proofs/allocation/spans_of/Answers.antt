use Rattle.std.proofs.Common.{◌+◌, ◌++◌, ℕ, None, Option, List, drop, get_or, append_assoc, sym, ap, ◌∙◌}
use Rattle.std.proofs.lemmas.List.{drop_more}
use Rattle.vx_regs.specs.declared.hulls.Hull.{Hull}
use Rattle.vx_regs.specs.declared.spans.Span.{Span}
use Rattle.vx_regs.specs.Filed.{span_list, spans_from}
use Rattle.vx_regs.proofs.allocation.spans_of.Goals as goal

-- one value more
pub loop-value-preserved : goal.loop-value-preserved
loop-value-preserved c =
    let layout = c.args.layout.now in
    let hulls = c.args.hulls.now in
    let v = c.loop-value.value in
    let spans = c.loop-value.spans.items in
    let hull : Option Hull = get_or hulls v None in
    let rest = spans_from layout (v + 1) (drop (v + 1) hulls) in
    ap (λ (z : List Span). z ++ rest) c.in_ok-push_span.ensures
    ∙ append_assoc spans (span_list layout c.in_ok-number_of.field-0 hull) rest
    ∙ ap (λ (k : ℕ). spans ++ (span_list layout k hull ++ rest)) c.in_ok-number_of.ensures
    ∙ ap (λ (z : List (Option Hull)). spans ++ spans_from layout v z) (sym (drop_more hulls v None c.loop-value-test.true))
    ∙ c.loop-value.invariant
