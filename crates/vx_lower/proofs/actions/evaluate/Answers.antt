use Rattle.std.proofs.Common.{ap, sym, ◌∙◌, ◌≡◌, false, inl, inr}
use Rattle.std.proofs.lemmas.Result.{on_ok_weaker}
use Rattle.vx_ast.specs.Tree.{Evaluate, Apply}
use Rattle.vx_ast.specs.View.{tree_of, arguments_in}
use Rattle.vx_lower.specs.Does.{is_call}
use Rattle.vx_lower.proofs.TreeViews.{view-Call}
use Rattle.vx_lower.proofs.ActionMaking.{acted_as, acts_evaluate}
use Rattle.vx_lower.proofs.FittingActions.{acts_well_as, evaluate_well}
use Rattle.vx_lower.proofs.actions.evaluate.Goals as goal

pub returns-in-Call-clause-code : goal.returns-in-Call-clause-code
returns-in-Call-clause-code c =
    on_ok_weaker c.emit_call.result (λ h. acted_as c.args.words.now c.args.b.now c.emit_call.new.b (Evaluate (Apply c.in-Call.function (arguments_in c.as_slice.result.now))) (Evaluate (tree_of c.args.e.now)) (ap (λ z. Evaluate (Apply c.in-Call.function (arguments_in z))) c.as_slice.ensures.value ∙ ap Evaluate (sym (view-Call c.in-Call.function c.in-Call.all)) ∙ ap (λ z. Evaluate (tree_of z)) (sym c.in-Call.is)) h) c.emit_call.ensures.code

pub returns-in-Call-clause-fits : goal.returns-in-Call-clause-fits
returns-in-Call-clause-fits c =
    on_ok_weaker c.emit_call.result (λ h. acts_well_as c.args.b.now c.emit_call.new.b (Evaluate (Apply c.in-Call.function (arguments_in c.as_slice.result.now))) (Evaluate (tree_of c.args.e.now)) (ap (λ z. Evaluate (Apply c.in-Call.function (arguments_in z))) c.as_slice.ensures.value ∙ ap Evaluate (sym (view-Call c.in-Call.function c.in-Call.all)) ∙ ap (λ z. Evaluate (tree_of z)) (sym c.in-Call.is)) h) c.emit_call.ensures.fits

pub returns-in_ok-emit_value-in-Number-clause-code : goal.returns-in_ok-emit_value-in-Number-clause-code
returns-in_ok-emit_value-in-Number-clause-code c =
    let plain : is_call (tree_of c.args.e.now) ≡ false = elim c.in-Number.is [ inl w ↦ ap (λ z. is_call (tree_of z)) w.1 | inr v0 ↦ elim v0 [ inl w ↦ ap (λ z. is_call (tree_of z)) w.1 | inr v1 ↦ elim v1 [ inl w ↦ ap (λ z. is_call (tree_of z)) w.1 | inr v2 ↦ elim v2 [ inl w ↦ ap (λ z. is_call (tree_of z)) w.2 | inr v3 ↦ elim v3 [ inl w ↦ ap (λ z. is_call (tree_of z)) w.2 | inr v4 ↦ elim v4 [ inl w ↦ ap (λ z. is_call (tree_of z)) w.3 | inr v5 ↦ elim v5 [ inl w ↦ ap (λ z. is_call (tree_of z)) w.2 | inr v6 ↦ elim v6 [ inl w ↦ ap (λ z. is_call (tree_of z)) w.2 | inr v7 ↦ elim v7 [ inl w ↦ ap (λ z. is_call (tree_of z)) w.3 | inr v8 ↦ elim v8 [ inl w ↦ ap (λ z. is_call (tree_of z)) w | inr w ↦ ap (λ z. is_call (tree_of z)) w ] ] ] ] ] ] ] ] ] ] in
    acts_evaluate c.args.words.now (tree_of c.args.e.now) c.in_ok-emit_value-in-Number.field-0 c.args.b.now c.emit_value.new.b plain c.in_ok-emit_value-in-Number.ensures.code

pub returns-in_ok-emit_value-in-Number-clause-fits : goal.returns-in_ok-emit_value-in-Number-clause-fits
returns-in_ok-emit_value-in-Number-clause-fits c = evaluate_well (tree_of c.args.e.now) c.in_ok-emit_value-in-Number.field-0 c.args.b.now c.emit_value.new.b c.in_ok-emit_value-in-Number.ensures.fits
