use Rattle.std.proofs.Common.{◌≡◌, ◌+◌, ◌++◌, [], ◌∷◌, sym, ◌∙◌, ap, subst, length, slice_get}
use Rattle.vx_linear.specs.Followed.{form_at}
use Rattle.vx_linear.proofs.Ordered.{all_ordered}
use Rattle.vx_linear.specs.Passed.{Passes, IsFollowed}
use Rattle.vx_linear.proofs.Passing.{all_followed, none_followed, stands_there, one_more}
use Rattle.vx_linear.proofs.trace_forms.follow_all.Goals as goal

pub follow-init : goal.follow-init
follow-init c = none_followed c.args.trace.now _ _ _ c.requires.passed c.new-forms.ensures c.as_slice-rest.ensures

pub follow-requires-clause-there : goal.follow-requires-clause-there
follow-requires-clause-there c =
    let t = c.args.trace.now in
    let rest : c.follow.rest.now ≡ c.in-Some.op.now ∷ c.in-Some.others.now = c.in-Some.ensures.cases.0 in
    ap (slice_get t.ops) c.len-place.ensures.len ∙ stands_there t c.follow.passed c.follow.forms c.follow.rest.now c.in-Some.others.now c.in-Some.op.now c.follow.invariant rest

pub follow-preserved : goal.follow-preserved
follow-preserved c =
    let t = c.args.trace.now in
    let form = c.in_ok-form-in-Some.form in
    let rest : c.follow.rest.now ≡ c.in-Some.op.now ∷ c.in-Some.others.now = c.in-Some.ensures.cases.0 in
    let place = c.len-place.ensures.len in
    let form_is : form ≡ form_at t c.len-place.result c.in-Some.op.now = c.in_ok-form-in-Some.ensures.form in
    let passes : Passes t (length c.follow.forms + 1) c.follow-in-Some.new.passed = subst (λ n. Passes t (n + 1) c.follow-in-Some.new.passed) place c.in_ok-form-in-Some.ensures.passed in
    let next : IsFollowed t c.follow-in-Some.new.passed (c.follow.forms ++ form ∷ []) c.in-Some.others.now =
    one_more t c.follow.passed c.follow-in-Some.new.passed c.follow.forms c.follow.rest.now c.in-Some.others.now c.in-Some.op.now form c.follow.invariant rest (form_is ∙ ap (λ n. form_at t n c.in-Some.op.now) place) passes in
    let forms_are : c.push.new.self ≡ c.follow.forms ++ form ∷ [] = c.in_ok-push-in-Some.ensures.ok in
    subst (λ fs. IsFollowed t c.follow-in-Some.new.passed fs c.in-Some.others.now) (sym forms_are) next

pub returns-in-None-clause-ordered : goal.returns-in-None-clause-ordered
returns-in-None-clause-ordered c =
    let none : length c.follow.rest.now ≡ 0 = c.in-None.ensures.cases in
    all_ordered c.args.trace.now c.follow.forms (all_followed c.args.trace.now c.follow.passed c.follow.forms c.follow.rest.now c.follow.invariant none)

pub follow-requires-clause-passed : goal.follow-requires-clause-passed
follow-requires-clause-passed c = subst (λ n. Passes c.args.trace.now n c.follow.passed) (sym c.len-place.ensures.len) c.follow.invariant.passed

pub returns-in-None-clause-forms : goal.returns-in-None-clause-forms
returns-in-None-clause-forms c = all_followed c.args.trace.now c.follow.passed c.follow.forms c.follow.rest.now c.follow.invariant c.in-None.ensures.cases
