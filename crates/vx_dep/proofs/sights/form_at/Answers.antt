use Rattle.std.proofs.Common.{◌≡◌, ◌∙◌, Some, slice_get, ap, sym, ltb-true, ltb-false}
use Rattle.std.proofs.lemmas.Option.{none-some, slice_get-get_or, slice_get_past}
use Rattle.vx_dep.proofs.Nowhere.{none_there, some_there}
use Rattle.vx_dep.proofs.sights.form_at.Goals as goal

pub returns-in-Some-clause-none : goal.returns-in-Some-clause-none
returns-in-Some-clause-none c =
    let forms = c.args.forms.now in
    let place = c.args.place in
    let form = c.in-Some.form.now in
    let l = c.in-Some.ensures.lookup in
    let there : slice_get forms place ≡ Some form = slice_get-get_or forms place form (ltb-true _ _ (sym l.0)) ∙ ap Some (sym l.1) in
    none_there forms place c.as_ref.result form c.as_ref.ensures.value there

pub returns-in-Some-clause-some : goal.returns-in-Some-clause-some
returns-in-Some-clause-some c =
    let forms = c.args.forms.now in
    let place = c.args.place in
    let form = c.in-Some.form.now in
    let l = c.in-Some.ensures.lookup in
    let there : slice_get forms place ≡ Some form = slice_get-get_or forms place form (ltb-true _ _ (sym l.0)) ∙ ap Some (sym l.1) in
    some_there forms place c.as_ref.result form c.as_ref.ensures.value there

pub returns-in-None-clause-none : goal.returns-in-None-clause-none
returns-in-None-clause-none c form e = none-some (Some form) (sym (slice_get_past c.args.forms.now c.args.place (ltb-false _ _ (sym c.in-None.ensures.lookup.0))) ∙ e)
