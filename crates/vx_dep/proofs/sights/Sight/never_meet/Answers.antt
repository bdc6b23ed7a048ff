use Rattle.std.proofs.Common.{◌≡◌, Some, slice_get, subst}
use Rattle.vx_dep.proofs.Nowhere.{may_meet, never_meet}
use Rattle.vx_dep.proofs.sights.Sight.never_meet.Goals as goal

pub returns-in-Some-form_at-clause-yes : goal.returns-in-Some-form_at-clause-yes
returns-in-Some-form_at-clause-yes c e =
    let s = c.args.self.now in
    let one = c.in-Some.one.now in
    let two = c.in-Some-form_at.two.now in
    let above : slice_get s.forms c.args.i ≡ Some (Some one) = subst (λ fs. slice_get fs c.args.i ≡ Some (Some one)) c.as_slice.ensures c.in-Some.ensures.some in
    let below : slice_get s.forms c.args.j ≡ Some (Some two) = subst (λ fs. slice_get fs c.args.j ≡ Some (Some two)) c.as_slice-in-Some.ensures c.in-Some-form_at.ensures.some in
    never_meet s.trace.now s.forms c.args.i c.args.j one two s.forms_exact above below (c.never_meet.ensures.yes e)

pub returns-in-Some-form_at-clause-no : goal.returns-in-Some-form_at-clause-no
returns-in-Some-form_at-clause-no c e =
    let s = c.args.self.now in
    let one = c.in-Some.one.now in
    let two = c.in-Some-form_at.two.now in
    let above : slice_get s.forms c.args.i ≡ Some (Some one) = subst (λ fs. slice_get fs c.args.i ≡ Some (Some one)) c.as_slice.ensures c.in-Some.ensures.some in
    let below : slice_get s.forms c.args.j ≡ Some (Some two) = subst (λ fs. slice_get fs c.args.j ≡ Some (Some two)) c.as_slice-in-Some.ensures c.in-Some-form_at.ensures.some in
    may_meet s.trace.now s.forms c.args.i c.args.j one two s.forms_exact above below (c.never_meet.ensures.no e)
