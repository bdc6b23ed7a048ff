use Rattle.std.proofs.Common.{◌∙◌, bytes_eq, ap, sym}
use Rattle.vx_reader.specs.Forms.{form_name}
use Rattle.vx_reader.proofs.Taken.{form_on, form_here, form_none}
use Rattle.vx_reader.proofs.form.form_in.Goals as goal

pub returns-then-eq : goal.returns-then-eq
returns-then-eq c =
    form_here (λ form. bytes_eq (form_name form) c.args.name.now) c.args.forms.now c.loop-form.form-index _ c.loop-form-test.true c.loop-form.invariant
    (sym (c.eq.ensures ∙ ap (λ n. bytes_eq n c.args.name.now) c.name_of_form.ensures) ∙ c.if-eq.true)

pub loop-form-preserved : goal.loop-form-preserved
loop-form-preserved c =
    form_on (λ form. bytes_eq (form_name form) c.args.name.now) c.args.forms.now c.loop-form.form-index _ c.loop-form-test.true c.loop-form.invariant
    (sym (c.eq.ensures ∙ ap (λ n. bytes_eq n c.args.name.now) c.name_of_form.ensures) ∙ c.if-eq.false)

pub returns : goal.returns
returns c = form_none (λ form. bytes_eq (form_name form) c.args.name.now) c.args.forms.now c.loop-form.form-index c.loop-form-test.false c.loop-form.invariant
