use Rattle.std.proofs.Common.{◌≡◌, ◌∙◌, Some, sym, ap}
use Rattle.vx_inline.specs.Finding.{call_in, seen}
use Rattle.vx_inline.specs.Fitting.{has_few}
use Rattle.vx_inline.proofs.Candidates.{worth_many, worth_unfit}
use Rattle.vx_inline.proofs.choice.worth_of.Goals.{else-fits-via-then-fits+else-has_few, else-fits-via-else-fits}
use Rattle.vx_inline.proofs.choice.worth_of.Goals as goal

pub returns-else-fits : goal.returns-else-fits
returns-else-fits c =
    let asked = c.args.asked.now in
    let flow = asked.flow.now in
    let found = seen c.args.found in
    let is : call_in flow c.args.site.now ≡ Some found = c.requires.found in
    elim c.else-fits.branch [
      | else-fits-via-then-fits+else-has_few w ↦
          worth_many flow asked.counts.now asked.most c.args.best c.args.site.now found is (sym (w.has_few.ensures ∙ ap (has_few asked.most) w.as_slice.ensures) ∙ w.if-has_few.false)
      | else-fits-via-else-fits w ↦ worth_unfit flow asked.counts.now asked.most c.args.best c.args.site.now found is (sym c.fits.ensures ∙ w.if-fits.false)
    ]
