use Rattle.std.proofs.Common.{◌++◌, ◌∷◌, [], List, sym, ap, ◌∙◌}
use Rattle.std.proofs.lemmas.Result.{IfOk-equal}
use Rattle.vx_isa.specs.declared.program.Word.{Word}
use Rattle.vx_isa.specs.Fits.{fits}
use Rattle.vx_slots.specs.Seen.{seen}
use Rattle.vx_slots.proofs.WordSteps.{apart, beside}
use Rattle.vx_slots.proofs.transfers.push_together.Goals as goal

pub returns-then-fits : goal.returns-then-fits
returns-then-fits c =
    let m = (seen c.args.whole.now).machine in
    let old = c.args.words.now in
    c.in_ok-push.ensures.ok
    ∙ ap (λ (w : Word). old ++ w ∷ []) c.in_ok-word.ensures
    ∙ ap (λ (z : List Word). old ++ z) (sym (beside m c.args.first c.args.second (ap (λ (w : Word). fits m w.ops) (sym c.in_ok-word.ensures) ∙ sym c.fits.ensures ∙ c.if-fits.true)))

pub returns : goal.returns
returns c =
    let m = (seen c.args.whole.now).machine in
    let old = c.args.words.now in
    IfOk-equal _ _ _ _ c.push_both.ensures
    (ap (λ (z : List Word). old ++ z) (sym (apart m c.args.first c.args.second (ap (λ (w : Word). fits m w.ops) (sym c.in_ok-word.ensures) ∙ sym c.fits.ensures ∙ c.if-fits.false))))
