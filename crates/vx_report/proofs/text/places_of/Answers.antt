-- The places stand where the trace does.
use Rattle.std.proofs.Common.{◌∙◌, length, Some, ap, sym}
use Rattle.std.proofs.lemmas.Bool.{ltb-false, ltb-true}
use Rattle.std.proofs.lemmas.Option.{slice_get-get_or, slice_get_past}
use Rattle.vx_report.specs.Report.{places_in}
use Rattle.vx_report.proofs.text.places_of.Goals as goal

pub returns-in-Some : goal.returns-in-Some
returns-in-Some c =
    let l = c.in-Some.ensures.lookup in
    let places = c.args.places.now in
    c.as_slice.ensures ∙ ap places_in (sym (slice_get-get_or places c.args.number c.in-Some.trace.now (ltb-true _ _ (sym l.0)) ∙ ap Some (sym l.1)))

pub returns-in-None : goal.returns-in-None
returns-in-None c =
    let places = c.args.places.now in
    ap places_in (sym (slice_get_past places c.args.number (ltb-false c.args.number (length places) (sym c.in-None.ensures.lookup.0))))
