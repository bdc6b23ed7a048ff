use Rattle.std.proofs.Common.{◌∙◌, Some, sym, ap}
use Rattle.std.proofs.lemmas.Bool.{ltb-true, ltb-false}
use Rattle.std.proofs.lemmas.Option.{slice_get-get_or, slice_get_past}
use Rattle.vx_slots.specs.Seen.{seen}
use Rattle.vx_calls.proofs.Waits.{answers, spared_past, spared_planned, spared_transfer}
use Rattle.vx_calls.proofs.pauses.+spared.Goals as goal

pub returns-in_ok-beside_turn-in-Some-Planned : goal.returns-in_ok-beside_turn-in-Some-Planned
returns-in_ok-beside_turn-in-Some-Planned t c =
    let words = c.words_of.result.now in
    let x = c.in-Some-Planned.field-0.now in
    let l = c.in-Some-Planned.ensures.lookup in
    answers _ _ _ c.sum-else-has_split.ensures
    (spared_planned (seen c.args.whole.now) c.args.function c.args.register c.args.most c.args.place words x _ _ _ _ _ _ _ _ _ _ c.words_of.ensures (slice_get-get_or words c.args.place x (ltb-true _ _ (sym l.0)) ∙ ap Some (sym l.1)) c.in-Some-Planned.field-0-is c.if-most-eq0.false
    c.as_slice.ensures c.spares.ensures c.if-not-spares.false c.as_slice-else-not-spares.ensures c.has_split.ensures c.if-has_split.false c.in_ok-next-in-Some-Planned.ensures c.in_ok-cycles-in-Some-Planned.ensures c.in_ok-beside_turn-in-Some-Planned.ensures)

pub returns-in_ok-cycles-in-Some-Transfer : goal.returns-in_ok-cycles-in-Some-Transfer
returns-in_ok-cycles-in-Some-Transfer t c =
    let words = c.words_of.result.now in
    let x = c.in-Some-Transfer.field-0.now in
    let l = c.in-Some-Transfer.ensures.lookup in
    answers _ _ _ c.by_way.ensures
    (spared_transfer (seen c.args.whole.now) c.args.function c.args.register c.args.most c.args.place words x _ _ _ _ c.words_of.ensures (slice_get-get_or words c.args.place x (ltb-true _ _ (sym l.0)) ∙ ap Some (sym l.1)) c.in-Some-Transfer.field-0-is c.if-most-eq0.false
    c.past-to.ensures c.in_ok-next-in-Some-Transfer.ensures c.in_ok-cycles-in-Some-Transfer.ensures)

pub returns-in-None : goal.returns-in-None
returns-in-None t c = spared_past (seen c.args.whole.now) c.args.function c.args.register c.args.most c.args.place c.words_of.result.now c.words_of.ensures (slice_get_past c.words_of.result.now c.args.place (ltb-false _ _ (sym c.in-None.ensures.lookup.0))) c.if-most-eq0.false
