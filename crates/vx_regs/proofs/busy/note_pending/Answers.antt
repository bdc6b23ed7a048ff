use Rattle.std.proofs.lemmas.Option.{slice_get-get_or}
use Rattle.std.proofs.Common.{sym, ap, ◌∙◌, ◌≡◌, Some, slice_get, subst, arith, length}
use Rattle.vx_room.specs.Items.{latency_of_op}
use Rattle.vx_regs.specs.BusyPlaces.{WordWrote, WroteBelow}
use Rattle.vx_regs.specs.Hulls.{Notes}
use Rattle.vx_regs.proofs.BusyNotes.{wrote_next}
use Rattle.vx_regs.proofs.busy.note_pending.Goals as goal

pub loop-place-preserved : goal.loop-place-preserved
loop-place-preserved c =
    let at : slice_get c.args.words.now c.loop-place.place ≡ Some c.index-words-place.result = slice_get-get_or c.args.words.now c.loop-place.place c.index-words-place.result c.loop-place-test.true ∙ ap Some (sym c.index-words-place.is) in
    let n : c.in_ok-number_of.field-0 ≡ c.loop-place.place = c.in_ok-number_of.ensures in
    let w = c.index-words-place.result in
    wrote_next (latency_of_op c.args.machine.now) c.args.words.now c.loop-place.place w c.args.hulls.now.items c.loop-place.hulls.items c.note_word.new.hulls.items at c.loop-place.invariant
    (subst (λ z. Notes (WordWrote (latency_of_op c.args.machine.now) c.args.words.now z w) c.loop-place.hulls.items c.note_word.new.hulls.items) n c.in_ok-note_word.ensures)

pub returns : goal.returns
returns c =
    let e : c.loop-place.place ≡ length c.args.words.now = omega arith in
    subst (λ z. Notes (WroteBelow (latency_of_op c.args.machine.now) c.args.words.now z) c.args.hulls.now.items c.loop-place.hulls.items) e c.loop-place.invariant
