use Rattle.std.proofs.lemmas.Option.{slice_get-get_or}
use Rattle.std.proofs.Common.{sym, ap, ◌∙◌, ◌≡◌, ◌++◌, Some, slice_get, subst}
use Rattle.vx_regs.specs.BusyPlaces.{AmongAt}
use Rattle.vx_regs.specs.Hulls.{Notes}
use Rattle.vx_regs.specs.Intervals.{word_reads, word_writes}
use Rattle.vx_regs.proofs.BusyNotes.{names_next}
use Rattle.vx_regs.proofs.busy.note_names.Goals as goal

pub loop-place-preserved : goal.loop-place-preserved
loop-place-preserved c =
    let at : slice_get c.args.words.now c.loop-place.place ≡ Some c.index-words-place.result = slice_get-get_or c.args.words.now c.loop-place.place c.index-words-place.result c.loop-place-test.true ∙ ap Some (sym c.index-words-place.is) in
    let n : c.in_ok-number_of.field-0 ≡ c.loop-place.place = c.in_ok-number_of.ensures in
    let w = c.index-words-place.result in
    names_next c.args.words.now c.loop-place.place w c.args.hulls.now.items c.loop-place.hulls.items c.note_named.new.hulls.items at c.loop-place.invariant
    (subst (λ z. Notes (AmongAt (word_reads w ++ word_writes w) z) c.loop-place.hulls.items c.note_named.new.hulls.items) n c.in_ok-note_named.ensures)
