use Rattle.std.proofs.Common.{◌≡◌, ◌∙◌, subst}
use Rattle.std.proofs.lemmas.Result.{on_ok_weaker}
use Rattle.vx_regs.specs.BusyPlaces.{AmongAt}
use Rattle.vx_regs.specs.Hulls.{Notes}
use Rattle.vx_regs.specs.Intervals.{word_reads, word_writes}
use Rattle.vx_regs.proofs.BusyNotes.{values_two}
use Rattle.vx_regs.proofs.busy.note_named.Goals as goal

pub returns : goal.returns
returns c =
    let at = c.args.place in
    let a = c.args.hulls.now.items in
    let b = c.note_values.new.hulls.items in
    let d = c.note_values-2.new.hulls.items in
    let reads : c.as_slice.result.now ≡ word_reads c.args.word.now = c.as_slice.ensures ∙ c.in_ok-reads.ensures in
    let writes : c.as_slice-2.result.now ≡ word_writes c.args.word.now = c.as_slice-2.ensures ∙ c.in_ok-writes.ensures in
    on_ok_weaker c.note_values-2.result
    (λ (n : Notes (AmongAt c.as_slice-2.result.now at) b d). values_two (word_reads c.args.word.now) (word_writes c.args.word.now) at a b d (subst (λ xs. Notes (AmongAt xs at) a b) reads c.in_ok-note_values.ensures) (subst (λ xs. Notes (AmongAt xs at) b d) writes n))
    c.note_values-2.ensures
