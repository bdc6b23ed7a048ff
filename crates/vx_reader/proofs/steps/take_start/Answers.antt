-- The word of the memory is taken where both tests pass.
use Rattle.std.proofs.Common.{◌∙◌, sym}
use Rattle.std.proofs.lemmas.Bool.{and_left, and_right}
use Rattle.vx_reader.proofs.Taken.{start_no, start_yes}
use Rattle.vx_reader.proofs.steps.take_start.Goals.{then-not-fits_start-via-then-not-fits_start, then-not-fits_start-via-else-not-fits_start+in_ok-is_start_text+then-not-branch}
use Rattle.vx_reader.proofs.steps.take_start.Goals as goal

pub returns : goal.returns
returns c =
    start_yes c.args.before.now c.args.text.now c.entry_of-entry.result c.push.new.self c.entry_of-entry.ensures (sym c.fits_start.ensures ∙ c.if-not-fits_start.false) (sym c.in_ok-is_start_text.ensures ∙ c.if-not-branch.false) c.in_ok-push.ensures.ok

pub returns-then-not-fits_start : goal.returns-then-not-fits_start
returns-then-not-fits_start c = start_no c.args.before.now c.args.text.now c.entry_of-entry.result c.entry_of-entry.ensures (elim c.then-not-fits_start.branch [
  | then-not-fits_start-via-then-not-fits_start w ↦ and_left _ _ (sym c.fits_start.ensures ∙ w.if-not-fits_start.true)
  | then-not-fits_start-via-else-not-fits_start+in_ok-is_start_text+then-not-branch w ↦ and_right _ _ (sym w.in_ok-is_start_text.ensures ∙ w.if-not-branch.true)
])
