use Rattle.std.proofs.Common.{◌∙◌, sym}
use Rattle.vx_flow.proofs.Copying.{split_copied}
use Rattle.vx_flow.proofs.copies.copied_op.Goals as goal

pub returns-in_ok-live-in-Split : goal.returns-in_ok-live-in-Split
returns-in_ok-live-in-Split c = split_copied _ _ _ _ _ _ c.in-Split.is (c.in_ok-live-in-Split.ensures ∙ c.as_slice.ensures)

pub returns-in-Plain : goal.returns-in-Plain
returns-in-Plain c = sym c.in-Plain.is
