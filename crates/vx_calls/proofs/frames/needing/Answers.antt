use Rattle.std.proofs.Common.{◌++◌, [], ◌≡◌, subst}
use Rattle.vx_calls.specs.Slots.{MarksJust, in_slots, joined}
use Rattle.vx_calls.proofs.Marked.{just_both}
use Rattle.vx_calls.proofs.frames.needing.Goals as goal

pub returns : goal.returns
returns c =
    let parameters = c.args.parameters.now in
    let kept = in_slots 0 c.args.kept.now in
    let saved = joined c.args.saved.now in
    let none : c.new-marks.result.items ≡ [] = c.new-marks.ensures.items in
    let first = subst (λ xs. MarksJust parameters xs c.mark_all.new.marks.items) none c.in_ok-mark_all.ensures in
    just_both parameters (kept ++ saved) [] c.mark_all.new.marks.items c.mark_saved.new.marks.items first
    (just_both kept saved c.mark_all.new.marks.items c.mark_slotted.new.marks.items c.mark_saved.new.marks.items c.in_ok-mark_slotted.ensures c.in_ok-mark_saved.ensures)
