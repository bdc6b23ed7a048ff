use Rattle.std.proofs.Common.{subst}
use Rattle.std.proofs.lemmas.List.{drop_all}
use Rattle.vx_calls.specs.Slots.{Marking, MarksJust, joined}
use Rattle.vx_calls.proofs.Offsets.{all_marked, none_marked, one_list}
use Rattle.vx_calls.proofs.frames.mark_saved.Goals as goal

pub loop-values-preserved : goal.loop-values-preserved
loop-values-preserved c =
    one_list c.args.saved.now c.loop-values.values-index c.values-item.result c.args.marks.now.items c.loop-values.marks.items c.mark_all.new.marks.items c.loop-values-test.true c.values-item.is c.loop-values.invariant
    (subst (λ vs. MarksJust vs c.loop-values.marks.items c.mark_all.new.marks.items) c.as_slice.ensures c.in_ok-mark_all.ensures)

pub loop-values-init : goal.loop-values-init
loop-values-init c = none_marked (joined c.args.saved.now) c.args.marks.now.items

pub returns : goal.returns
returns c =
    let saved = c.args.saved.now in
    let new = c.loop-values.marks.items in
    all_marked (joined saved) c.args.marks.now.items new (subst (λ xs. Marking (joined saved) (joined xs) c.args.marks.now.items new) (drop_all c.loop-values.values-index saved c.loop-values-test.false) c.loop-values.invariant)
