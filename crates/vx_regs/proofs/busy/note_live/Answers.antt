use Rattle.std.proofs.lemmas.Option.{slice_get-get_or}
use Rattle.std.proofs.Common.{◌≡◌, Some, get_or, slice_get}
use Rattle.vx_regs.proofs.BusyNotes.{listed_all, listed_next, whole_list}
use Rattle.vx_regs.proofs.busy.note_live.Goals as goal

pub loop-value-preserved : goal.loop-value-preserved
loop-value-preserved c =
    let values = c.values_at-values.result.now in
    let i = c.loop-value.value-index in
    let at : slice_get values i ≡ Some (get_or values i 0) = slice_get-get_or values i 0 c.loop-value-test.true in
    listed_next values c.args.place c.args.count i (get_or values i 0) c.args.hulls.now.items c.loop-value.hulls.items c.note_below.new.hulls.items at c.loop-value.invariant c.in_ok-note_below.ensures

pub returns : goal.returns
returns c =
    let values = c.values_at-values.result.now in
    listed_all c.args.live.now c.args.node c.args.place c.args.count values c.args.hulls.now.items c.loop-value.hulls.items c.values_at-values.ensures.values
    (whole_list values c.args.place c.args.count c.loop-value.value-index c.args.hulls.now.items c.loop-value.hulls.items c.loop-value-test.false c.loop-value.invariant)
