use Rattle.vx_inline.proofs.Marking.{marked_where_among}
use Rattle.vx_inline.proofs.marks.marks_of.Goals as goal

pub returns : goal.returns
returns c = marked_where_among c.args.values.now c.args.count c.in_ok-marks.marks.items c.mark_all.new.marks.items c.in_ok-marks.ensures c.mark_all.ensures
