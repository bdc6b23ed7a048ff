use Rattle.vx_select.proofs.Marked.{addresses_marked}
use Rattle.vx_select.proofs.addresses.addresses.Goals as goal

pub returns : goal.returns
returns c = addresses_marked c.args.graph.now c.in_ok-marks.marks.items c.mark_made.new.marks.items c.mark_given.new.marks.items c.in_ok-marks.ensures c.mark_made.ensures c.mark_given.ensures
