use Rattle.vx_select.specs.Known.{told}
use Rattle.vx_select.proofs.Finding.{good_room}
use Rattle.vx_select.proofs.search.is_good.Goals as goal

pub returns-in_ok-values : goal.returns-in_ok-values
returns-in_ok-values c =
    good_room (told c.args.known.now) c.args.most c.args.graph.now c.args.corners.now c.in_ok-values.values c.in_ok-values.ensures c.has_form.result c.has_room.result c.has_form.ensures c.if-has_form.true c.has_room.ensures
