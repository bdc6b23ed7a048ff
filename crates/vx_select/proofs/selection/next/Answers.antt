use Rattle.std.proofs.Common.{◌∙◌, sym, ap}
use Rattle.std.specs.Option.{option_map}
use Rattle.vx_select.specs.Known.{told, whole}
use Rattle.vx_select.proofs.Steps.{step_some}
use Rattle.vx_select.proofs.selection.next.Goals as goal

pub returns-in-Some : goal.returns-in-Some
returns-in-Some c =
    step_some (told c.in_ok-known.known) c.args.most c.args.graph.now c.in_ok-known.ensures c.in-Some.corners c.in_ok-new-in-Some.new (ap (option_map (whole c.args.graph.now)) (sym c.in-Some.is) ∙ c.in_ok-corners.ensures) c.in_ok-new-in-Some.ensures
