use Rattle.std.proofs.Common.{◌∙◌}
use Rattle.std.proofs.lemmas.Result.{IfOk-weaker}
use Rattle.vx_select.specs.Known.{told}
use Rattle.vx_select.proofs.Joins.{converted_is}
use Rattle.vx_select.proofs.selection.convert.Goals as goal

pub returns : goal.returns
returns c = IfOk-weaker c.converted.result _ _ (λ new e. e ∙ converted_is (told c.args.known.now) c.args.graph.now c.args.corners.now c.in_ok-values.values c.in_ok-values.ensures) c.converted.ensures
