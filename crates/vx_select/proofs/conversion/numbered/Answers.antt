use Rattle.vx_select.proofs.Gone.{number_is}
use Rattle.vx_select.proofs.conversion.numbered.Goals as goal

pub returns : goal.returns
returns c = λ g. number_is g c.args.corners.now c.args.block c.gone.result c.gone.ensures.exact
