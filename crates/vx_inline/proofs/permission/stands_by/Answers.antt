use Rattle.vx_inline.proofs.Candidates.{apart_tested}
use Rattle.vx_inline.proofs.permission.stands_by.Goals as goal

pub returns : goal.returns
returns c =
    apart_tested c.args.flow.now c.args.reached.now c.args.count c.args.function c.is_apart.result c.requires.reached c.requires.count c.is_apart.ensures.alone c.is_apart.ensures.apart c.is_apart.ensures.either
