use Rattle.vx_gen.proofs.Pieces.{whole_function}
use Rattle.vx_gen.proofs.source.push_function.Goals as goal

pub returns : goal.returns
returns c = whole_function c.args.number c.args.count c.args.state _ _ _ _ _ c.in_ok-push_opening.ensures c.in_ok-reached.ensures c.in_ok-push_closing.ensures
