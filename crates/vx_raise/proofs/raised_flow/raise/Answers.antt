use Rattle.vx_raise.proofs.Moves.{ends_along}
use Rattle.vx_raise.proofs.raised_flow.raise.Goals as goal

pub returns-clause-paths : goal.returns-clause-paths
returns-clause-paths c = ends_along c.args.flow c.in_ok-beside.beside c.raised_for-2.result c.in_ok-beside.ensures.flow c.in_ok-beside.ensures.paths c.raised_for-2.ensures.paths
