use Rattle.vx_tie.proofs.Stacks.{stack_law}
use Rattle.vx_tie.proofs.laws.stack_pointers_move.Goals as goal

pub returns : goal.returns
returns c = stack_law
