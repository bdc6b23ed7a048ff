use Rattle.std.proofs.Common.{ap}
use Rattle.vx_ast.specs.Tree as tree
use Rattle.vx_types.proofs.statements.simple_alone.Goals as goal

pub returns-clause-made : goal.returns-clause-made
returns-clause-made c = ap (λ (z : tree.Action). tree.Simply z) c.in_ok-simple.ensures
