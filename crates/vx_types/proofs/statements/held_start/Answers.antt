use Rattle.std.proofs.Common.{ap, ◌∙◌}
use Rattle.vx_ast.specs.declared.tree.First.{First}
use Rattle.vx_ast.specs.View as view
use Rattle.vx_types.proofs.Codes.{holds_on, known_on}
use Rattle.vx_types.proofs.statements.held_start.Goals as goal

pub returns-clause-known : goal.returns-clause-known
returns-clause-known c = holds_on c.boxed.result c.in_ok-made.ensures.known

pub returns-clause-faults : goal.returns-clause-faults
returns-clause-faults c = holds_on c.boxed.result c.in_ok-made.ensures.faults

pub returns-clause-made : goal.returns-clause-made
returns-clause-made c = known_on c.boxed.result (λ b e. ap (λ (z : First). view.first_of z) e ∙ c.in_ok-made.ensures.made) c.boxed.ensures
