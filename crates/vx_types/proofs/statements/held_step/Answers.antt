use Rattle.std.proofs.Common.{Option, ap, ◌∙◌}
use Rattle.vx_ast.specs.declared.tree.Simple.{Simple}
use Rattle.vx_ast.specs.View as view
use Rattle.vx_types.proofs.Codes.{known_on}
use Rattle.vx_types.proofs.statements.held_step.Goals as goal

pub returns : goal.returns
returns c = known_on c.boxed.result (λ b e. ap (λ (z : Option Simple). view.step_of z) e ∙ c.in_ok-made.ensures) c.boxed.ensures
