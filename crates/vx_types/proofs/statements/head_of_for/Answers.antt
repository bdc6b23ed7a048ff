use Rattle.std.proofs.Common.{ap, ◌∙◌}
use Rattle.vx_ast.specs.Resolved.{code_in}
use Rattle.vx_ast.specs.Scopes.{Environment}
use Rattle.vx_ast.specs.SyntaxView.{step_of}
use Rattle.vx_types.proofs.statements.head_of_for.Goals as goal

pub returns-clause-step : goal.returns-clause-step
returns-clause-step c = c.in_ok-made.ensures.step ∙ ap (λ (z : Environment). code_in z (step_of c.args.step.now)) c.in_ok-start.ensures.known
