use Rattle.std.proofs.Common.{Option, ap, sym, ◌∙◌}
use Rattle.vx_ast.specs.declared.syntax.Simple.{Simple}
use Rattle.vx_ast.specs.Resolved.{code_in}
use Rattle.vx_ast.specs.SyntaxView.{step_of}
use Rattle.vx_ast.specs.Tree as tree
use Rattle.vx_types.proofs.items.resolve_step.Goals as goal

pub returns-in_ok-step-in-Some : goal.returns-in_ok-step-in-Some
returns-in_ok-step-in-Some c = ap (λ (z : tree.Action). tree.Head z) c.in_ok-step-in-Some.ensures ∙ ap (λ (z : Option Simple). code_in c.args.names.now (step_of z)) (sym c.in-Some.is)

pub returns-in-None : goal.returns-in-None
returns-in-None c = ap (λ (z : Option Simple). code_in c.args.names.now (step_of z)) (sym c.in-None.is)
