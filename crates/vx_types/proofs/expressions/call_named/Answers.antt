use Rattle.std.proofs.Common.{ap, sym, ◌∙◌, Option, Some}
use Rattle.vx_ast.specs.declared.names.Named.{Named}
use Rattle.vx_ast.specs.Resolved.{call_named}
use Rattle.vx_ast.specs.View as view
use Rattle.vx_limits.proofs.Views.{call_view}
use Rattle.vx_types.proofs.expressions.call_named.Goals as goal

pub returns-in-Function : goal.returns-in-Function
returns-in-Function c = call_view c.in-Function.function c.args.row ∙ ap (λ (z : Option Named). call_named z (view.arguments_in c.args.row.items)) (sym (c.in-Some.is ∙ ap Some c.in-Function.is))
