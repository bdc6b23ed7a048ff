use Rattle.std.proofs.Common.{Option, ap, ◌∙◌}
use Rattle.std.specs.Prelude.{option_map}
use Rattle.vx_ast.specs.declared.tree.Expression.{Expression}
use Rattle.vx_ast.specs.View as view
use Rattle.vx_types.proofs.Codes.{known_on}
use Rattle.vx_types.proofs.statements.held_test.Goals as goal

pub returns : goal.returns
returns c = known_on c.boxed.result (λ b e. ap (λ (z : Option Expression). option_map view.tree_of z) e ∙ c.in_ok-made.ensures) c.boxed.ensures
