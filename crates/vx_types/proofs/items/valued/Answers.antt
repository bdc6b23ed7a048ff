use Rattle.std.proofs.Common.{ℕ, ap, ◌∙◌}
use Rattle.vx_ast.specs.Tree as tree
use Rattle.vx_ast.specs.Tree.{Tree, One}
use Rattle.vx_ast.specs.View as view
use Rattle.vx_types.proofs.items.valued.Goals as goal

pub returns-clause-made : goal.returns-clause-made
returns-clause-made c = ap (λ (n : ℕ). tree.Declare n (view.tree_of c.in_ok-value.value)) c.in_ok-number.ensures.number ∙ ap (λ (z : Tree One). tree.Declare c.args.names.now.scalars z) c.in_ok-value.ensures
