use Rattle.std.proofs.Common.{ap, ◌∙◌}
use Rattle.vx_ast.specs.Scopes.{Environment, look}
use Rattle.vx_names.proofs.names.Names.look.Goals as goal

pub returns : goal.returns
unfolding look
returns c = c.look.ensures ∙ c.self.invariant.0.table_says c.args.name.now ∙ ap (λ (e : Environment). look c.args.name.now e) c.self.view_is
