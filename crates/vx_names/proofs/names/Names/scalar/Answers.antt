use Rattle.std.proofs.Common.{ap, ◌∙◌, List, ℕ}
use Rattle.vx_ast.specs.declared.names.Named.TheVariants.{Scalar}
use Rattle.vx_ast.specs.Scopes.{declared}
use Rattle.vx_names.proofs.Declaring.{with_scalar_is}
use Rattle.vx_names.proofs.names.Names.scalar.Goals as goal

pub returns-clause-declared : goal.returns-clause-declared
returns-clause-declared c =
    with_scalar_is c.args.name.now c.args.self.now c.declare.new.self c.count_scalar.new.self c.scalars-number.result c.scalars-number.ensures
    (c.in_ok-declare.ensures ∙ ap (λ (z : List ℕ). declared z (Scalar c.scalars-number.result) c.args.self.now) c.as_slice.ensures) c.in_ok-count_scalar.ensures
