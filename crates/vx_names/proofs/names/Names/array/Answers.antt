use Rattle.std.proofs.Common.{ap, ◌∙◌, List, ℕ}
use Rattle.vx_ast.specs.declared.names.Named.TheVariants.{Array}
use Rattle.vx_ast.specs.Scopes.{declared}
use Rattle.vx_names.proofs.Declaring.{with_array_is}
use Rattle.vx_names.proofs.names.Names.array.Goals as goal

pub returns-clause-declared : goal.returns-clause-declared
returns-clause-declared c =
    with_array_is c.args.name.now c.args.size c.args.self.now c.declare.new.self c.count_array.new.self c.add_size.new.self c.arrays-number.result c.arrays-number.ensures
    (c.in_ok-declare.ensures ∙ ap (λ (z : List ℕ). declared z (Array c.arrays-number.result) c.args.self.now) c.as_slice.ensures) c.in_ok-count_array.ensures c.in_ok-add_size.ensures
