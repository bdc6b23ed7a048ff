use Rattle.std.proofs.Common.{ap, ◌∙◌, List, ℕ}
use Rattle.vx_ast.specs.declared.names.Named.TheVariants.{Array}
use Rattle.vx_ast.specs.Scopes.{declared}
use Rattle.vx_names.proofs.Declaring.{handed_is}
use Rattle.vx_names.proofs.names.Names.handed.Goals as goal

pub returns : goal.returns
returns c =
    handed_is c.args.name.now c.args.self.now c.declare.new.self c.count_array.new.self c.arrays-number.result c.arrays-number.ensures
    (c.in_ok-declare.ensures ∙ ap (λ (z : List ℕ). declared z (Array c.arrays-number.result) c.args.self.now) c.as_slice.ensures) c.in_ok-count_array.ensures
