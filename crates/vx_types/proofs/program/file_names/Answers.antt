use Rattle.std.proofs.Common.{◌++◌, ◌∙◌, ◌+◌, ap, sym, drop, map, List}
use Rattle.vx_ast.specs.Syntax.{Definition}
use Rattle.vx_ast.specs.Scopes.{names_from}
use Rattle.vx_ast.specs.SyntaxView.{definition_of}
use Rattle.vx_types.proofs.Wholes.{next_seen}
use Rattle.vx_types.proofs.program.file_names.Goals as goal

pub loop-definition-preserved : goal.loop-definition-preserved
loop-definition-preserved c =
    c.in_ok-add_name.ensures (map definition_of (drop (c.loop-definition.definition-index + 1) c.args.definitions.now))
    ∙ sym (ap (λ (z : List Definition). c.loop-definition.made ++ names_from c.loop-definition.arrays c.loop-definition.functions z) (next_seen c.args.definitions.now c.loop-definition.definition-index c.definition-item.result c.loop-definition-test.true c.definition-item.is))
    ∙ c.loop-definition.invariant
