use Rattle.std.proofs.Common.{◌++◌, ◌∙◌, ◌+◌, ap, sym, drop, map, List, append-nil}
use Rattle.std.proofs.lemmas.List.{drop_all}
use Rattle.vx_ast.specs.declared.syntax.Definition.{Definition as Written}
use Rattle.vx_ast.specs.Syntax.{Definition}
use Rattle.vx_ast.specs.Scopes.{takes_from}
use Rattle.vx_ast.specs.SyntaxView.{definition_of}
use Rattle.vx_types.proofs.Wholes.{next_seen}
use Rattle.vx_types.proofs.program.file_takes.Goals as goal

pub loop-definition-preserved : goal.loop-definition-preserved
loop-definition-preserved c =
    c.in_ok-add_takes.ensures (map definition_of (drop (c.loop-definition.definition-index + 1) c.args.definitions.now))
    ∙ sym (ap (λ (z : List Definition). c.loop-definition.made ++ takes_from z) (next_seen c.args.definitions.now c.loop-definition.definition-index c.definition-item.result c.loop-definition-test.true c.definition-item.is))
    ∙ c.loop-definition.invariant

pub returns : goal.returns
returns c =
    sym (append-nil c.loop-definition.made)
    ∙ sym (ap (λ (z : List Written). c.loop-definition.made ++ takes_from (map definition_of z)) (drop_all c.loop-definition.definition-index c.args.definitions.now c.loop-definition-test.false)) ∙ c.loop-definition.invariant
