use Rattle.std.proofs.Common.{◌+◌, List, ◌++◌, drop, map, ap, sym, ◌∙◌, append_assoc, append-nil}
use Rattle.std.proofs.lemmas.List.{drop_all}
use Rattle.vx_ast.specs.declared.syntax.Definition.{Definition}
use Rattle.vx_ast.specs.declared.tree.GlobalVariable.{GlobalVariable}
use Rattle.vx_ast.specs.Scopes.{global_of, globals_of}
use Rattle.vx_ast.specs.SyntaxView.{definition_of}
use Rattle.vx_names.proofs.Lists.{drop_next}
use Rattle.vx_types.proofs.program.globals.Goals as goal

pub loop-definition-preserved : goal.loop-definition-preserved
loop-definition-preserved c =
    let all = c.args.definitions.now in
    let i = c.loop-definition.definition-index in
    let x = c.definition-item.result in
    let made = c.loop-definition.made in
    let rest = globals_of (map definition_of (drop (i + 1) all)) in
    ap (λ (z : List GlobalVariable). z ++ rest) c.in_ok-add_global.ensures ∙ append_assoc made (global_of (definition_of x)) rest
    ∙ sym (ap (λ (z : List Definition). made ++ globals_of (map definition_of z)) (drop_next all i x c.loop-definition-test.true c.definition-item.is)) ∙ c.loop-definition.invariant

pub returns : goal.returns
returns c =
    let made = c.loop-definition.made in
    sym (append-nil made) ∙ sym (ap (λ (z : List Definition). made ++ globals_of (map definition_of z)) (drop_all c.loop-definition.definition-index c.args.definitions.now c.loop-definition-test.false)) ∙ c.loop-definition.invariant
