use Rattle.std.proofs.Common.{◌≡◌, ◌+◌, Bool, true, false, ◌||◌, List, ◌∷◌, drop, map, ap, sym, ◌∙◌}
use Rattle.std.proofs.lemmas.List.{drop_all}
use Rattle.std.specs.List.{list_any}
use Rattle.vx_ast.specs.declared.syntax.Definition.{Definition as Written}
use Rattle.vx_ast.specs.Faults.{is_main}
use Rattle.vx_ast.specs.Syntax.{Definition}
use Rattle.vx_ast.specs.SyntaxView.{definition_of}
use Rattle.vx_names.proofs.Lists.{drop_next}
use Rattle.vx_types.proofs.program.has_main.Goals as goal

any_here : (d : Definition) (ds : List Definition) → is_main d ≡ true → true ≡ list_any is_main (d ∷ ds)
any_here d ds h = sym (ap (λ (b : Bool). b || list_any is_main ds) h)

any_behind : (d : Definition) (ds : List Definition) → is_main d ≡ false → list_any is_main ds ≡ list_any is_main (d ∷ ds)
any_behind d ds h = sym (ap (λ (b : Bool). b || list_any is_main ds) h)

pub returns-then-is_main : goal.returns-then-is_main
returns-then-is_main c =
    let all = c.args.definitions.now in
    let i = c.loop-definition.definition-index in
    let x = c.definition-item.result in
    any_here (definition_of x) (map definition_of (drop (i + 1) all)) (sym c.is_main.ensures ∙ c.if-is_main.true)
    ∙ sym (ap (λ (z : List Written). list_any is_main (map definition_of z)) (drop_next all i x c.loop-definition-test.true c.definition-item.is)) ∙ c.loop-definition.invariant

pub loop-definition-preserved : goal.loop-definition-preserved
loop-definition-preserved c =
    let all = c.args.definitions.now in
    let i = c.loop-definition.definition-index in
    let x = c.definition-item.result in
    any_behind (definition_of x) (map definition_of (drop (i + 1) all)) (sym c.is_main.ensures ∙ c.if-is_main.false)
    ∙ sym (ap (λ (z : List Written). list_any is_main (map definition_of z)) (drop_next all i x c.loop-definition-test.true c.definition-item.is)) ∙ c.loop-definition.invariant

pub returns : goal.returns
returns c =
    sym (ap (λ (z : List Written). list_any is_main (map definition_of z)) (drop_all c.loop-definition.definition-index c.args.definitions.now c.loop-definition-test.false)) ∙ c.loop-definition.invariant
