use Rattle.std.proofs.Common.{◌≡◌, ℕ, ◌+◌, Bool, true, false, if◌then◌else◌, List, ◌∷◌, drop, map, ap, sym, ◌∙◌}
use Rattle.vx_ast.specs.declared.syntax.Definition.{Definition as Written}
use Rattle.vx_ast.specs.Faults.{is_main}
use Rattle.vx_ast.specs.Resolved.{main_from}
use Rattle.vx_ast.specs.Syntax.{Definition, GlobalScalar, GlobalArray, AFunction}
use Rattle.vx_ast.specs.SyntaxView.{definition_of}
use Rattle.vx_names.proofs.Lists.{drop_next}
use Rattle.vx_types.proofs.program.main_number.Goals as goal

main_here : (n : ℕ) (d : Definition) (ds : List Definition) → is_main d ≡ true → n ≡ main_from n (d ∷ ds)
main_here n (GlobalScalar x z) ds h = absurd (let e : false ≡ true = h in cc)
main_here n (GlobalArray x size) ds h = absurd (let e : false ≡ true = h in cc)
main_here n (AFunction f) ds h = ap (λ (b : Bool). if b then n else main_from (n + 1) ds) (sym h)

pub loop-definition-preserved : goal.loop-definition-preserved
loop-definition-preserved c =
    let all = c.args.definitions.now in
    let i = c.loop-definition.definition-index in
    let x = c.definition-item.result in
    c.in_ok-number.ensures (sym c.is_main.ensures ∙ c.if-is_main.false) (map definition_of (drop (i + 1) all))
    ∙ sym (ap (λ (z : List Written). main_from c.loop-definition.number (map definition_of z)) (drop_next all i x c.loop-definition-test.true c.definition-item.is)) ∙ c.loop-definition.invariant

pub returns-then-is_main : goal.returns-then-is_main
returns-then-is_main c =
    let all = c.args.definitions.now in
    let i = c.loop-definition.definition-index in
    let x = c.definition-item.result in
    main_here c.loop-definition.number (definition_of x) (map definition_of (drop (i + 1) all)) (sym c.is_main.ensures ∙ c.if-is_main.true)
    ∙ sym (ap (λ (z : List Written). main_from c.loop-definition.number (map definition_of z)) (drop_next all i x c.loop-definition-test.true c.definition-item.is)) ∙ c.loop-definition.invariant
