use Rattle.std.proofs.Common.{ℕ, false, Option, ap, sym, ◌∙◌}
use Rattle.vx_ast.specs.declared.names.Fault.{Fault}
use Rattle.vx_ast.specs.declared.tree.Gives.TheVariants.{Int}
use Rattle.vx_ast.specs.declared.syntax.Item.{Item}
use Rattle.vx_ast.specs.Faults.{code_faults, declares, least, phrase_faults}
use Rattle.vx_ast.specs.Resolved.{code_in}
use Rattle.vx_ast.specs.Scopes.{behind}
use Rattle.vx_ast.specs.SyntaxView.{item_of, phrase_of}
use Rattle.vx_ast.specs.Tree as tree
use Rattle.vx_types.proofs.Codes.{holds_on, known_on}
use Rattle.vx_types.proofs.Leasts.{least_append}
use Rattle.vx_types.proofs.items.item.Goals as goal

pub returns-in_ok-number-in-Scalar-clause-made : goal.returns-in_ok-number-in-Scalar-clause-made
returns-in_ok-number-in-Scalar-clause-made c =
    ap (λ (n : ℕ). tree.Clear n) c.in_ok-number-in-Scalar.ensures.number ∙ ap (λ (z : Item). code_in c.args.names.now (item_of z)) (sym c.in-Scalar.is)

pub returns-in_ok-number-in-Array-clause-made : goal.returns-in_ok-number-in-Array-clause-made
returns-in_ok-number-in-Array-clause-made c =
    ap (λ (n : ℕ). tree.ClearArray n) c.in_ok-number-in-Array.ensures.number ∙ ap (λ (z : Item). code_in c.args.names.now (item_of z)) (sym c.in-Array.is)

pub returns-in-ScalarWith-clause-faults : goal.returns-in-ScalarWith-clause-faults
returns-in-ScalarWith-clause-faults c =
    let first = c.args.first.now in
    let value = phrase_faults c.args.names.now (phrase_of c.in-ScalarWith.value) in
    let name = declares c.args.names.now c.in-ScalarWith.name in
    holds_on c.valued.result
    (c.note_name-in-ScalarWith.ensures ∙ ap (λ (z : Option Fault). least z name) c.note_expression-before.ensures ∙ sym (least_append first value name)
    ∙ ap (λ (z : Item). least first (code_faults Int false c.args.names.now (item_of z))) (sym c.in-ScalarWith.is))

pub returns-in-ScalarWith-clause-made : goal.returns-in-ScalarWith-clause-made
returns-in-ScalarWith-clause-made c = known_on c.valued.result (λ m h. h ∙ ap (λ (z : Item). code_in c.args.names.now (item_of z)) (sym c.in-ScalarWith.is)) c.valued.ensures.made

pub returns-in_ok-number-in-Array-clause-known : goal.returns-in_ok-number-in-Array-clause-known
returns-in_ok-number-in-Array-clause-known c = c.in_ok-number-in-Array.ensures.declared ∙ ap (λ (z : Item). behind (item_of z) c.args.names.now) (sym c.in-Array.is)

pub returns-in_ok-number-in-Scalar-clause-known : goal.returns-in_ok-number-in-Scalar-clause-known
returns-in_ok-number-in-Scalar-clause-known c = c.in_ok-number-in-Scalar.ensures.declared ∙ ap (λ (z : Item). behind (item_of z) c.args.names.now) (sym c.in-Scalar.is)
