use Rattle.std.proofs.Common.{Option, ap, sym, ◌∙◌}
use Rattle.vx_ast.specs.declared.names.Fault.{Fault}
use Rattle.vx_ast.specs.declared.syntax.Simple.{Simple}
use Rattle.vx_ast.specs.Faults.{action_faults, least, phrase_faults, target_faults}
use Rattle.vx_ast.specs.SyntaxView.{action_of, phrase_of}
use Rattle.vx_types.proofs.Leasts.{least_append}
use Rattle.vx_types.proofs.items.note_simple.Goals as goal

pub returns-in-Assign : goal.returns-in-Assign
returns-in-Assign c =
    let target = target_faults c.args.names.now c.in-Assign.target.place (phrase_of c.in-Assign.target.expression) in
    let value = phrase_faults c.args.names.now (phrase_of c.in-Assign.value) in
    c.note_expression.ensures ∙ ap (λ (z : Option Fault). least z value) c.note_target-before.ensures ∙ sym (least_append c.args.first target value)
    ∙ ap (λ (z : Simple). least c.args.first (action_faults c.args.names.now (action_of z))) (sym c.in-Assign.is)

pub returns-in-Compound : goal.returns-in-Compound
returns-in-Compound c =
    let target = target_faults c.args.names.now c.in-Compound.target.place (phrase_of c.in-Compound.target.expression) in
    let value = phrase_faults c.args.names.now (phrase_of c.in-Compound.value) in
    c.note_expression-in-Compound.ensures ∙ ap (λ (z : Option Fault). least z value) c.note_target-before-in-Compound.ensures ∙ sym (least_append c.args.first target value)
    ∙ ap (λ (z : Simple). least c.args.first (action_faults c.args.names.now (action_of z))) (sym c.in-Compound.is)
