use Rattle.std.proofs.Common.{Bool, Option, not, ap, sym, ◌∙◌}
use Rattle.vx_ast.specs.declared.names.Fault.{Fault}
use Rattle.vx_ast.specs.Faults.{fault_if, least, phrase_faults}
use Rattle.vx_ast.specs.Accepted.{gives_int}
use Rattle.vx_ast.specs.SyntaxView.{phrase_of}
use Rattle.vx_ast.specs.Tree as tree
use Rattle.vx_ast.specs.Tree.{Tree, One}
use Rattle.vx_types.proofs.Leasts.{least_append}
use Rattle.vx_types.proofs.statements.returning.Goals as goal

pub returns-clause-made : goal.returns-clause-made
returns-clause-made c = ap (λ (z : Tree One). tree.ReturnValue z) c.in_ok-value.ensures

pub returns-clause-faults : goal.returns-clause-faults
returns-clause-faults c =
    let first = c.args.first.now in
    let more = phrase_faults c.args.names.now (phrase_of c.args.value.now) in
    c.note_expression.ensures ∙ ap (λ (z : Option Fault). least z more) (c.note-before.ensures ∙ ap (λ (b : Bool). least first (fault_if (not b) 7 c.args.place)) c.gives_int.ensures)
    ∙ sym (least_append first (fault_if (not (gives_int c.args.gives)) 7 c.args.place) more)
